-- The pieces of a set's exposure, and what they come to under each setting, by what the calls gave. Assumes nothing.
use Prim.Native.Nat.{ℕ, ◌+◌, ◌-◌, ◌*◌, ◌≤◌, ◌^◌}
use mathlib.Core.Path.{◌≡◌, refl}
use mathlib.Core.Bool.{Bool, cond}
use native.Mathlib.Omega.{arith}
use lib.Dec.{eqb}
use Rattle.rules.specs.Word.{bit_of, field_of, size_of}
use Rattle.rules.specs.Read.{derivative_set_at}
use Rattle.rules.proofs.Weighted.{at_most}
use Rattle.weighing.specs.declared.read.SetWords.{SetWords}
use Rattle.weighing.specs.declared.tally.Tally.{Tally}
use Rattle.weighing.specs.Words.{set_of}
use Rattle.weighing.specs.Gathered.{TallyFits}
use Rattle.weighing.proofs.Truth.{five_bits}
use Rattle.settings.specs.declared.exposure.Pieces.{Pieces}
use Rattle.settings.specs.Pieces.{net_in, kept_netted, pieces_of, exposed_by}

module _ (d : SetWords) (t : Tally) {net share received after : ℕ} (nq : net ≡ net_in t) (sq : share ≡ kept_netted t) (rq : received ≡ size_of d.received)
    (aq : after ≡ net - received) where
  pub netted_fits : TallyFits t → 1000 * net + share ≤ 2 ^ 62
  netted_fits f = omega (arith, f.weight, nq, sq, at_most (t.gross - t.uncovered) t.gains (net_in t) (omega arith))

  pub margined_fits : TallyFits t → 1000 * after + share ≤ 2 ^ 62
  margined_fits f = omega (arith, netted_fits f, aq)

  pub pieces_are : {paid posted : ℕ} → paid ≡ size_of d.paid → posted ≡ size_of d.posted
      → ◌≡◌ {A = Pieces} (record {
        gross = 1000 * t.gains + (t.gross - t.uncovered);
        netted = 1000 * net + share;
        margined = 1000 * after + share;
        paid = 1000 * paid;
        fixed = 1000 * posted + 1000 * (t.written - t.covered);
      }) (pieces_of (set_of d) t)
  unfolding pieces_of derivative_set_at
  pieces_are pq oq = rw (aq, nq, sq, rq, pq, oq) refl

pub exposed_is : (p : Pieces) (m : ℕ) {f netted weighed counted paid : ℕ} {netting exempt : Bool} → f ≡ field_of 0 5 m → netted ≡ cond (eqb f 31) p.margined p.netted → netting ≡ bit_of 0 m
    → weighed ≡ cond netting netted p.gross → exempt ≡ bit_of 5 m → counted ≡ cond exempt 0 weighed → paid ≡ cond (eqb f 31) 0 p.paid → p.fixed + counted + paid ≡ exposed_by p m
unfolding exposed_by
exposed_is p m fq nq bq wq eq cq pq = rw (cq, pq, wq, nq, bq, eq, fq, five_bits m) refl
