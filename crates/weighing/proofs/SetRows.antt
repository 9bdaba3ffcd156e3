-- What a set brings: each piece by what the calls gave, and how large it is. Assumes nothing.
use Prim.Native.Nat.{ℕ, ◌+◌, ◌-◌, ◌*◌, ◌≤◌}
use mathlib.Core.Path.{◌≡◌, refl}
use mathlib.Core.Bool.{Bool, true, false, cond}
use native.Mathlib.Omega.{arith}
use Rattle.rules.specs.Read.{derivative_set_at}
use Rattle.rules.specs.Weigh.{margin_offsets, replacement_of, weighted_in}
use Rattle.rules.proofs.Weighted.{mono_x}
use Rattle.laws.proofs.ItemRows.{marked, replacement_at_most, weighted_at_most}
use Rattle.records.specs.Sums.{SumsRoomy}
use Rattle.weighing.specs.declared.read.SetWords.{SetWords}
use Rattle.weighing.specs.declared.tally.Tally.{Tally}
use Rattle.weighing.specs.Words.{set_of}
use Rattle.weighing.specs.Gathered.{tally_by, weighted_by, set_sums, TallyFits}

-- ---- how large

-- the weighted add-on of the smaller is the smaller
pub weighted_less : (b : Bool) (gains losses x y r s : ℕ) → r ≡ weighted_by b gains losses x → s ≡ weighted_by b gains losses y → x ≤ y → r ≤ s
unfolding weighted_by
weighted_less true gains losses x y r s e f h = omega (arith, mono_x x y gains (gains - losses) h)
weighted_less false gains losses x y r s e f h = omega arith

-- margin taken off with the losses is margin taken off the net
pub margin_off : (a b : Bool) (gains losses received : ℕ)
    → cond a (gains - (losses + cond b received 0)) gains ≡ cond a (cond b (gains - losses - received) (gains - losses)) gains
margin_off true true gains losses received = omega arith
margin_off true false gains losses received = omega arith
margin_off false b gains losses received = refl

-- ---- what a set brings can be added

module _ (d : SetWords) {t : Tally} (f : TallyFits t) where
  pub set_roomy : SumsRoomy (set_sums (set_of d) t)
  unfolding derivative_set_at
  set_roomy =
      let s = set_of d in
      let weight = f.weight in
      let replaced = replacement_at_most s (tally_by t) in
      let gross = weighted_at_most s (tally_by t) t.gross in
      let kept = weighted_at_most s (tally_by t) (t.gross - t.uncovered) in
      record {
        assets = omega arith;
        deducted = omega arith;
        replacement = omega arith;
        weighted = omega arith;
        posted = omega arith;
        offset = omega (arith, marked (margin_offsets s) (1000 * s.paid));
        exempt = omega (arith, marked s.exempt (1000 * replacement_of s (tally_by t) + weighted_in s (tally_by t) (t.gross - t.uncovered)));
        written = omega arith;
        covered = omega arith;
        financed = omega arith;
        netted = omega arith;
        principal = omega arith;
        agent = omega arith;
        committed = omega arith;
        unconverted = omega arith;
      }
