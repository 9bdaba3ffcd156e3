-- What stands where a cover of the open credit is due: a cover, or anything else, which closes the credit. Assumes nothing.
use Prim.Native.Nat.{ℕ, suc, ◌+◌, ◌^◌, ◌≤◌}
use mathlib.Core.Path.{◌≡◌, refl, sym, ◌∙◌, ap}
use mathlib.Core.Bool.{Bool, true, false, cond}
use mathlib.Core.List.{List, [], ◌∷◌}
use native.Mathlib.Nat.{add-zero}
use native.Mathlib.Omega.{arith}
use lib.ListN.{length}
use Rattle.std.specs.Prelude.{Option, Some, None, Err}
use Rattle.rules.specs.declared.Bands.{Bands}
use Rattle.rules.specs.declared.causes.Refusal.{Refusal}
use Rattle.rules.specs.Numbers.{cause_number}
use Rattle.rules.specs.declared.Draw.{Draw}
use Rattle.rules.specs.Word.{word, size_of}
use Rattle.rules.specs.Book.{Cover}
use Rattle.rules.specs.Run.{Turn, bad, some}
use Rattle.rules.specs.Read.{lacks, stands, record_then, cover_at, cover_turn, written_at}
use Rattle.rules.proofs.Numbers.{cause_some}
use Rattle.records.specs.Readable.{Readable}
use Rattle.records.proofs.Words.{whole, record_faulty, record_good}
use Rattle.laws.proofs.Records.{stands_is, amounts_at_lem}
use Rattle.laws.proofs.FactorBounds.{gain_small, loss_small, written_add_on_lem}
use Rattle.weighing.specs.declared.tally.Tally.{Tally}
use Rattle.derivatives.specs.declared.covers.OpenCredit.{OpenCredit}
use Rattle.weighing.specs.declared.read.WrittenWords.{WrittenWords}
use Rattle.weighing.specs.declared.read.CoverWords.{CoverWords}
use Rattle.derivatives.specs.declared.set.OpenSet.{OpenSet}
use Rattle.weighing.specs.Words.{FaultAt, written_words, written_of, cover_words, cover_fault_of, cover_cause}
use Rattle.weighing.specs.Gathered.{plus_written, TallyRoomy}
use Rattle.derivatives.specs.Ahead.{turned_away, after, from_member, from_cover, set_ahead, tally_with, draw_of, draw_here, plus_cover, TallyUpTo, OpenIn, closed_tally, SoundSet}
use Rattle.weighing.proofs.Layouts.{written_laid}
use Rattle.derivatives.proofs.Turns.{tally_roomy}
use Rattle.derivatives.proofs.Ahead.{cover_over_lem, cover_bad, cover_more}

-- ---- whether a cover is due: a credit is open, and a cover stands there

pub due : (b : Bool) (x : Option OpenCredit) (c : OpenCredit) → cond b x None ≡ Some c → (x ≡ Some c) × (b ≡ true)
due true x c e = (e, refl)
due false x c e = absurd cc

pub not_due : (b : Bool) (c : OpenCredit) → cond b (Some c) None ≡ None → b ≡ false
not_due true c e = absurd cc
not_due false c e = refl

-- ---- how large it is, and that its words are there

module _ {ws : List ℕ} {o : OpenSet} (s : SoundSet ws o) where
  -- the open credit
  module _ {c : OpenCredit} (a : o.credit ≡ Some c) where
    pub open_here : OpenIn ws c o.at
    open_here = rw a at s.credit

    pub open_readable : Readable (c.place + 6) ws
    open_readable = record { within = omega (arith, open_here.before, s.readable.within); short = s.readable.short }

    pub open_covered : c.covered ≤ 2 ^ 62
    open_covered = omega (arith, open_here.covered, s.readable.within, s.readable.short)

    open_small : TallyUpTo o.tally c.place
    open_small = rw a at s.small

    -- the credit closes
    pub open_roomy : TallyRoomy o.tally
    open_roomy = tally_roomy open_small (omega (arith, open_readable.within, s.readable.short))

    pub closed_open : {w : WrittenWords} → w ≡ written_words ws c.place → {t : Tally} → t ≡ plus_written o.tally (written_of w) c.covered → t ≡ closed_tally ws o
    unfolding closed_tally
    closed_open wq q = q ∙ rw (written_laid ws c.place wq) (simp a)

    closed_small : TallyUpTo (tally_with ws o.tally c 0) o.at
    unfolding written_at
    closed_small =
        let gain = gain_small (word ws (c.place + 1)) in
        let loss = loss_small (word ws (c.place + 1)) in
        let add-on = written_add_on_lem (written_at ws c.place []) in
        record {
          weight = omega (arith, open_small.weight, open_here.before, open_here.covered, gain, add-on);
          losses = omega (arith, open_small.losses, open_here.before, loss);
          uncovered = omega (arith, open_small.uncovered);
        }

  pub cover_there : stands 7 ws o.at ≡ true → Readable (suc o.at) ws
  cover_there k = record { within = omega (arith, (stands_is 7 ws o.at k).0); short = s.readable.short }

  -- ---- what lies ahead

  pub some_open : {c : OpenCredit} → o.credit ≡ Some c → (bands : Bands) (begin : ℕ) → set_ahead bands ws begin o ≡ from_cover bands ws begin o.tally c o.at
  unfolding set_ahead
  some_open a bands begin = simp a

  -- no cover stands there, or none is allowed
  pub closes : cond (stands 7 ws o.at) o.credit None ≡ None → {t : Tally} → t ≡ closed_tally ws o
      → ((bands : Bands) (begin : ℕ) → set_ahead bands ws begin o ≡ from_member bands ws begin t o.at) × TallyUpTo t o.at
  unfolding set_ahead closed_tally cover_turn
  closes k {t} q = go o.credit refl
    where
      go : (x : Option OpenCredit) → o.credit ≡ x → ((bands : Bands) (begin : ℕ) → set_ahead bands ws begin o ≡ from_member bands ws begin t o.at) × TallyUpTo t o.at
      go (Some c) a =
          let is : t ≡ tally_with ws o.tally c 0 = q ∙ simp (a, add-zero) in
          let none : stands 7 ws o.at ≡ false = not_due (stands 7 ws o.at) c (rw a at k) in
          rw is (λ bands begin. some_open a bands begin ∙ cover_over_lem bands ws begin o.tally c o.at s.readable.within (simp none), closed_small a)
      go None a =
          let is : t ≡ o.tally = q ∙ simp a in
          rw is (λ bands begin. simp a, rw a at s.small)

  -- a cover stands there
  module _ (k : stands 7 ws o.at ≡ true) where
    abbrev cover_next : ℕ → Turn Cover
    cover_next = some (cover_at ws o.at) 0

    cover_turn_lem : cover_turn ws o.at ≡ record_then ws o.at (cover_fault_of (cover_words ws o.at)) cover_next
    unfolding cover_turn
    cover_turn_lem = simp k

    pub cover_faulty : (r : Refusal) → FaultAt (cover_cause ws o.at) o.at (Err r) → (credit : OpenCredit) (begin : ℕ)
        → ((bands : Bands) → from_cover bands ws begin o.tally credit o.at ≡ turned_away r) × (r.place ≤ length ws)
    cover_faulty r q credit begin =
        let n : cause_number r.cause ≡ 0 → ⊥ = cause_some r.cause in
        rw q.1 (
          λ bands. cover_bad bands ws begin o.tally credit o.at s.readable.within (cause_number r.cause) o.at
              (cover_turn_lem ∙ record_faulty ws o.at 1 (amounts_at_lem _ (stands_is 7 ws o.at k).1) (cover_fault_of (cover_words ws o.at)) cover_next (λ z. n (q.0 ∙ z)) ∙ ap (λ (x : ℕ). bad x o.at) (sym q.0)) n,
          s.readable.within,
        )

    module _ (z : cover_cause ws o.at ≡ 0) where
      good : (lacks 1 ws o.at ≡ false) × (record_then ws o.at (cover_fault_of (cover_words ws o.at)) cover_next ≡ cover_next (o.at + 2))
      good = record_good ws o.at 1 (amounts_at_lem _ (stands_is 7 ws o.at k).1) (cover_fault_of (cover_words ws o.at)) cover_next z

      pub cover_readable : Readable (o.at + 2) ws
      cover_readable = whole 1 refl good.0 (cover_there k)

      module _ {credit : OpenCredit} (a : o.credit ≡ Some credit) {w : WrittenWords} (wq : w ≡ written_words ws credit.place) {x : CoverWords} (xq : x ≡ cover_words ws o.at) (begin : ℕ)
          {d : Draw} (dq : d ≡ draw_of w x (begin + o.at) credit.room) {c : OpenCredit} (cq : c ≡ plus_cover credit d.amount) where
        abbrev behind_cover : OpenSet
        behind_cover = record { at = o.at + 2; tally = o.tally; credit = Some c }

        draw_is : d ≡ draw_here ws begin o.at credit
        draw_is = dq ∙ rw (wq, xq)

        credit_is : c ≡ plus_cover credit (size_of (word ws (o.at + 1)))
        unfolding cover_at
        credit_is = cq ∙ ap (λ (y : Draw). plus_cover credit y.amount) draw_is

        pub cover_good : ((bands : Bands) → from_cover bands ws begin o.tally credit o.at ≡ after (d ∷ []) (set_ahead bands ws begin behind_cover)) × SoundSet ws behind_cover
        unfolding set_ahead
        cover_good =
            let h = open_here a in
            rw (draw_is, credit_is) (
              λ bands. cover_more bands ws begin o.tally credit o.at s.readable.within (o.at + 2) (cover_turn_lem ∙ good.1),
              record {
                readable = cover_readable;
                small = open_small a;
                credit = record { before = omega (arith, h.before); under = h.under; covered = omega (arith, h.covered) };
              },
            )
