-- What stands where a member of a set is due: what lies ahead behind it, and how large the tally is. Assumes nothing.
use Prim.Native.Nat.{ℕ, suc, ◌+◌, ◌-◌, ◌^◌, ◌≤◌, ◌<◌}
use mathlib.Core.Path.{◌≡◌, refl, sym, ◌∙◌, ap}
use mathlib.Core.Bool.{true, false}
use mathlib.Core.List.{List, ◌∷◌}
use native.Mathlib.Omega.{arith}
use borrow.Author.Tests.{lt-ltb, ltb-false}
use lib.ListN.{length}
use Rattle.std.specs.Prelude.{Some, None, Ok, Err}
use Rattle.rules.specs.declared.Bands.{Bands}
use Rattle.rules.specs.declared.causes.Refusal.{Refusal}
use Rattle.rules.specs.Numbers.{cause_number}
use Rattle.rules.specs.Word.{word, size_of, amounts_of_kind}
use Rattle.rules.specs.Book.{Trade, Member, trade}
use Rattle.rules.specs.Run.{Turn, bad, some, run_from}
use Rattle.rules.specs.Faults.{written_fault}
use Rattle.rules.specs.Register.{draws_of}
use Rattle.rules.specs.Weigh.{loss_in, uncovered_in}
use Rattle.rules.specs.Read.{lacks, stands, record_then, cover_turn, with_covers, written_turn, trade_at, trade_turn, member_turn}
use Rattle.rules.proofs.Numbers.{cause_some}
use Rattle.rules.proofs.Runs.{FineTurn}
use Rattle.records.specs.Readable.{Readable}
use Rattle.records.specs.Cause.{record_cause}
use Rattle.records.proofs.Words.{whole, record_faulty, record_good}
use Rattle.laws.proofs.Valid.{cause_none}
use Rattle.laws.proofs.Records.{stands_is, amounts_at_lem}
use Rattle.laws.proofs.FactorBounds.{loss_small}
use Rattle.laws.proofs.MemberBounds.{per_word, member_weight, fine_member}
use Rattle.weighing.specs.declared.read.TradeWords.{TradeWords}
use Rattle.weighing.specs.declared.read.WrittenWords.{WrittenWords}
use Rattle.weighing.specs.declared.tally.Tally.{Tally}
use Rattle.derivatives.specs.declared.members.MemberStep.TheVariants.{Next}
use Rattle.weighing.specs.Words.{FaultAt, trade_words, trade_of, trade_fault_of, trade_cause, written_words, written_fault_of, written_cause}
use Rattle.weighing.specs.Gathered.{plus_member, TallyRoomy}
use Rattle.derivatives.specs.Ahead.{set_ahead, TallyUpTo, Standing, MemberRead}
use Rattle.weighing.proofs.Layouts.{trade_laid}
use Rattle.derivatives.proofs.Ahead.{member_bad, member_more, member_opens}

-- ---- how large a tally is

pub tally_roomy : {t : Tally} {at : ℕ} → TallyUpTo t at → at ≤ 2 ^ 20 → TallyRoomy t
tally_roomy s h = record {
  gains = omega (arith, s.weight);
  losses = omega (arith, s.losses);
  gross = omega (arith, s.weight);
  uncovered = omega (arith, s.weight, s.uncovered);
  written = omega (arith, s.weight);
  covered = omega (arith, s.weight);
}

-- a written credit without a fault has no more loss than notional
pub loss_under : (w : WrittenWords) → written_fault_of w ≡ 0 → size_of w.loss_taken ≤ size_of w.notional
unfolding written_fault
loss_under w e =
    let a = (cause_none 6 _ _ e).1 in
    let b = (cause_none 7 _ _ a).1 in
    ltb-false _ _ (cause_none 8 _ _ b).0

module _ {ws : List ℕ} {t : Tally} {at : ℕ} (s : Standing ws at t) where
  -- ---- a record of some kind, by its cause

  module _ (kind : ℕ) (k : stands kind ws at ≡ true) where
    pub head_there : Readable (suc at) ws
    head_there = record { within = omega (arith, (stands_is kind ws at k).0); short = s.readable.short }

    module _ (fault : ℕ) (next : ℕ → Turn Member) (turn : member_turn ws at ≡ record_then ws at fault next) where
      abbrev its_cause : ℕ
      its_cause = record_cause (amounts_of_kind kind (word ws at)) ws at fault

      pub faulty : (r : Refusal) → FaultAt its_cause at (Err r) → (bands : Bands) → MemberRead bands ws at t (Err r)
      faulty r q bands =
          let n : cause_number r.cause ≡ 0 → ⊥ = cause_some r.cause in
          rw q.1 (
            λ begin. member_bad bands ws begin t at s.readable.within (cause_number r.cause) at
                (turn ∙ record_faulty ws at (amounts_of_kind kind (word ws at)) (amounts_at_lem _ (stands_is kind ws at k).1) fault next (λ z. n (q.0 ∙ z)) ∙ ap (λ (x : ℕ). bad x at) (sym q.0)) n,
            s.readable.within,
          )

      good : its_cause ≡ 0 → (lacks (amounts_of_kind kind (word ws at)) ws at ≡ false) × (record_then ws at fault next ≡ next (at + suc (amounts_of_kind kind (word ws at))))
      good z = record_good ws at (amounts_of_kind kind (word ws at)) (amounts_at_lem _ (stands_is kind ws at k).1) fault next z

      readable : its_cause ≡ 0 → Readable (at + suc (amounts_of_kind kind (word ws at))) ws
      readable z = whole (amounts_of_kind kind (word ws at)) refl (good z).0 head_there

    -- a member without covers, which joins the tally as it is
    module _ (fault : ℕ) (x : Member) (plain : (begin : ℕ) (ms : List Member) → draws_of begin (x ∷ ms) ≡ draws_of begin ms) (covered : uncovered_in x ≡ 0) (loss : loss_in x < 2 ^ 27)
        (turn : member_turn ws at ≡ record_then ws at fault (some x 0)) (z : record_cause (amounts_of_kind kind (word ws at)) ws at fault ≡ 0) (bands : Bands) where
      abbrev next : ℕ
      next = at + suc (amounts_of_kind kind (word ws at))

      turn_is : member_turn ws at ≡ some x 0 next
      turn_is = turn ∙ (good fault (some x 0) turn z).1

      small : TallyUpTo (plus_member bands t x) next
      small =
          let w : FineTurn (length ws) per_word (member_weight bands) at (some x 0 next) = rw turn_is at (fine_member bands ws at s.readable.within) in
          record {
            weight = omega (arith, s.small.weight, w.2);
            losses = omega (arith, s.small.losses, loss, w.0);
            uncovered = omega (arith, s.small.uncovered, covered);
          }

      pub joins : {more : Tally} → more ≡ plus_member bands t x → MemberRead bands ws at t (Ok (Next (record { at = next; tally = more; credit = None })))
      unfolding set_ahead
      joins mq =
          rw mq (
            λ begin. member_more bands ws begin t at s.readable.within x (plain begin) next turn_is,
            (record { readable = readable fault (some x 0) turn z; small = small; credit = tt }, omega arith),
          )

  -- ---- kind 5

  module _ (k : stands 5 ws at ≡ true) where
    abbrev trade_next : ℕ → Turn Member
    trade_next = some (trade (trade_at ws at)) 0

    trade_turn_lem : member_turn ws at ≡ record_then ws at (trade_fault_of (trade_words ws at)) trade_next
    unfolding member_turn trade_turn
    trade_turn_lem = simp k

    pub trade_faulty : (r : Refusal) → FaultAt (trade_cause ws at) at (Err r) → (bands : Bands) → MemberRead bands ws at t (Err r)
    trade_faulty = faulty 5 k (trade_fault_of (trade_words ws at)) trade_next trade_turn_lem

    module _ (z : trade_cause ws at ≡ 0) where
      pub trade_readable : Readable (at + 5) ws
      trade_readable = readable 5 k (trade_fault_of (trade_words ws at)) trade_next trade_turn_lem z

      pub trade_good : (bands : Bands) {x : TradeWords} → x ≡ trade_words ws at → {more : Tally} → more ≡ plus_member bands t (trade (trade_of x))
          → MemberRead bands ws at t (Ok (Next (record { at = at + 5; tally = more; credit = None })))
      unfolding trade_at draws_of
      trade_good bands xq mq =
          joins 5 k (trade_fault_of (trade_words ws at)) (trade (trade_at ws at)) (λ begin ms. refl) refl (loss_small (word ws (at + 1))) trade_turn_lem z bands (mq ∙ ap (λ (y : Trade). plus_member bands t (trade y)) (trade_laid ws at xq))

  -- ---- kind 6, which opens

  module _ (k : stands 6 ws at ≡ true) where
    abbrev written_next : ℕ → Turn Member
    written_next next = with_covers ws at (run_from (cover_turn ws) (suc (length ws)) next)

    written_turn_lem : member_turn ws at ≡ record_then ws at (written_fault_of (written_words ws at)) written_next
    unfolding member_turn written_turn
    written_turn_lem = let k6 = stands_is 6 ws at k in simp (lt-ltb at (length ws) k6.0, k6.1)

    pub written_faulty : (r : Refusal) → FaultAt (written_cause ws at) at (Err r) → (bands : Bands) → MemberRead bands ws at t (Err r)
    written_faulty = faulty 6 k (written_fault_of (written_words ws at)) written_next written_turn_lem

    module _ (z : written_cause ws at ≡ 0) where
      pub written_readable : Readable (at + 6) ws
      written_readable = readable 6 k (written_fault_of (written_words ws at)) written_next written_turn_lem z

      written_turns : (lacks 5 ws at ≡ false) × (record_then ws at (written_fault_of (written_words ws at)) written_next ≡ written_next (at + 6))
      written_turns = good 6 k (written_fault_of (written_words ws at)) written_next written_turn_lem z

      under : size_of (word ws (at + 3)) ≤ size_of (word ws (at + 2))
      under = loss_under (written_words ws at) (sym (simp written_turns.0) ∙ z)

      module _ {x : WrittenWords} (xq : x ≡ written_words ws at) {n l : ℕ} (nq : n ≡ size_of x.notional) (lq : l ≡ size_of x.loss_taken) where
        pub written_under : l ≤ n
        written_under = rw (lq, nq, xq) under

        pub written_good : (bands : Bands) → MemberRead bands ws at t (Ok (Next (record { at = at + 6; tally = t; credit = Some (record { place = at; covered = 0; room = n - l }) })))
        unfolding set_ahead
        written_good bands =
            rw (lq, nq, xq) (
              λ begin. member_opens bands ws begin t at s.readable.within (written_turn_lem ∙ written_turns.1),
              (
                record {
                  readable = written_readable;
                  small = s.small;
                  credit = record { before = omega arith; under = under; covered = omega arith };
                },
                omega arith,
              ),
            )
