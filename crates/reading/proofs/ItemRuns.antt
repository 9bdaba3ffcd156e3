-- The runs of assets and of off-balance items. Assumes nothing.
use Prim.Native.Nat.{ℕ, ◌+◌, ◌≤◌}
use mathlib.Core.Path.{◌≡◌, refl, sym, ◌∙◌, ap}
use mathlib.Core.Bool.{Bool, true, false}
use mathlib.Core.List.{List}
use native.Mathlib.Nat.{add-zero}
use native.Mathlib.Omega.{arith}
use borrow.Author.Tests.{eqb-false}
use lib.ListN.{drop}
use lib.Seq.{get_or-drop}
use Rattle.rules.specs.declared.Bands.{Bands}
use Rattle.rules.specs.declared.Sums.{Sums}
use Rattle.rules.specs.Word.{word, size_of}
use Rattle.rules.specs.Book.{asset, off_balance}
use Rattle.rules.specs.Faults.{asset_fault, off_balance_fault}
use Rattle.rules.specs.Read.{head_of, stands, asset_at, asset_turn, off_balance_at, off_balance_turn}
use Rattle.rules.specs.Rows.{asset_rows, row18}
use Rattle.records.specs.Readable.{Readable}
use Rattle.records.specs.Sums.{plus}
use Rattle.records.specs.Step.{plus_item, asset_words, asset_list, asset_cause, asset_sums, off_balance_words, off_balance_list, off_balance_cause, off_balance_sums, sound_at}
use Rattle.records.specs.Good.{asset_is}
use Rattle.records.proofs.Good.{asset_part, good_within}
use Rattle.records.proofs.SumLaws.{asset_more, off_balance_more}
use Rattle.std.specs.Prelude.{Ok}
use Rattle.reading.specs.Admission.{Refused}
use Rattle.reading.specs.declared.items.ItemAnswer.TheVariants as item
use Rattle.reading.specs.Steps.{SumsUpTo}
use Rattle.reading.specs.Ahead.{ends_at, from_item, AnswersItem}
use Rattle.reading.proofs.AheadLaws.{Onward}
use Rattle.reading.proofs.ItemLaws.{met, part_at, from_is, kind_here, of_kind_2, of_kind_10}
use Rattle.reading.proofs.HeadLaws.{record_halts}
use Rattle.reading.proofs.RunLaws.{Running, run_goes_on, run_left, one_more}

-- ---- the end of a run

-- a record of the kind that is not sound has a fault
faulty_there : (k : ℕ) (cause : List ℕ → ℕ) (ws : List ℕ) (at : ℕ) {b : Bool} → b ≡ sound_at k cause ws at → b ≡ false → stands k ws at ≡ true → cause (drop at ws) ≡ 0 → ⊥
faulty_there k cause ws at q e h = eqb-false _ _ (rw h at (sym q ∙ e))

-- so it is not told that none fits
pub fault_found : (k : ℕ) (cause : List ℕ → ℕ) (ws : List ℕ) (at : ℕ) {b : Bool} → b ≡ sound_at k cause ws at → b ≡ false → stands k ws at ≡ true → {n : ℕ} → n ≡ cause (part_at ws at) → n ≡ 0 → ⊥
fault_found k cause ws at q e h nq z = faulty_there k cause ws at q e h (ap cause (sym (from_is ws at)) ∙ sym nq ∙ z)

module _ {ws : List ℕ} {s : Sums} {from : ℕ} {t : Sums} {at : ℕ} (r : Running ws s from t at) where
  pub run_ends : (k : ℕ) {b : Bool} → b ≡ stands k ws at → b ≡ false → stands k ws from ≡ true → {u : Sums} → u ≡ t → AnswersItem ws s from (Ok (item.More u at))
  run_ends k q e h uq = rw uq (r.same, (r.sums_up_to, run_left r k q e h))

  pub assets_refused : {b : Bool} → b ≡ sound_at 2 asset_cause ws at → b ≡ false → stands 2 ws at ≡ true → {n : ℕ} → n ≡ asset_cause (part_at ws at) → (bands : Bands) → from_item bands ws s from ≡ ends_at (Refused n at)
  unfolding asset_turn
  assets_refused q e h {n} nq bands =
      let m = met 2 r.sums_up_to h in
      let c = nq ∙ ap asset_cause (from_is ws at) in
      r.same bands ∙ record_halts bands n (λ z. faulty_there 2 asset_cause ws at q e h (sym c ∙ z)) m (λ z. omega arith) _ _ (of_kind_2 _ (kind_here m)) c

  pub off_balance_refused : {b : Bool} → b ≡ sound_at 10 off_balance_cause ws at → b ≡ false → stands 10 ws at ≡ true → {n : ℕ} → n ≡ off_balance_cause (part_at ws at) → (bands : Bands) → from_item bands ws s from ≡ ends_at (Refused n at)
  unfolding off_balance_turn
  off_balance_refused q e h {n} nq bands =
      let m = met 10 r.sums_up_to h in
      let c = nq ∙ ap off_balance_cause (from_is ws at) in
      r.same bands ∙ record_halts bands n (λ z. faulty_there 10 off_balance_cause ws at q e h (sym c ∙ z)) m (λ z. omega arith) _ _ (of_kind_10 _ (kind_here m)) c

-- ---- one more

module _ (ws : List ℕ) (at : ℕ) where
  word_here : (k : ℕ) → word (drop at ws) k ≡ word ws (at + k)
  word_here k = get_or-drop at ws k 0

  asset_listed : asset_at (drop at ws) ≡ asset_at (asset_list (asset_words ws at))
  unfolding asset_at
  asset_listed = simp (word_here, add-zero)

  off_balance_listed : off_balance_at (drop at ws) ≡ off_balance_at (off_balance_list (off_balance_words ws at))
  unfolding off_balance_at
  off_balance_listed = simp (word_here, add-zero)

module _ {ws : List ℕ} {t : Sums} {at : ℕ} (f : SumsUpTo ws t at) {b : Bool} (q : b ≡ sound_at 2 asset_cause ws at) (e : b ≡ true) where
  asset_onward : (bands : Bands) → Onward bands ws t at (plus_item bands t (asset (asset_at (drop at ws)))) (at + 4)
  unfolding asset_turn
  asset_onward = one_more 2 (λ z. omega arith) (λ (p : List ℕ). asset_fault (word p 0) (word p 1) (word p 2) (word p 3)) (λ (p : List ℕ). asset (asset_at p)) (λ _ p. refl) of_kind_2 f (sym q ∙ e)

  pub asset_there : Readable (at + 4) ws
  asset_there = record { within = (asset_onward (head_of ws).bands).sums_up_to.readable.within; short = f.readable.short }

  -- "p + d at most c"
  pub asset_within : size_of (word ws (at + 2)) ≤ size_of (word ws (at + 1))
  asset_within = good_within (asset_words ws at) (asset_is ws at (omega (arith, asset_there.within)) ∙ asset_part ws at ∙ sym q ∙ e)

module _ {ws : List ℕ} (s : Sums) {from : ℕ} (carried deducted : ℕ) {at : ℕ} (r : Running ws s from (plus s (asset_sums carried deducted)) at) {b : Bool} (q : b ≡ sound_at 2 asset_cause ws at) (e : b ≡ true) where
  pub asset_next : {x y : ℕ} → x ≡ (asset_rows (asset_at (asset_list (asset_words ws at)))).carried → y ≡ (asset_rows (asset_at (asset_list (asset_words ws at)))).deducted
      → Running ws s from (plus s (asset_sums (carried + x) (deducted + y))) (at + 4)
  asset_next xq yq =
      rw (xq, yq, ← (asset_listed ws at)) (
      run_goes_on r (head_of ws).bands
      (λ bands. rw (asset_more bands s carried deducted (asset_at (drop at ws))) at (asset_onward r.sums_up_to q e bands))
      )

module _ {ws : List ℕ} {t : Sums} {at : ℕ} (f : SumsUpTo ws t at) {b : Bool} (q : b ≡ sound_at 10 off_balance_cause ws at) (e : b ≡ true) where
  off_balance_onward : (bands : Bands) → Onward bands ws t at (plus_item bands t (off_balance (off_balance_at (drop at ws)))) (at + 2)
  unfolding off_balance_turn
  off_balance_onward = one_more 10 (λ z. omega arith) (λ (p : List ℕ). off_balance_fault (word p 0) (word p 1)) (λ (p : List ℕ). off_balance (off_balance_at p)) (λ _ p. refl) of_kind_10 f (sym q ∙ e)

  pub off_balance_there : Readable (at + 2) ws
  off_balance_there = record { within = (off_balance_onward (head_of ws).bands).sums_up_to.readable.within; short = f.readable.short }

module _ {ws : List ℕ} (s : Sums) {from : ℕ} (notionals unconverted : ℕ) {at : ℕ} (r : Running ws s from (plus s (off_balance_sums notionals unconverted)) at) {b : Bool} (q : b ≡ sound_at 10 off_balance_cause ws at) (e : b ≡ true) where
  pub off_balance_next : {x y : ℕ} → x ≡ (off_balance_at (off_balance_list (off_balance_words ws at))).notional → y ≡ row18 (off_balance (off_balance_at (off_balance_list (off_balance_words ws at))))
      → Running ws s from (plus s (off_balance_sums (notionals + x) (unconverted + y))) (at + 2)
  off_balance_next xq yq =
      rw (xq, yq) (
      run_goes_on r (head_of ws).bands
      (λ bands. rw (off_balance_listed ws at) at (rw (off_balance_more bands s notionals unconverted (off_balance_at (drop at ws))) at (off_balance_onward r.sums_up_to q e bands)))
      )
