-- A run of items that are one record each: one item more, the first fault, and where it ends. Assumes nothing.
use Prim.Native.Nat.{ℕ, suc, ◌+◌, ◌≤◌, ◌<◌}
use mathlib.Core.Path.{◌≡◌, refl, sym, ◌∙◌, ap}
use mathlib.Core.Bool.{Bool, true, false, cond}
use mathlib.Core.List.{List, []}
use native.Mathlib.Omega.{arith}
use borrow.Author.Tests.{eqb-true, leb-true, leb-false}
use lib.Dec.{leb}
use lib.ListN.{drop}
use Rattle.rules.specs.declared.Bands.{Bands}
use Rattle.rules.specs.declared.Sums.{Sums}
use Rattle.rules.specs.Word.{word, kind_of, amounts_of_kind}
use Rattle.rules.specs.Run.{some}
use Rattle.rules.specs.Read.{lacks, record_then, stands, item_of, placed}
use Rattle.rules.specs.Register.{draws_in}
use Rattle.rules.specs.Book.{Item}
use Rattle.rules.proofs.Lists.{and_left, and_right}
use Rattle.laws.proofs.Records.{amounts_at_lem}
use Rattle.records.proofs.Words.{record_good}
use Rattle.records.specs.Step.{plus_item, sound_at}
use Rattle.reading.specs.Steps.{SumsUpTo}
use Rattle.reading.specs.Ahead.{from_item}
use Rattle.reading.proofs.AheadLaws.{Onward, onward}
use Rattle.reading.proofs.ItemLaws.{Met, met, kind_here, turn_here}

-- from a place and its sums on, so far: what lies ahead is the same, whatever the bands
pub record Running (ws : List ℕ) (s : Sums) (from : ℕ) (t : Sums) (at : ℕ) : Type 0 where
  pub same : (bands : Bands) → from_item bands ws s from ≡ from_item bands ws t at
  pub sums_up_to : SumsUpTo ws t at
  pub reached : from ≤ at

pub run_begins : {ws : List ℕ} {s : Sums} {from : ℕ} → SumsUpTo ws s from → {t : Sums} → t ≡ s → Running ws s from t from
run_begins f e = rw e (record { same = λ bands. refl; sums_up_to = f; reached = omega arith })

module _ {ws : List ℕ} {s : Sums} {from : ℕ} {t : Sums} {at : ℕ} (r : Running ws s from t at) where
  pub run_goes_on : (bands : Bands) {u : Sums} {next : ℕ} → ((b : Bands) → Onward b ws t at u next) → Running ws s from u next
  run_goes_on bands o = record { same = λ b. r.same b ∙ (o b).same; sums_up_to = (o bands).sums_up_to; reached = omega (arith, r.reached, (o bands).further) }

  -- where no record of the kind stands it has left its first place
  pub run_left : (k : ℕ) {b : Bool} → b ≡ stands k ws at → b ≡ false → stands k ws from ≡ true → from < at
  run_left k q e h = go (leb at from) refl
    where
      go : (l : Bool) → leb at from ≡ l → from < at
      go true l =
          let z : at ≡ from = omega (arith, leb-true at from l, r.reached) in
          let c : ◌≡◌ {A = Bool} true false = sym h ∙ ap (stands k ws) (sym z) ∙ sym q ∙ e in
          let n : ◌≡◌ {A = ℕ} 0 1 = cc in
          absurd (omega arith)
      go false l = leb-false at from l

-- ---- a kind of items that are one record, with so many amounts

module _ (k : ℕ) (ke : k ≡ 15 → ⊥) (fault : List ℕ → ℕ) (item : List ℕ → Item) (plain : (begin : ℕ) (p : List ℕ) → draws_in begin (item p) ≡ [])
    (is : (p : List ℕ) → kind_of (word p 0) ≡ k → item_of p ≡ record_then p 0 (fault p) (some (item p) 0)) where
  abbrev cause_of : List ℕ → ℕ
  cause_of p = cond (lacks (amounts_of_kind k (word p 0)) p 0) 6 (fault p)

  module _ {ws : List ℕ} {t : Sums} {at : ℕ} (f : SumsUpTo ws t at) where
    pub sound_met : sound_at k cause_of ws at ≡ true → Met ws t at k
    sound_met e = met k f (and_left (stands k ws at) _ e)

    pub sound_cause : sound_at k cause_of ws at ≡ true → cause_of (drop at ws) ≡ 0
    sound_cause e = eqb-true _ _ (and_right (stands k ws at) _ e)

    -- one item more
    pub one_more : sound_at k cause_of ws at ≡ true → (bands : Bands) → Onward bands ws t at (plus_item bands t (item (drop at ws))) (at + (0 + suc (amounts_of_kind k (word (drop at ws) 0))))
    one_more e bands =
        let m = sound_met e in
        onward bands ws t at f _ (at + (0 + suc (amounts_of_kind k (word (drop at ws) 0))))
        (turn_here m ke ∙ ap (placed at) (is (drop at ws) (kind_here m) ∙ (record_good (drop at ws) 0 (amounts_of_kind k (word (drop at ws) 0)) (amounts_at_lem _ (kind_here m)) (fault (drop at ws)) (some (item (drop at ws)) 0) (sound_cause e)).1))
        (plain at (drop at ws))
