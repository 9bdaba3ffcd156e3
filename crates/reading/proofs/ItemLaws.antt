-- A record that stands where an item is due: the part of the book that begins there, its cause, and items without draws. Assumes nothing.
use Prim.Native.Nat.{ℕ, zero, suc, ◌+◌, ◌-◌, ◌≤◌, ◌<◌}
use mathlib.Core.Path.{◌≡◌, refl, sym, ◌∙◌, ap}
use mathlib.Core.Bool.{Bool, true, false, cond}
use mathlib.Core.List.{List, []}
use native.Mathlib.Omega.{arith}
use native.Mathlib.Nat.{add-zero}
use borrow.Author.Tests.{lt-leb, ne_eqb}
use lib.ListN.{length, take, drop, length-drop}
use lib.Seq.{take_all}
use Rattle.rules.specs.declared.Bands.{Bands}
use Rattle.rules.specs.declared.Sums.{Sums}
use Rattle.rules.specs.Word.{word, kind_of, amounts_in}
use Rattle.rules.specs.Book.{Item}
use Rattle.rules.specs.Run.{Turn, bad, some, sound}
use Rattle.rules.specs.Read.{lacks, record_then, stands, asset_turn, derivative_set_turn, financing_set_turn, off_balance_turn, item_of, placed, item_turn}
use Rattle.rules.specs.Register.{draws_in}
use Rattle.rules.proofs.Runs.{FineTurn}
use Rattle.laws.proofs.Records.{stands_is, head_word_lem}
use Rattle.laws.proofs.MemberBounds.{per_word}
use Rattle.laws.proofs.ItemBounds.{placed_weight, fine_item_turn}
use Rattle.records.specs.Sums.{plus, item_sums}
use Rattle.records.specs.Step.{ItemStep, item_step}
use Rattle.records.specs.Step as item
use Rattle.reading.specs.Admission.{Refused}
use Rattle.reading.specs.Steps.{SumsUpTo}
use Rattle.reading.specs.Ahead.{ends_at, from_item}
use Rattle.reading.proofs.AheadLaws.{ahead_bad, ahead_broken, Onward, onward}

-- ---- the part of the book

-- `&book[at..]`
abbrev pub part_at : List ℕ → ℕ → List ℕ
part_at ws at = take (length ws - at) (drop at ws)

-- it is what stands from there on
pub from_is : (ws : List ℕ) (at : ℕ) → part_at ws at ≡ drop at ws
from_is ws at = take_all (length ws - at) (drop at ws) (omega (arith, length-drop at ws))

-- a record of some kind that stands where an item is due
pub record Met (ws : List ℕ) (s : Sums) (at k : ℕ) : Type 0 where
  pub sums_up_to : SumsUpTo ws s at
  pub here : at < length ws
  pub kind : kind_of (word ws at) ≡ k

pub met : {ws : List ℕ} {s : Sums} {at : ℕ} (k : ℕ) → SumsUpTo ws s at → stands k ws at ≡ true → Met ws s at k
met {ws = ws} {at = at} k f e = let h = stands_is k ws at e in record { sums_up_to = f; here = h.0; kind = h.1 }

module _ {ws : List ℕ} {s : Sums} {at k : ℕ} (m : Met ws s at k) where
  pub kind_here : kind_of (word (drop at ws) 0) ≡ k
  kind_here = ap kind_of (head_word_lem ws at) ∙ m.kind

  pub its_kind : kind_of (word (part_at ws at) 0) ≡ k
  its_kind = ap (λ (p : List ℕ). kind_of (word p 0)) (from_is ws at) ∙ kind_here

  pub turn_here : (k ≡ 15 → ⊥) → item_turn ws at ≡ placed at (item_of (drop at ws))
  unfolding item_turn
  turn_here ke = simp (lt-leb _ _ m.here, ne_eqb (kind_of (word ws at)) 15 (λ z. ke (sym m.kind ∙ z)))

-- ---- an item by its kind

module _ (ws : List ℕ) where
  pub of_kind_2 : kind_of (word ws 0) ≡ 2 → item_of ws ≡ asset_turn ws
  unfolding item_of
  of_kind_2 e = simp e

  pub of_kind_4 : kind_of (word ws 0) ≡ 4 → item_of ws ≡ derivative_set_turn ws
  unfolding item_of
  of_kind_4 e = simp e

  pub of_kind_8 : kind_of (word ws 0) ≡ 8 → item_of ws ≡ financing_set_turn ws
  unfolding item_of
  of_kind_8 e = simp e

  pub of_kind_10 : kind_of (word ws 0) ≡ 10 → item_of ws ≡ off_balance_turn ws
  unfolding item_of
  of_kind_10 e = simp e

  pub of_no_kind : (k : ℕ) → k ≡ kind_of (word ws 0) → (k ≡ 2 → ⊥) → (k ≡ 4 → ⊥) → (k ≡ 8 → ⊥) → (k ≡ 10 → ⊥) → item_of ws ≡ bad 5 0
  unfolding item_of
  of_no_kind k q a b c d = simp (← q, ne_eqb _ _ a, ne_eqb _ _ b, ne_eqb _ _ c, ne_eqb _ _ d)

-- ---- a fault

-- a fault at the head of an item
pub halted : (bands : Bands) {ws : List ℕ} {s : Sums} {at k : ℕ} → Met ws s at k → (k ≡ 15 → ⊥) → (number : ℕ) → (number ≡ 0 → ⊥) → item_of (drop at ws) ≡ bad number 0
    → from_item bands ws s at ≡ ends_at (Refused number at)
halted bands {ws} {s} {at} m ke number n e =
    ahead_bad bands ws s at m.sums_up_to.readable.within number (at + 0) n (turn_here m ke ∙ ap (placed at) e) ∙ ap (λ (p : ℕ). ends_at (Refused number p)) (add-zero at)

-- ---- items without draws

pub data Plain : Turn Item → Type 0 where
  bads : {number place : ℕ} → Plain (bad (suc number) place)
  somes : {i : Item} {number place : ℕ} → ((begin : ℕ) → draws_in begin i ≡ []) → Plain (some i number place)

plain_record : (ws : List ℕ) (at fault : ℕ) (next : ℕ → Turn Item) → ((n : ℕ) → Plain (next n)) → Plain (record_then ws at fault next)
unfolding record_then
plain_record ws at fault next h = if (lacks (amounts_in (word ws at)) ws at) fault
  where
    if : (b : Bool) (f : ℕ) → Plain (cond b (bad 6 at) (sound f at (next (at + suc (amounts_in (word ws at))))))
    if true f = bads
    if false zero = h (at + suc (amounts_in (word ws at)))
    if false (suc f) = bads

pub plain_financing : (ws : List ℕ) → Plain (financing_set_turn ws)
unfolding financing_set_turn
plain_financing ws = plain_record ws 0 _ _ (λ n. somes (λ b. refl))

-- what a call answered that reads one: the item is in the sums, or it is faulty
module _ (bands : Bands) {ws : List ℕ} {s : Sums} {at k : ℕ} (m : Met ws s at k) (ke : k ≡ 15 → ⊥) (turn : List ℕ → Turn Item) (plain : Plain (turn (drop at ws))) (is : item_of (drop at ws) ≡ turn (drop at ws))
    (r : ItemStep) (q : r ≡ item_step bands (turn (part_at ws at))) where
  here : item_turn ws at ≡ placed at (turn (drop at ws))
  here = turn_here m ke ∙ ap (placed at) is

  step : r ≡ item_step bands (turn (drop at ws))
  step = q ∙ ap (λ (p : List ℕ). item_step bands (turn p)) (from_is ws at)

  fine : FineTurn (length ws) per_word (placed_weight bands) at (placed at (turn (drop at ws)))
  fine = rw here at (fine_item_turn bands ws at m.sums_up_to.readable.within)

  next_of : (t : Turn Item) → Plain t → item_turn ws at ≡ placed at t → (sums : Sums) (next : ℕ) → item_step bands t ≡ item.next sums next → Onward bands ws s at (plus s sums) (at + next)
  next_of t bads h sums next e = let z : ◌≡◌ {A = ℕ} 0 1 = cc in absurd (omega arith)
  next_of t (somes {i} {number = zero} {place} d) h sums next e =
      let a : item_sums bands i ≡ sums = cc in
      let b : place ≡ next = cc in
      rw (← a, ← b) (onward bands ws s at m.sums_up_to _ (at + place) h (d at))
  next_of t (somes {number = suc n} d) h sums next e = let z : ◌≡◌ {A = ℕ} 0 1 = cc in absurd (omega arith)

  pub item_next : (sums : Sums) (next : ℕ) → r ≡ item.next sums next → Onward bands ws s at (plus s sums) (at + next)
  item_next sums next e = next_of (turn (drop at ws)) plain here sums next (sym step ∙ e)

  refused_of : (t : Turn Item) → Plain t → item_turn ws at ≡ placed at t → FineTurn (length ws) per_word (placed_weight bands) at (placed at t) → (number place : ℕ) → item_step bands t ≡ item.refused number place
      → (at + place ≤ length ws) × (from_item bands ws s at ≡ ends_at (Refused number (at + place)))
  refused_of t (bads {number = n} {place = p}) h f number place e =
      let a : suc n ≡ number = cc in
      let b : p ≡ place = cc in
      rw (← a, ← b) (f.1, ahead_bad bands ws s at m.sums_up_to.readable.within (suc n) (at + p) (λ z. omega arith) h)
  refused_of t (somes {number = zero} d) h f number place e = let z : ◌≡◌ {A = ℕ} 0 1 = cc in absurd (omega arith)
  refused_of t (somes {i} {number = suc n} {place = p} d) h f number place e =
      let a : suc n ≡ number = cc in
      let b : p ≡ place = cc in
      rw (← a, ← b) (f.1, rw (d at) at (ahead_broken bands ws s at m.sums_up_to.readable.within _ n (at + p) h))

  pub item_refused : (number place : ℕ) → r ≡ item.refused number place → (at + place ≤ length ws) × (from_item bands ws s at ≡ ends_at (Refused number (at + place)))
  item_refused number place e = refused_of (turn (drop at ws)) plain here fine number place (sym step ∙ e)

-- a financing set, by what weighing it answered
module _ (bands : Bands) {ws : List ℕ} {s : Sums} {at : ℕ} (m : Met ws s at 8) where
  pub financing_next : {more : Sums} {next : ℕ} → ((b : Bands) → item.next more next ≡ item_step b (financing_set_turn (part_at ws at))) → Onward bands ws s at (plus s more) (at + next)
  financing_next q = item_next bands m (λ z. omega arith) financing_set_turn (plain_financing _) (of_kind_8 _ (kind_here m)) _ (q bands) _ _ refl

  pub financing_refused : {number place : ℕ} → ((b : Bands) → item.refused number place ≡ item_step b (financing_set_turn (part_at ws at)))
      → (at + place ≤ length ws) × (from_item bands ws s at ≡ ends_at (Refused number (at + place)))
  financing_refused q = item_refused bands m (λ z. omega arith) financing_set_turn (plain_financing _) (of_kind_8 _ (kind_here m)) _ (q bands) _ _ refl
