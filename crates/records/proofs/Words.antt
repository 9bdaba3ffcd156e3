-- The words behind a place, one by one from the last; what `lacking` and `standing` tell; and a record's turn by them.
-- Assumes nothing.
use Prim.Native.Nat.{ℕ, zero, suc, ◌+◌, ◌-◌, ◌≤◌, ◌<◌}
use mathlib.Core.Path.{◌≡◌, refl, sym, ap, ◌∙◌}
use mathlib.Core.Bool.{Bool, true, false, not, ◌||◌, cond, or_comm, and-false}
use mathlib.Core.List.{List}
use native.Mathlib.Omega.{arith}
use native.Mathlib.Numerals.{add-one}
use borrow.Author.Tests.{le-leb, lt-leb}
use lib.Dec.{eqb}
use lib.ListN.{length, take, drop, get_or, length-drop}
use lib.Seq.{get_or-drop}
use Rattle.std.specs.List.{fold, slice_range}
use Rattle.std.proofs.lemmas.List.Sums.{fold_more}
use Rattle.rules.specs.Word.{word, kind_of, amounts_in}
use Rattle.rules.specs.declared.causes.Cause.{Cause}
use Rattle.rules.specs.Numbers.{cause_number}
use Rattle.rules.specs.Run.{Turn, bad, sound}
use Rattle.rules.specs.Read.{lacks, record_then}
use Rattle.laws.proofs.Records.{lacks_room}
use Rattle.records.specs.Cause.{sound_record}
use Rattle.records.specs.Readable.{Readable}

-- ---- `lacking`

module _ (ws : List ℕ) (at n : ℕ) where
  pub lacking_short : (i : ℕ) → 0 < i → length ws ≤ at + i → true ≡ lacks i ws at
  unfolding lacks
  lacking_short zero h k = let z : ⊥ = omega arith in absurd z
  lacking_short (suc i) h k = simp (le-leb _ _ k)

-- from the first of the words on, as the fold goes
module _ (ws : List ℕ) (at : ℕ) where
  others_in : ℕ → Bool
  others_in n = fold (λ (other : Bool) (w : ℕ). other || not (eqb (kind_of w) 0)) false (take n (drop (at + 1) ws))

  others_lacking : (n : ℕ) → at + n < length ws → others_in n ≡ lacks n ws at
  unfolding lacks others_in
  others_lacking zero h = refl
  others_lacking (suc n) h =
      let there : n < length (drop (at + 1) ws) = omega (arith, length-drop (at + 1) ws) in
      let word_there : get_or (drop (at + 1) ws) n 0 ≡ word ws (at + suc n) = get_or-drop (at + 1) ws n 0 ∙ ap (word ws) (omega arith) in
      let more = rw (word_there, others_lacking n (omega arith)) at (fold_more (λ (other : Bool) (w : ℕ). other || not (eqb (kind_of w) 0)) false (drop (at + 1) ws) n 0 there) in
      rw (add-one n) at more ∙ simp (lt-leb (length ws) (at + suc n) h) (or_comm (lacks n ws at) (not (eqb (kind_of (word ws (at + suc n))) 0)))

  pub lacking_fold : (n : ℕ) → at + n < length ws
      → fold (λ (other : Bool) (w : ℕ). other || not (eqb (kind_of w) 0)) false (slice_range ws (at + 1) (at + n + 1)) ≡ lacks n ws at
  unfolding others_in
  lacking_fold n h =
      let width : at + n + 1 - (at + 1) ≡ n = omega arith in
      rw width (others_lacking n h)

-- a record whose words are not all there is none without a fault
pub none_there : (kind n : ℕ) (ws : List ℕ) (at fault : ℕ) → 0 < n → length ws ≤ at + n → false ≡ sound_record kind n ws at fault
none_there kind n ws at fault h l = simp (← (lacking_short ws at n n h l), and-false)

-- ---- what they tell

-- all words of a record that lacks none are there
pub whole : (n : ℕ) {ws : List ℕ} {at : ℕ} {r : Bool} → r ≡ lacks n ws at → r ≡ false → Readable (suc at) ws → Readable (at + suc n) ws
whole n {ws} {at} q e s = record { within = omega (arith, lacks_room n ws at (sym q ∙ e) s.within); short = s.short }

-- ---- a record by how many amounts its own word has, by what is lacking and by its own fault

module _ {A : Type 0} (ws : List ℕ) (at n : ℕ) (k : amounts_in (word ws at) ≡ n) (f : ℕ) (next : ℕ → Turn A) where
  pub turn_lacks : lacks n ws at ≡ true → record_then ws at f next ≡ bad 6 at
  unfolding record_then
  turn_lacks e = simp (k, e)

  pub turn_fault : lacks n ws at ≡ false → (f ≡ 0 → ⊥) → record_then ws at f next ≡ bad f at
  unfolding record_then
  turn_fault e h = simp (k, e) (go f h)
    where
      go : (g : ℕ) → (g ≡ 0 → ⊥) → sound g at (next (at + suc n)) ≡ bad g at
      go zero h = absurd (h refl)
      go (suc g) h = refl

  pub turn_on : lacks n ws at ≡ false → f ≡ 0 → record_then ws at f next ≡ next (at + suc n)
  unfolding record_then
  turn_on e h = simp (k, e, h)

-- its turn by its cause
module _ {A : Type 0} (ws : List ℕ) (at n : ℕ) (k : amounts_in (word ws at) ≡ n) (f : ℕ) (next : ℕ → Turn A) where
  abbrev cause_of : ℕ
  cause_of = cond (lacks n ws at) 6 f

  pub record_faulty : (cause_of ≡ 0 → ⊥) → record_then ws at f next ≡ bad cause_of at
  record_faulty h = go (lacks n ws at) refl h
    where
      go : (b : Bool) → lacks n ws at ≡ b → (cond b 6 f ≡ 0 → ⊥) → record_then ws at f next ≡ bad (cond b 6 f) at
      go true q h = turn_lacks ws at n k f next q
      go false q h = turn_fault ws at n k f next q h

  pub record_good : cause_of ≡ 0 → (lacks n ws at ≡ false) × (record_then ws at f next ≡ next (at + suc n))
  record_good e = go (lacks n ws at) refl e
    where
      go : (b : Bool) → lacks n ws at ≡ b → cond b 6 f ≡ 0 → (lacks n ws at ≡ false) × (record_then ws at f next ≡ next (at + suc n))
      go true q z = let z : ⊥ = omega arith in absurd z
      go false q z = (q, turn_on ws at n k f next q z)

-- a cause has a number that is not 0
pub cause_some : (c : Cause) → cause_number c ≡ 0 → ⊥
cause_some c h = grind arith
