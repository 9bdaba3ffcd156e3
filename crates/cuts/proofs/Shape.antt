-- Two books of one shape: word for word the same kind and as many amounts to follow. They lack the same words, the same records stand
-- at the same places, and so they are read in step. Assumes nothing.
use Prim.Native.Nat.{ℕ, zero, suc, ◌+◌, ◌-◌, ◌*◌, ◌^◌, ◌<◌}
use mathlib.Core.Path.{◌≡◌, refl, sym, ◌∙◌, ap, subst, subst₂, fun_ext}
use mathlib.Core.Logic.{◌≢◌}
use mathlib.Core.Bool.{Bool, true, false, not, cond}
use mathlib.Core.List.{List, [], ◌∷◌}
use native.Mathlib.Omega.{arith}
use native.Mathlib.Decide.{ℕ_discrete, dec_lt}
use borrow.Author.Tests.{eqb-true, not-false}
use lib.Dec.{leb, eqb}
use lib.ListN.{length, drop, set, length-drop, length-set}
use lib.Seq.{get_or-drop, get_or-set_same, get_or-set_other, set_out}
use Rattle.rules.specs.Word.{word, kind_of, names_in, amounts_of_kind, amounts_in}
use Rattle.rules.specs.Book.{Protection, Member, Item, Placed}
use Rattle.rules.specs.Run.{Turn, over, bad, some, ended, run_from, sound}
use Rattle.rules.specs.Read.{lacks, record_then, stands, protection_at, protection_turn, written_turn, trade_turn, basket_turn, member_turn, asset_turn, derivative_set_turn, financing_set_turn, off_balance_turn, item_of, placed, end_fault, item_turn, protections_of, items_of}
use Rattle.rules.proofs.Lists.{Pairs}
use Rattle.rules.proofs.Runs.{Turns, Both, both_run, sounds, choices}
use Rattle.laws.proofs.Records.{stands_is, amounts_at_lem}
use Rattle.cuts.specs.Words.{Shape, Wordwise}
use Rattle.cuts.proofs.Records.{protection_fault_at}

-- ---- two words

-- a word has its own shape, as `wordwise_set` asks
pub shape_itself : (a : ℕ) → Shape a a
shape_itself a = record { kind = refl; amounts = refl }

-- the kind decides the shape, but for a basket: of the twelve entries by kind only the last looks at the word
pub kind_shape : (a b : ℕ) → kind_of a ≡ kind_of b → kind_of a ≢ 11 → Shape a b
kind_shape a b e n = record {
  kind = e;
  amounts = sym (get_or-set_other (_ ∷ _ ∷ _ ∷ _ ∷ _ ∷ _ ∷ _ ∷ _ ∷ _ ∷ _ ∷ _ ∷ _ ∷ []) 11 (kind_of a) (names_in b + 2) 0 n) ∙ ap (λ (k : ℕ). amounts_of_kind k b) e;
}

-- two words of one kind with as many names, as two baskets may be
pub names_shape : (a b : ℕ) → kind_of a ≡ kind_of b → names_in a ≡ names_in b → Shape a b
names_shape a b e n = record { kind = e; amounts = rw (e, n) }

-- ---- two lists of words

module _ {W : ℕ → ℕ → Type 0} where
  -- one relation for another that follows from it
  pub wordwise_map : {X : ℕ → ℕ → Type 0} → ((a b : ℕ) → W a b → X a b) → {xs ys : List ℕ} → Wordwise W xs ys → Wordwise X xs ys
  wordwise_map f {xs} {ys} l = record { long = l.long; at = λ i. f (word xs i) (word ys i) (l.at i) }

  -- what begins at a place of the one is beside what begins there in the other
  pub wordwise_drop : (n : ℕ) {xs ys : List ℕ} → Wordwise W xs ys → Wordwise W (drop n xs) (drop n ys)
  wordwise_drop n {xs} {ys} l = record {
    long = length-drop n xs ∙ ap (λ (k : ℕ). k - n) l.long ∙ sym (length-drop n ys);
    at = λ i. subst₂ (λ (a b : ℕ). W a b) (sym (get_or-drop n xs i 0)) (sym (get_or-drop n ys i 0)) (l.at (n + i));
  }

  -- one word changed, for a relation that every word has to itself
  pub wordwise_set : ((a : ℕ) → W a a) → (xs : List ℕ) (k b : ℕ) → W (word xs k) b → Wordwise W xs (set xs k b)
  wordwise_set same xs k b h = record { long = sym (length-set xs k b); at = λ i. here i (ℕ_discrete i k) (dec_lt k (length xs)) }
    where
      here : (i : ℕ) → Dec (i ≡ k) → Dec (k < length xs) → W (word xs i) (word (set xs k b) i)
      here i (yes p) (yes q) = rw (p, get_or-set_same xs k b 0 q) h
      here i (yes p) (no q) = rw (set_out xs k b (omega arith)) (same (word xs i))
      here i (no p) q = rw (get_or-set_other xs k i b 0 p) (same (word xs i))

-- ---- the same turns

module _ {A : Type 0} where
  -- turns of equal records are equal, and equal turns are turns of equal records
  pub turns_eq : (t u : Turn A) → Turns (λ (a b : A). a ≡ b) t u → t ≡ u
  turns_eq t u Turns.overs = refl
  turns_eq t u Turns.bads = refl
  turns_eq t u (Turns.somes {number = n} {place = p} e) = ap (λ (a : A). some a n p) e

  pub eq_turns : (t u : Turn A) → t ≡ u → Turns (λ (a b : A). a ≡ b) t u
  eq_turns t u e = subst (λ (v : Turn A). Turns (λ (a b : A). a ≡ b) t v) e (itself t)
    where
      itself : (t : Turn A) → Turns (λ (a b : A). a ≡ b) t t
      itself over = Turns.overs
      itself (bad number place) = Turns.bads
      itself (some a number place) = Turns.somes refl

  -- the same turn at every place and the same bound on the records, the same run
  pub run_same : (t u : ℕ → Turn A) → ((at : ℕ) → t at ≡ u at) → {k m : ℕ} → k ≡ m → (at : ℕ) → run_from t k at ≡ run_from u m at
  run_same t u h {m = m} e at = ap (λ n. run_from t n at) e ∙ ap (λ f. run_from f m at) (fun_ext h)

-- ---- two books of one shape

module _ {xs ys : List ℕ} (l : Wordwise Shape xs ys) where
  -- they lack the same words
  pub lacks_same : (n at : ℕ) → lacks n xs at ≡ lacks n ys at
  unfolding lacks
  lacks_same zero at = refl
  lacks_same (suc n) at = rw (l.long, (l.at (at + suc n)).kind, lacks_same n at)

  -- the same records stand at the same places
  pub stands_same : (kind at : ℕ) → stands kind xs at ≡ stands kind ys at
  stands_same kind at = rw (l.long, (l.at at).kind)

  module _ {A : Type 0} (Rel : A → A → Type 0) where
    -- a record of a known kind: what is to be shown of its own causes and of what follows, where no word is lacking
    pub record_turns : (kind at f g : ℕ) (t u : ℕ → Turn A) → kind_of (word xs at) ≡ kind
        → (lacks (amounts_of_kind kind (word xs at)) xs at ≡ false → (f ≡ g) × (f ≡ 0 → (next : ℕ) → Turns Rel (t next) (u next)))
        → Turns Rel (record_then xs at f t) (record_then ys at g u)
    unfolding record_then
    record_turns kind at f g t u k h =
        rw (← lacks_same (amounts_in (word ys at)) at, ← (l.at at).amounts, amounts_at_lem (word xs at) k)
        (go (lacks n xs at) refl)
      where
        n : ℕ
        n = amounts_of_kind kind (word xs at)

        go : (b : Bool) → lacks n xs at ≡ b → Turns Rel (cond b (bad 6 at) (sound f at (t (at + suc n)))) (cond b (bad 6 at) (sound g at (u (at + suc n))))
        go true e = Turns.bads
        go false e = let r = h e in rw (← r.0) (sounds Rel f at _ _ (λ z. r.1 z (at + suc n)))

    -- a record that the run goes on with only where its kind stands
    pub stands_turns : (kind at : ℕ) (t u v w : Turn A) → (kind_of (word xs at) ≡ kind → Turns Rel t u) → Turns Rel v w
        → Turns Rel (cond (stands kind xs at) t v) (cond (stands kind ys at) u w)
    stands_turns kind at t u v w h r = rw (← stands_same kind at) (choices Rel (stands kind xs at) t u v w (λ e. h (stands_is kind xs at e).1) (λ _. r))

  -- a protection: what is to be shown of it where its kind stands and no word is lacking
  pub protection_turns : (Rel : Protection → Protection → Type 0) (at : ℕ)
      → (kind_of (word xs at) ≡ 3 → lacks 3 xs at ≡ false → (protection_fault_at xs at ≡ protection_fault_at ys at) × Rel (protection_at xs at) (protection_at ys at))
      → Turns Rel (protection_turn xs at) (protection_turn ys at)
  unfolding protection_turn
  protection_turns Rel at h =
      rw (← l.long, ← (l.at at).kind)
      (choices Rel (leb (length xs) at) _ _ _ _ (λ _. Turns.bads)
      (λ _. choices Rel (not (eqb (kind_of (word xs at)) 3)) _ _ _ _ (λ _. Turns.bads)
      (λ f.
      let k = eqb-true (kind_of (word xs at)) 3 (not-false _ f) in
      record_turns Rel 3 at _ _ _ _ k (λ e. let r = h k e in (r.0, λ _ _. Turns.somes r.1)))))

  -- a member of a derivative set, by its kind
  pub member_turns : (Rel : Member → Member → Type 0) (at : ℕ)
      → (kind_of (word xs at) ≡ 5 → Turns Rel (trade_turn xs at) (trade_turn ys at))
      → (kind_of (word xs at) ≡ 6 → Turns Rel (written_turn xs at) (written_turn ys at))
      → (kind_of (word xs at) ≡ 11 → Turns Rel (basket_turn xs at) (basket_turn ys at))
      → Turns Rel (member_turn xs at) (member_turn ys at)
  unfolding member_turn
  member_turns Rel at a b c = stands_turns Rel 5 at _ _ _ _ a (stands_turns Rel 6 at _ _ _ _ b (stands_turns Rel 11 at _ _ over over c Turns.overs))

  -- an item, by its kind
  pub item_turns : (Rel : Item → Item → Type 0)
      → (kind_of (word xs 0) ≡ 2 → Turns Rel (asset_turn xs) (asset_turn ys))
      → (kind_of (word xs 0) ≡ 4 → Turns Rel (derivative_set_turn xs) (derivative_set_turn ys))
      → (kind_of (word xs 0) ≡ 8 → Turns Rel (financing_set_turn xs) (financing_set_turn ys))
      → (kind_of (word xs 0) ≡ 10 → Turns Rel (off_balance_turn xs) (off_balance_turn ys))
      → Turns Rel (item_of xs) (item_of ys)
  unfolding item_of
  item_turns Rel a b c d =
      rw (← (l.at 0).kind)
      (choices Rel (eqb (kind_of (word xs 0)) 2) _ _ _ _ (λ e. a (eqb-true _ 2 e))
      (λ _. choices Rel (eqb (kind_of (word xs 0)) 4) _ _ _ _ (λ e. b (eqb-true _ 4 e))
      (λ _. choices Rel (eqb (kind_of (word xs 0)) 8) _ _ _ _ (λ e. c (eqb-true _ 8 e))
      (λ _. choices Rel (eqb (kind_of (word xs 0)) 10) _ _ _ _ (λ e. d (eqb-true _ 10 e))
      (λ _. Turns.bads)))))

  -- what stands at a place behind the protections: nothing more, the end word or an item
  pub place_turns : (Rel : Placed → Placed → Type 0) (at : ℕ)
      → (kind_of (word xs at) ≡ 15 → end_fault xs at ≡ end_fault ys at)
      → Turns Rel (placed at (item_of (drop at xs))) (placed at (item_of (drop at ys)))
      → Turns Rel (item_turn xs at) (item_turn ys at)
  unfolding item_turn
  place_turns Rel at a b =
      rw (← l.long, ← (l.at at).kind)
      (choices Rel (leb (length xs) at) _ _ _ _ (λ _. Turns.bads)
      (λ _. choices Rel (eqb (kind_of (word xs at)) 15) _ _ _ _ (λ e. end (a (eqb-true _ 15 e))) (λ _. b)))
    where
      end : end_fault xs at ≡ end_fault ys at → Turns Rel (sound (end_fault xs at) at over) (sound (end_fault ys at) at over)
      end e = rw (← e) (sounds Rel (end_fault xs at) at over over (λ _. Turns.overs))

  -- the items of both books, where their protections end alike
  pub both_items : (Rel : Placed → Placed → Type 0)
      → (protections_of xs).number ≡ (protections_of ys).number → (protections_of xs).place ≡ (protections_of ys).place
      → ((at : ℕ) → Turns Rel (item_turn xs at) (item_turn ys at)) → Both Rel (items_of xs) (items_of ys)
  unfolding items_of
  both_items Rel m n h = rw (← l.long, ← m, ← n) (go (eqb number 0))
    where
      number : ℕ
      number = (protections_of xs).number

      place : ℕ
      place = (protections_of xs).place

      go : (b : Bool) → Both Rel (cond b (run_from (item_turn xs) (suc (length xs)) place) (ended number place)) (cond b (run_from (item_turn ys) (suc (length xs)) place) (ended number place))
      go true = both_run Rel (item_turn xs) (item_turn ys) h (suc (length xs)) place
      go false = record { records = Pairs.none; number = refl; place = refl }

-- ---- samples

-- an asset and an asset with its mark have one shape, by their kind
marked_asset : Shape (2 * 2 ^ 28) (2 * 2 ^ 28 + 1)
marked_asset = record { kind = refl; amounts = refl }

-- the first word of a basket of so many names, the n of which is 1
abbrev basket_of : ℕ → ℕ
basket_of names = 11 * 2 ^ 28 + names * 2 ^ 6 + 1

-- baskets of three names and of four: of one kind, with five amounts and with six, so of two shapes
basket_kinds : kind_of (basket_of 3) ≡ kind_of (basket_of 4)
basket_kinds = refl

basket_amounts : (amounts_in (basket_of 3) ≡ 5) × (amounts_in (basket_of 4) ≡ 6)
basket_amounts = (refl, refl)

basket_shapes : Shape (basket_of 3) (basket_of 4) → ⊥
basket_shapes s = let z : ◌≡◌ {A = ℕ} 5 6 = s.amounts in omega arith
