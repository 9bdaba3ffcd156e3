-- Truth values; lists whose elements all have a property; two lists side by side. Assumes nothing.
use Prim.Native.Nat.{ℕ, zero, suc, ◌+◌, ◌≤◌}
use mathlib.Core.Path.{◌≡◌, refl, sym}
use mathlib.Core.Bool.{Bool, true, false, ◌&&◌, ◌||◌}
use mathlib.Core.List.{List, [], ◌∷◌, ◌++◌}
use native.Mathlib.Omega.{arith}
use native.Mathlib.Nat.{add_assoc}
use borrow.Author.Tests.{leb-true}
use lib.Dec.{leb}
use lib.ListN.{get_or}
use Rattle.rules.specs.Book.{total}

-- ---- truth values

pub and_left : (a b : Bool) → a && b ≡ true → a ≡ true
and_left true b e = refl
and_left false b e = e

pub and_right : (a b : Bool) → a && b ≡ true → b ≡ true
and_right true b e = e
and_right false b e = let z : ◌≡◌ {A = ℕ} 0 1 = cc in absurd (omega arith)

pub or_left : (a b : Bool) → a || b ≡ false → a ≡ false
or_left true b e = e
or_left false b e = refl

pub or_right : (a b : Bool) → a || b ≡ false → b ≡ false
or_right true b e = let z : ◌≡◌ {A = ℕ} 0 1 = cc in absurd (omega arith)
or_right false b e = e

pub or_true : (b : Bool) → b || true ≡ true
or_true true = refl
or_true false = refl

-- ---- one list

pub data Every {A : Type 0} (P : A → Type 0) : List A → Type 0 where
  none : Every P []
  more : {x : A} {xs : List A} → P x → Every P xs → Every P (x ∷ xs)

module _ {A : Type 0} where
  pub every_map : {P Q : A → Type 0} → ((x : A) → P x → Q x) → {xs : List A} → Every P xs → Every Q xs
  every_map f none = none
  every_map f (more {x} p ps) = more (f x p) (every_map f ps)

  -- sums
  pub total_append : (f : A → ℕ) (xs ys : List A) → total f (xs ++ ys) ≡ total f xs + total f ys
  total_append f [] ys = sym (native.Mathlib.Nat.zero-add (total f ys))
  total_append f (x ∷ xs) ys = rw (total_append f xs ys) (sym (add_assoc (f x) (total f xs) (total f ys)))

  pub total_le : (f g : A → ℕ) {xs : List A} → Every (λ (x : A). f x ≤ g x) xs → total f xs ≤ total g xs
  total_le f g none = omega arith
  total_le f g (more h t) = omega (arith, total_le f g t)

  pub total_le_all : (f g : A → ℕ) → ((x : A) → f x ≤ g x) → (xs : List A) → total f xs ≤ total g xs
  total_le_all f g h [] = omega arith
  total_le_all f g h (x ∷ xs) = omega (arith, h x, total_le_all f g h xs)

-- a table whose entries are all at most n, by one computed test
abbrev pub at_most : ℕ → List ℕ → Bool
at_most n [] = true
at_most n (x ∷ xs) = leb x n && at_most n xs

pub table_at_most : (n : ℕ) (xs : List ℕ) → at_most n xs ≡ true → (k : ℕ) → get_or xs k 0 ≤ n
table_at_most n [] e k = omega arith
table_at_most n (x ∷ xs) e zero = leb-true x n (and_left (leb x n) (at_most n xs) e)
table_at_most n (x ∷ xs) e (suc k) = table_at_most n xs (and_right (leb x n) (at_most n xs) e) k

-- ---- two lists

module _ {A : Type 0} (Rel : A → A → Type 0) where
  pub data Pairs : List A → List A → Type 0 where
    none : Pairs [] []
    more : {a b : A} {xs ys : List A} → Rel a b → Pairs xs ys → Pairs (a ∷ xs) (b ∷ ys)

module _ {A : Type 0} where
  pub pairs_total : {Rel : A → A → Type 0} (f g : A → ℕ) → ((a b : A) → Rel a b → g b ≤ f a) → {xs ys : List A} → Pairs Rel xs ys → total g ys ≤ total f xs
  pairs_total f g h none = omega arith
  pairs_total f g h (more {a} {b} r t) = omega (arith, h a b r, pairs_total f g h t)

  -- lists that are related one by one are so by whatever follows from it
  pub pairs_by : {R S : A → A → Type 0} → ((a b : A) → R a b → S a b) → {xs ys : List A} → Pairs R xs ys → Pairs S xs ys
  pairs_by f none = none
  pairs_by f (more {a} {b} r t) = more (f a b r) (pairs_by f t)

  pub pairs_eq : {xs ys : List A} → Pairs (λ (a b : A). a ≡ b) xs ys → xs ≡ ys
  pairs_eq none = refl
  pairs_eq (more e t) = let r = pairs_eq t in cc
