-- Laws of lists that are permuted up to a relation: what does not hang on the order, and which lists are permuted as well. Assumes nothing.
use Prim.Native.Nat.{ℕ}
use mathlib.Core.Path.{◌≡◌, refl, ◌∙◌}
use mathlib.Core.List.{List, map}
use native.Mathlib.Omega.{arith}
use Rattle.rules.specs.Book.{total}
use Rattle.rules.proofs.Lists.{Every}
use Rattle.covers.specs.Order.{Permuted, none, more, swap, trans}

module _ {A : Type 0} {Rel : A → A → Type 0} where
  -- ---- what does not hang on the order

  -- a sum of what related elements have alike
  pub permuted_total : (f : A → ℕ) → ((a b : A) → Rel a b → f a ≡ f b) → {xs ys : List A} → Permuted Rel xs ys → total f xs ≡ total f ys
  permuted_total f h none = refl
  permuted_total f h (more {a} {b} r p) = omega (arith, h a b r, permuted_total f h p)
  permuted_total f h swap = omega arith
  permuted_total f h (trans p q) = permuted_total f h p ∙ permuted_total f h q

  -- a property that an element hands on to a related one
  pub permuted_every : {P : A → Type 0} → ((a b : A) → Rel a b → P a → P b) → {xs ys : List A} → Permuted Rel xs ys → Every P xs → Every P ys
  permuted_every h none e = Every.none
  permuted_every h (more {a} {b} r p) (Every.more e es) = Every.more (h a b r e) (permuted_every h p es)
  permuted_every h swap (Every.more d (Every.more e es)) = Every.more e (Every.more d es)
  permuted_every h (trans p q) e = permuted_every h q (permuted_every h p e)

  -- ---- permuted from permuted

  -- the other way round
  pub permuted_sym : ((a b : A) → Rel a b → Rel b a) → {xs ys : List A} → Permuted Rel xs ys → Permuted Rel ys xs
  permuted_sym h none = none
  permuted_sym h (more {a} {b} r p) = more (h a b r) (permuted_sym h p)
  permuted_sym h swap = swap
  permuted_sym h (trans p q) = trans (permuted_sym h q) (permuted_sym h p)

  -- by a function that takes related elements to related ones
  pub permuted_map : {B : Type 0} {Sel : B → B → Type 0} (f : A → B) → ((a b : A) → Rel a b → Sel (f a) (f b))
      → {xs ys : List A} → Permuted Rel xs ys → Permuted Sel (map f xs) (map f ys)
  permuted_map f h none = none
  permuted_map f h (more {a} {b} r p) = more (h a b r) (permuted_map f h p)
  permuted_map f h swap = swap
  permuted_map f h (trans p q) = trans (permuted_map f h p) (permuted_map f h q)

  -- up to a wider relation
  pub permuted_wider : {Sel : A → A → Type 0} → ((a b : A) → Rel a b → Sel a b) → {xs ys : List A} → Permuted Rel xs ys → Permuted Sel xs ys
  permuted_wider h none = none
  permuted_wider h (more {a} {b} r p) = more (h a b r) (permuted_wider h p)
  permuted_wider h swap = swap
  permuted_wider h (trans p q) = trans (permuted_wider h p) (permuted_wider h q)
