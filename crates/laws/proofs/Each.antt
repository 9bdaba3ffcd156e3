-- What all elements have, of a list with a first and of two lists joined. Assumes nothing.
use mathlib.Core.List.{List, [], ◌∷◌, ◌++◌}
use mathlib.Core.Logic.{◌↔◌}
use Rattle.rules.proofs.Lists.{Every}

module _ {A : Type 0} {P : A → Type 0} where
  -- a first and others
  pub every_first : (x : A) (xs : List A) → Every P (x ∷ xs) ↔ (P x × Every P xs)
  every_first x xs = (apart, λ p. Every.more p.0 p.1)
    where
      apart : Every P (x ∷ xs) → P x × Every P xs
      apart (Every.more p e) = (p, e)

  -- some and others behind them
  pub every_append : (xs ys : List A) → Every P (xs ++ ys) ↔ (Every P xs × Every P ys)
  every_append [] ys = (λ e. (Every.none, e), λ p. p.1)
  every_append (x ∷ xs) ys =
      let r = every_append xs ys in (
        λ e. let a = (every_first x (xs ++ ys)).0 e in let b = r.0 a.1 in (Every.more a.0 b.0, b.1),
        λ p. let a = (every_first x xs).0 p.0 in Every.more a.0 (r.1 (a.1, p.1)),
      )
