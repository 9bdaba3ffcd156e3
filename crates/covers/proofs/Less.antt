-- Entries of the register less amounts that go by their places; a draw takes its amount at the place that it names. Assumes nothing.
use Prim.Native.Nat.{ℕ, zero, suc, ◌+◌, ◌-◌}
use mathlib.Core.Path.{◌≡◌, refl, ap}
use mathlib.Core.List.{List, [], ◌∷◌}
use native.Mathlib.Omega.{arith}
use borrow.Author.Tests.{eq-eqb, ne_eqb}
use lib.ListN.{length, get_or, set}
use Rattle.rules.specs.declared.Draw.{Draw}
use Rattle.rules.specs.declared.Entry.{Entry}
use Rattle.rules.specs.Register.{blank, drawn_from, drawn}
use Rattle.covers.specs.Claims.{drawn_at, less}

-- as many entries
pub less_length : (es : List Entry) (f : ℕ → ℕ) → length (less es f) ≡ length es
less_length [] f = refl
less_length (e ∷ es) f = ap suc (less_length es (λ i. f (suc i)))

-- at every place, also past the end
pub less_at : (es : List Entry) (f : ℕ → ℕ) (i : ℕ) → get_or (less es f) i blank ≡ drawn_from (get_or es i blank) (f i)
less_at [] f i = let q : 0 - f i ≡ 0 = omega arith in rw q refl
less_at (e ∷ es) f zero = refl
less_at (e ∷ es) f (suc i) = less_at es (λ k. f (suc k)) i

-- by amounts that are the same at every place
pub less_same : (es : List Entry) (f g : ℕ → ℕ) → ((i : ℕ) → f i ≡ g i) → less es f ≡ less es g
less_same [] f g h = refl
less_same (e ∷ es) f g h = rw (h 0, less_same es (λ i. f (suc i)) (λ i. g (suc i)) (λ i. h (suc i)))

drawn_nothing : (e : Entry) (n : ℕ) → n ≡ 0 → drawn_from e n ≡ e
drawn_nothing e n h = let q : e.left - n ≡ e.left = omega arith in rw q refl

-- by nothing
pub less_none : (es : List Entry) (f : ℕ → ℕ) → ((i : ℕ) → f i ≡ 0) → less es f ≡ es
less_none [] f h = refl
less_none (e ∷ es) f h = rw (drawn_nothing e (f 0) (h 0), less_none es (λ i. f (suc i)) (λ i. h (suc i)))

drawn_twice : (e : Entry) (m n : ℕ) → drawn_from (drawn_from e m) n ≡ drawn_from e (m + n)
drawn_twice e m n = let q : e.left - m - n ≡ e.left - (m + n) = omega arith in rw q refl

-- by some amounts and then by others
pub less_twice : (es : List Entry) (f g : ℕ → ℕ) → less (less es f) g ≡ less es (λ i. f i + g i)
less_twice [] f g = refl
less_twice (e ∷ es) f g = rw (drawn_twice e (f 0) (g 0), less_twice es (λ i. f (suc i)) (λ i. g (suc i)))

-- what a draw leaves, for every draw
pub drawn_is_less : (es : List Entry) (d : Draw) → drawn es d ≡ less es (λ i. drawn_at i d)
drawn_is_less es d = go es d.protection (λ i. drawn_at i d) (rw (eq-eqb d.protection d.protection refl)) (λ i n. rw (ne_eqb d.protection i n))
  where
    go : (xs : List Entry) (at : ℕ) (f : ℕ → ℕ) → f at ≡ d.amount → ((i : ℕ) → (at ≡ i → ⊥) → f i ≡ 0)
        → set xs at (drawn_from (get_or xs at blank) d.amount) ≡ less xs f
    go [] at f h z = refl
    go (x ∷ xs) zero f h z = rw (← h, less_none xs (λ i. f (suc i)) (λ i. z (suc i) (λ e. omega arith)))
    go (x ∷ xs) (suc at) f h z = rw (drawn_nothing x (f 0) (z 0 (λ e. omega arith)), go xs at (λ i. f (suc i)) h (λ i n. z (suc i) (λ e. n (omega arith))))
