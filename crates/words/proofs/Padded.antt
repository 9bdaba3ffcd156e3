-- A table that ends in zeros reads as the table without them: a reading beyond the end gives 0 too. Assumes nothing.
use mathlib.Core.Path.{◌≡◌, refl}
use mathlib.Core.List.{List, [], ◌∷◌, ◌++◌}
use Prim.Native.Nat.{ℕ, zero, suc}
use lib.ListN.{get_or, replicate}

zeros : (k n : ℕ) → get_or {A = ℕ} (replicate k 0) n 0 ≡ 0
zeros zero n = refl
zeros (suc k) zero = refl
zeros (suc k) (suc n) = zeros k n

pub padded : (l : List ℕ) (k n : ℕ) → get_or (l ++ replicate k 0) n 0 ≡ get_or l n 0
padded [] k n = zeros k n
padded (x ∷ l) k zero = refl
padded (x ∷ l) k (suc n) = padded l k n
