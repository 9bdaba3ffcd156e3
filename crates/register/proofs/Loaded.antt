-- The entries of the protections: how many there are, and that each store puts one more in front of what the register held.
-- Assumes nothing.
use Prim.Native.Nat.{ℕ, zero, suc, ◌+◌, ◌≤◌, ◌<◌}
use mathlib.Core.Path.{◌≡◌, refl, ap}
use mathlib.Core.List.{List, [], ◌∷◌, ◌++◌}
use native.Mathlib.Nat.{not-suc-le-zero, le_of_suc-le-suc}
use native.Mathlib.Omega.{arith}
use lib.ListN.{length, set, take, drop}
use Rattle.std.proofs.lemmas.List.{append-nil, drop_all, length-take-le}
use Rattle.rules.specs.declared.Entry.{Entry}
use Rattle.rules.specs.Read.{protection_at}
use Rattle.rules.specs.Register.{entry_of}
use Rattle.register.specs.Loading.{protection_place, loaded_from}

-- the entry of protection i
abbrev pub loaded_at : List ℕ → ℕ → Entry
loaded_at ws i = entry_of (protection_at ws (protection_place i))

pub loaded_length : (ws : List ℕ) (n i : ℕ) → length (loaded_from ws n i) ≡ n
unfolding loaded_from
loaded_length ws zero i = refl
loaded_length ws (suc n) i = ap suc (loaded_length ws n (suc i))

one_more : (ws : List ℕ) (ys : List Entry) (n i k : ℕ) → k ≡ i + n → n < length ys
    → set (loaded_from ws n i ++ drop n ys) n (loaded_at ws k) ≡ loaded_from ws (suc n) i ++ drop (suc n) ys
unfolding loaded_from
one_more ws [] n i k e h = absurd (not-suc-le-zero h)
one_more ws (y ∷ ys) zero i k e h = ap (λ (j : ℕ). loaded_at ws j ∷ ys) (omega arith)
one_more ws (y ∷ ys) (suc n) i k e h = ap (λ (l : List Entry). loaded_at ws i ∷ l) (one_more ws ys n (suc i) k (omega arith) (le_of_suc-le-suc h))

pub loads_next : (ws : List ℕ) (ys : List Entry) (n : ℕ) → n < length ys → set (loaded_from ws n 0 ++ drop n ys) n (loaded_at ws n) ≡ loaded_from ws (suc n) 0 ++ drop (suc n) ys
loads_next ws ys n h = one_more ws ys n 0 n (omega arith) h

-- the first b of them are all, so none is left behind these
pub all_loaded : (ws : List ℕ) (ys : List Entry) (b i : ℕ) → b ≤ length ys → i ≡ b → loaded_from ws i 0 ++ drop i (take b ys) ≡ loaded_from ws b 0
all_loaded ws ys b i h e =
    let n = length-take-le b ys h in
    rw (e, drop_all b (take b ys) (omega arith)) (append-nil (loaded_from ws b 0))
