-- The amounts behind a place, where none of them is lacking; and stretches of words that are the same. Assumes nothing.
use Prim.Native.Nat.{ℕ, zero, suc, ◌+◌, ◌≤◌, ◌<◌}
use mathlib.Core.Path.{◌≡◌, refl, sym, ◌∙◌}
use mathlib.Core.Bool.{Bool, false, not, ◌||◌}
use mathlib.Core.List.{List}
use native.Mathlib.Omega.{arith}
use native.Mathlib.Decide.{ℕ_discrete}
use borrow.Author.Tests.{lt-leb, eqb-true, not-false}
use lib.Dec.{eqb, leb}
use lib.ListN.{length, take, drop, get_or, length-take, length-drop}
use lib.Seq.{get_or-take, get_or-drop, ext_get_or}
use Rattle.rules.specs.Word.{word, kind_of}
use Rattle.rules.specs.Read.{lacks}
use Rattle.rules.proofs.Lists.{or_left, or_right}

-- where none of the n words behind a place is lacking, each of them is an amount,
pub amount_kind : (n : ℕ) (ws : List ℕ) (at : ℕ) → lacks n ws at ≡ false → (k : ℕ) → k < n → kind_of (word ws (at + suc k)) ≡ 0
unfolding lacks
amount_kind zero ws at e k h = let z : ⊥ = omega arith in absurd z
amount_kind (suc n) ws at e k h = go (ℕ_discrete k n) (λ o. amount_kind n ws at (or_right (missing || other) (lacks n ws at) e) k o)
  where
    missing : Bool
    missing = leb (length ws) (at + suc n)

    other : Bool
    other = not (eqb (kind_of (word ws (at + suc n))) 0)

    go : Dec (k ≡ n) → (k < n → kind_of (word ws (at + suc k)) ≡ 0) → kind_of (word ws (at + suc k)) ≡ 0
    go (yes p) r = rw p (eqb-true _ 0 (not-false _ (or_right missing other (or_left (missing || other) (lacks n ws at) e))))
    go (no p) r = r (omega arith)

-- and back
pub none_lacking : (n : ℕ) (ws : List ℕ) (at : ℕ) → at + n < length ws → ((k : ℕ) → k < n → kind_of (word ws (at + suc k)) ≡ 0) → lacks n ws at ≡ false
unfolding lacks
none_lacking zero ws at h k = refl
none_lacking (suc n) ws at h k = rw (lt-leb (length ws) (at + suc n) h, k n (omega arith), none_lacking n ws at (omega arith) (λ i l. k i (omega arith)))

-- a stretch of words is that of another list, or at another place, whose words are the same
pub stretch_same : (n : ℕ) (xs ys : List ℕ) (i j : ℕ) → i + n ≤ length xs → j + n ≤ length ys → ((k : ℕ) → k < n → word xs (i + k) ≡ word ys (j + k))
    → take n (drop i xs) ≡ take n (drop j ys)
stretch_same n xs ys i j h l same =
    ext_get_or 0 _ _ (long xs i h ∙ sym (long ys j l))
    (λ k m. let a : k < n = omega (arith, m, long xs i h) in is xs i k a ∙ same k a ∙ sym (is ys j k a))
  where
    long : (zs : List ℕ) (i : ℕ) → i + n ≤ length zs → length (take n (drop i zs)) ≡ n
    long zs i r = omega (arith, length-take n (drop i zs), length-drop i zs)

    is : (zs : List ℕ) (i k : ℕ) → k < n → get_or (take n (drop i zs)) k 0 ≡ word zs (i + k)
    is zs i k m = get_or-take n (drop i zs) k 0 m ∙ get_or-drop i zs k 0
