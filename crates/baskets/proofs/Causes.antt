-- The tests of the n and m of a basket, and those of its grades by the bits of all of them. Assumes nothing.
use Prim.Native.Nat.{ℕ, ◌^◌, ◌≤◌}
use mathlib.Core.Path.{◌≡◌, refl, sym, ◌∙◌, ap}
use mathlib.Core.Bool.{Bool, true, false, not, ◌||◌, or_assoc, or-false}
use mathlib.Core.List.{List, [], ◌∷◌}
use native.Mathlib.Omega.{arith}
use borrow.Author.Tests.{eqb-true, eqb-false, leb-true, leb-false, le-leb, lt-leb, ltb-false, le-ltb}
use lib.Bits.{bit_or, or_lt, or_comm, or_add_and, and_le_r, or_shr, or_mod}
use lib.Dec.{eqb, leb, ltb}
use Rattle.rules.specs.Word.{kind_of, payload_of, faulty_amount, faulty_grade}
use Rattle.rules.specs.Faults.{names_fault, any_of}
use Rattle.rules.proofs.Lists.{or_true}
use Rattle.baskets.specs.Grades.{no_amount, bits_with}

-- ---- n from 1 on, m up to 32 and n up to m settle the other two ends

pub names_tests : (nth names : ℕ) → (ltb nth 1 || ltb 32 names || ltb names nth) ≡ names_fault nth names
names_tests nth names = go (ltb nth 1) refl (ltb 32 names) refl (ltb names nth) refl
  where
    go : (a : Bool) → ltb nth 1 ≡ a → (b : Bool) → ltb 32 names ≡ b → (c : Bool) → ltb names nth ≡ c
        → (a || b || c) ≡ (a || ltb 32 nth || ltb names 1 || b || c)
    go true p b q c r = refl
    go false p true q c r = simp or_true
    go false p false q true r = simp or_true
    go false p false q false r =
        let least = ltb-false nth 1 p in
        let most = ltb-false 32 names q in
        let order = ltb-false names nth r in
        simp (le-ltb 32 nth (omega arith), le-ltb names 1 (omega arith))

-- ---- a bit that one of two words has, both together have

or_least : (a b : ℕ) → a ≤ bit_or a b
or_least a b = omega (arith, or_add_and a b, and_le_r a b)

or_reaches : (k a b : ℕ) → leb (2 ^ k) (bit_or a b) ≡ (leb (2 ^ k) a || leb (2 ^ k) b)
or_reaches k a b = go (leb (2 ^ k) a) refl (leb (2 ^ k) b) refl
  where
    go : (p : Bool) → leb (2 ^ k) a ≡ p → (q : Bool) → leb (2 ^ k) b ≡ q → leb (2 ^ k) (bit_or a b) ≡ (p || q)
    go true p q r = le-leb (2 ^ k) (bit_or a b) (omega (arith, leb-true (2 ^ k) a p, or_least a b))
    go false p true q = le-leb (2 ^ k) (bit_or a b) (omega (arith, leb-true (2 ^ k) b q, or_least b a, or_comm a b))
    go false p false q = lt-leb (2 ^ k) (bit_or a b) (or_lt k a b (leb-false (2 ^ k) a p) (leb-false (2 ^ k) b q))

is_some : (n : ℕ) → not (eqb n 0) ≡ leb 1 n
is_some n = go (eqb n 0) refl
  where
    go : (b : Bool) → eqb n 0 ≡ b → not b ≡ leb 1 n
    go true e = sym (lt-leb 1 n (omega (arith, eqb-true n 0 e)))
    go false e = let other : n ≡ 0 → ⊥ = eqb-false n 0 e in sym (le-leb 1 n (omega arith))

no_amount_or : (a b : ℕ) → no_amount (bit_or a b) ≡ (no_amount a || no_amount b)
no_amount_or a b = rw (or_shr a b 28, is_some (bit_or (kind_of a) (kind_of b)), is_some (kind_of a), is_some (kind_of b)) (or_reaches 0 (kind_of a) (kind_of b))

faulty_amount_or : (a b : ℕ) → faulty_amount (bit_or a b) ≡ (faulty_amount a || faulty_amount b)
faulty_amount_or a b = rw (or_mod a b 28) (or_reaches 27 (payload_of a) (payload_of b))

faulty_grade_or : (a b : ℕ) → faulty_grade (bit_or a b) ≡ (faulty_grade a || faulty_grade b)
faulty_grade_or a b = rw (or_mod a b 28) (or_reaches 5 (payload_of a) (payload_of b))

-- ---- so a test of all bits tells whether one of the words passes it

module _ (test : ℕ → Bool) (split : (a b : ℕ) → test (bit_or a b) ≡ (test a || test b)) where
  any_with : (bits : ℕ) (ws : List ℕ) → test (bits_with bits ws) ≡ (test bits || any_of test ws)
  any_with bits [] = sym (or-false (test bits))
  any_with bits (w ∷ ws) = any_with (bit_or bits w) ws ∙ ap (λ (b : Bool). b || any_of test ws) (split bits w) ∙ or_assoc (test bits) (test w) (any_of test ws)

pub any_no_amount : (ws : List ℕ) → no_amount (bits_with 0 ws) ≡ any_of no_amount ws
any_no_amount ws = any_with no_amount no_amount_or 0 ws

pub any_faulty_amount : (ws : List ℕ) → faulty_amount (bits_with 0 ws) ≡ any_of faulty_amount ws
any_faulty_amount ws = any_with faulty_amount faulty_amount_or 0 ws

pub any_faulty_grade : (ws : List ℕ) → faulty_grade (bits_with 0 ws) ≡ any_of faulty_grade ws
any_faulty_grade ws = any_with faulty_grade faulty_grade_or 0 ws
