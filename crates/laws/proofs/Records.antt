-- What is known of a record that is read: that its words all stand there, and so how far it reaches.
-- Assumes nothing.
use Prim.Native.Nat.{ℕ, zero, suc, ◌+◌, ◌≤◌, ◌<◌}
use mathlib.Core.Path.{◌≡◌, refl, ◌∙◌, ap}
use mathlib.Core.Bool.{Bool, true, false, cond}
use mathlib.Core.List.{List}
use native.Mathlib.Omega.{arith}
use native.Mathlib.Nat.{add-zero}
use borrow.Author.Tests.{lt-ltb, ltb-true, leb-false, eq-eqb, eqb-true}
use lib.Dec.{leb, ltb}
use lib.ListN.{length, drop}
use lib.Seq.{get_or-drop}
use Rattle.rules.specs.Word.{word, kind_of, amounts_of_kind, amounts_in}
use Rattle.rules.specs.Run.{Turn, bad, sound}
use Rattle.rules.specs.Read.{lacks, record_then, stands}
use Rattle.rules.proofs.Lists.{and_left, and_right, or_left}
use Rattle.rules.proofs.Runs.{FineTurn}

-- a record of some kind that stands at a place
pub stands_is : (kind : ℕ) (ws : List ℕ) (at : ℕ) → stands kind ws at ≡ true → (at < length ws) × (kind_of (word ws at) ≡ kind)
stands_is kind ws at e =
    (ltb-true _ _ (and_left (ltb at (length ws)) _ e), eqb-true _ _ (and_right (ltb at (length ws)) _ e))

-- as the kind of its first word tells
pub stands_there : (ws : List ℕ) (at kind k : ℕ) → at < length ws → k ≡ kind_of (word ws at) → k ≡ kind → stands kind ws at ≡ true
stands_there ws at kind k h q e = simp (lt-ltb at (length ws) h, ← q, eq-eqb k kind e)

-- how many amounts its first word asks for, by its kind
pub amounts_at_lem : (w : ℕ) {kind : ℕ} → kind_of w ≡ kind → amounts_in w ≡ amounts_of_kind kind w
amounts_at_lem w e = ap (λ (k : ℕ). amounts_of_kind k w) e

-- a part of the words begins with the word at its place
pub head_word_lem : (ws : List ℕ) (at : ℕ) → word (drop at ws) 0 ≡ word ws at
head_word_lem ws at = get_or-drop at ws 0 0 ∙ ap (λ (i : ℕ). word ws i) (add-zero at)

-- amounts that stand there leave room
pub lacks_room : (n : ℕ) (ws : List ℕ) (at : ℕ) → lacks n ws at ≡ false → at < length ws → at + n < length ws
unfolding lacks
lacks_room zero ws at e h = omega arith
lacks_room (suc n) ws at e h = leb-false _ _ (or_left (leb (length ws) (at + suc n)) _ (or_left _ _ e))

-- ---- a turn is fine

module _ {A : Type 0} (C : ℕ) (f : A → ℕ) (ws : List ℕ) (at : ℕ) where
  pub fine_if : (b : Bool) (t u : Turn A) → (b ≡ true → FineTurn (length ws) C f at t) → (b ≡ false → FineTurn (length ws) C f at u) → FineTurn (length ws) C f at (cond b t u)
  fine_if true t u g o = g refl
  fine_if false t u g o = o refl

  -- by whether a record of some kind stands there
  pub fine_kind : (kind : ℕ) (t u : Turn A)
      → (at < length ws → kind_of (word ws at) ≡ kind → FineTurn (length ws) C f at t) → FineTurn (length ws) C f at u
      → FineTurn (length ws) C f at (cond (stands kind ws at) t u)
  fine_kind kind t u g o = fine_if (stands kind ws at) t u (λ e. let s = stands_is kind ws at e in g s.0 s.1) (λ e. o)

  pub fine_sound : (fault : ℕ) (t : Turn A) → at ≤ length ws → (fault ≡ 0 → FineTurn (length ws) C f at t) → FineTurn (length ws) C f at (sound fault at t)
  fine_sound zero t h g = g refl
  fine_sound (suc fault) t h g = (omega arith, omega arith)

  -- a record with n amounts by its kind: if what follows its missing words and its own fault is
  pub fine_record : (n fault : ℕ) (next : ℕ → Turn A) → at < length ws → amounts_in (word ws at) ≡ n
      → (at + n < length ws → fault ≡ 0 → FineTurn (length ws) C f at (next (at + suc n)))
      → FineTurn (length ws) C f at (record_then ws at fault next)
  unfolding record_then
  fine_record n fault next h e g = rw e (go (lacks n ws at) refl)
    where
      go : (b : Bool) → lacks n ws at ≡ b → FineTurn (length ws) C f at (cond b (bad 6 at) (sound fault at (next (at + suc n))))
      go true q = (omega arith, omega arith)
      go false q = fine_sound fault (next (at + suc n)) (omega arith) (g (lacks_room n ws at q h))
