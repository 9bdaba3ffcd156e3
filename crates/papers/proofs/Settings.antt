-- Two books that differ in marks at most still do so with one setting of the marks of one word. Assumes nothing.
use Prim.Native.Nat.{ℕ, ◌+◌, ◌*◌, ◌<◌}
use mathlib.Core.Path.{◌≡◌, refl, sym, ◌∙◌, ap}
use mathlib.Core.List.{List}
use native.Mathlib.Omega.{arith}
use native.Mathlib.Decide.{ℕ_discrete, dec_lt}
use lib.ListN.{length, set, length-set}
use lib.Seq.{get_or-set_same, get_or-set_other, set_out}
use Rattle.rules.specs.Word.{word}
use Rattle.rules.specs.TwoDesks.{MoreMarks, MoreRecognised}
use Rattle.two_desks.proofs.Marks.{marks_most, above_same}
use Rattle.other_marks.specs.Marked.{mark_bits, settings, with_marks, book_with}

more_itself : (w : ℕ) → MoreMarks w w
more_itself w = record { above = refl; kept = λ i h. omega arith }

-- no word has more marks than a derivative set, so one setting makes the two words one
word_alike : {a b : ℕ} → MoreMarks a b → (m : ℕ) → with_marks a m ≡ with_marks b m
word_alike {a} l m = ap (λ (n : ℕ). n * settings + m) (above_same l mark_bits (marks_most a))

module _ (xs ys : List ℕ) (l : MoreRecognised xs ys) (head : ℕ) where
  -- one word for another in both
  set_both : (a b : ℕ) → MoreMarks a b → MoreRecognised (set xs head a) (set ys head b)
  set_both a b h = record { long = length-set xs head a ∙ l.long ∙ sym (length-set ys head b); at = λ i. here i (ℕ_discrete i head) (dec_lt head (length xs)) }
    where
      here : (i : ℕ) → Dec (i ≡ head) → Dec (head < length xs) → MoreMarks (word (set xs head a) i) (word (set ys head b) i)
      here i (yes p) (yes q) = rw (p, get_or-set_same xs head a 0 q, get_or-set_same ys head b 0 (omega (arith, l.long))) h
      here i (yes p) (no q) = rw (set_out xs head a (omega arith), set_out ys head b (omega (arith, l.long))) (l.at i)
      here i (no p) q = rw (get_or-set_other xs head i a 0 p, get_or-set_other ys head i b 0 p) (l.at i)

  pub set_alike : (m : ℕ) → MoreRecognised (book_with xs head m) (book_with ys head m)
  set_alike m = set_both (with_marks (word xs head) m) (with_marks (word ys head) m) (rw (word_alike (l.at head) m) (more_itself _))
