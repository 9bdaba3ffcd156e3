-- What is written a piece at a time is the text, and the words that are gathered from the bytes are the book. Assumes nothing.
use Rattle.std.proofs.Common.{◌≡◌, ℕ, zero, suc, ◌+◌, ◌<◌, ◌≤◌, Bool, true, false, cond, List, ◌++◌, length, take, get_or, arith, sym, ◌∙◌, ap, ℤ, pos, slice_index, refl, subst, w64, SFits, to_z, of_z, ◌%◌, Result, Ok, Err, OnOk, Some, None, length-append, length-take-le, append-nil}
use Rattle.std.proofs.Math.Seq.{take-suc}
use Rattle.std.proofs.lemmas.Int.{to_z-of_z}
use Rattle.std.proofs.KnownBytes.{Appends-trans}
use Rattle.std.specs.Io.KnownBytes.{Appends, Consumes, IsAtEnd}
use Rattle.std.specs.Prelude.{codes, Option, IfSome}
use borrow.Author.Tests.{ne_eqb, eq-eqb, lt-ltb, le-ltb}
use Rattle.rules.specs.declared.Entry.{Entry}
use Rattle.rules.specs.Read.{head_of}
use Rattle.rules.specs.Ratio.{verdict_of}
use Rattle.rules.specs.Filing.{Outcome, number_of, verdict_in, outcome_of, filing}
use Rattle.laws.proofs.Accepted.{Numbered, numbered}
use Rattle.rules.specs.declared.causes.Refusal.{Refusal}
use Rattle.rules.specs.declared.verdicts.Verdict.{Verdict}
use Rattle.rules.specs.Numbers.{cause_number, verdict_number}
use Rattle.filing.specs.Answers.{Seen, filed, seen}
use Rattle.streams.specs.Words.{word_at}
use Rattle.leverage_print.specs.Printed.{book_text, own_bytes, printed, refused_line, row_line, row_lines, text_of, verdict_line, words_of}

-- the lines so far and one more
pub next_row : (old mid new : Option (List ℕ)) (rows : List ℤ) (k : ℕ) → SFits w64 (get_or rows k (pos 0))
    → Appends old mid (row_lines rows k) → Appends mid new (row_line (k + 1) (to_z w64 (of_z w64 (get_or rows k (pos 0)))))
    → Appends old new (row_lines rows (k + 1))
next_row old mid new rows k fits before line =
    let one : suc k ≡ k + 1 = omega arith in
    subst (λ n. Appends old new (row_lines rows n)) one (Appends-trans old mid new _ _ before (subst (λ z. Appends mid new (row_line (k + 1) z)) (to_z-of_z w64 (get_or rows k (pos 0)) fits) line))

-- ---- the book

pub words_are : (bytes words : List ℕ) (n : ℕ) → n ≤ length words → ((k : ℕ) → k < n → slice_index words k ≡ word_at bytes k) → take n words ≡ words_of bytes n
words_are bytes words zero room gathered = refl
words_are bytes words (suc n) room gathered =
    take-suc words n 0 (omega arith)
    ∙ rw (words_are bytes words n (omega arith) (λ k h. gathered k (omega arith)), gathered n (omega arith)) refl

-- ---- a filing and its text

-- no verdict of an accepted book is that of a refusal
not_three : (a b : Bool) → ◌≡◌ {A = ℕ} 3 (cond a 2 (cond b 0 1)) → ⊥
not_three true b e = omega arith
not_three false true e = omega arith
not_three false false e = omega arith

refusal_numbered : (ws : List ℕ) (rows : List ℤ) (register : List Entry) → 3 ≡ (filing ws rows register).verdict → (filing ws rows register).number ≡ 0 → ⊥
unfolding filing verdict_of
refusal_numbered ws rows register = go (outcome_of ws (length rows) (length register)) (numbered ws (length rows) (length register))
  where
    go : (o : Outcome) → Numbered o → 3 ≡ verdict_in (head_of ws) o → number_of o ≡ 0 → ⊥
    go o Numbered.earlies v z = omega arith
    go o Numbered.refusals v z = omega arith
    go o Numbered.acceptances v z = not_three _ _ v

module _ (ws : List ℕ) (rows after : List ℤ) (register left : List Entry) where
  pub refused_text : (r : Refusal) → seen (filed (Err r) after left) ≡ seen (filing ws rows register)
      → refused_line (cause_number r.cause) r.place ≡ text_of (seen (filing ws rows register))
  refused_text r e =
      let number = cause_number r.cause in
      let number_is = ap (λ (s : Seen). s.number) e in
      let verdict_is = ap (λ (s : Seen). s.verdict) e in
      let some : number ≡ 0 → ⊥ = λ z. refusal_numbered ws rows register verdict_is (sym number_is ∙ z) in
      let texts : text_of (seen (filed (Err r) after left)) ≡ text_of (seen (filing ws rows register)) = ap text_of e in
      rw (ne_eqb number 0 some) at texts

  pub accepted_text : (v : Verdict) → seen (filed (Ok v) after left) ≡ seen (filing ws rows register)
      → row_lines after 22 ++ verdict_line (verdict_number v) ≡ text_of (seen (filing ws rows register))
  accepted_text v e = ap text_of e

-- ---- the input and its text

printed_long : (bytes : List ℕ) → own_bytes < length bytes → codes "input 2\n" ≡ printed bytes
unfolding printed
printed_long bytes h = rw (lt-ltb own_bytes (length bytes) h) refl

printed_uneven : (bytes : List ℕ) → length bytes ≤ own_bytes → (length bytes % 4 ≡ 0 → ⊥) → codes "input 1\n" ≡ printed bytes
unfolding printed
printed_uneven bytes h e = rw (le-ltb own_bytes (length bytes) h, ne_eqb (length bytes % 4) 0 e) refl

printed_book : (bytes : List ℕ) → length bytes ≤ own_bytes → length bytes % 4 ≡ 0 → book_text bytes ≡ printed bytes
unfolding printed
printed_book bytes h e = rw (le-ltb own_bytes (length bytes) h, eq-eqb (length bytes % 4) 0 e) refl

-- n bytes were read to the front of a buffer that has one more than a book of the program's own
module _ (old new : Option (List ℕ)) (buffer : List ℕ) (n : ℕ) (read : Consumes old new (take n buffer)) (ended : n < length buffer → IsAtEnd new) (within : n ≤ length buffer)
    (room : length buffer ≡ own_bytes + 1) where
  -- what was there is what was read, where that is less than the buffer takes
  all_read : (o m : Option (List ℕ)) → Consumes o m (take n buffer) → IsAtEnd m → (bytes : List ℕ) → o ≡ Some bytes → bytes ≡ take n buffer
  all_read None m r z bytes e = cc
  all_read (Some xs) None r z bytes e = absurd r
  all_read (Some xs) (Some ys) r z bytes e = let same : xs ≡ bytes = cc in sym same ∙ r ∙ ap (λ l. take n buffer ++ l) z ∙ append-nil (take n buffer)

  some_read : (o m : Option (List ℕ)) → Consumes o m (take n buffer) → (bytes : List ℕ) → o ≡ Some bytes → n ≤ length bytes
  some_read None m r bytes e = cc
  some_read (Some xs) None r bytes e = absurd r
  some_read (Some xs) (Some ys) r bytes e = let same : xs ≡ bytes = cc in omega (arith, ap length (sym same ∙ r), length-append (take n buffer) ys, length-take-le n buffer within)

  pub long_text : own_bytes < n → (bytes : List ℕ) → old ≡ Some bytes → codes "input 2\n" ≡ printed bytes
  long_text h bytes e = printed_long bytes (omega (arith, some_read old new read bytes e))

  pub uneven_text : n ≤ own_bytes → (n % 4 ≡ 0 → ⊥) → (bytes : List ℕ) → old ≡ Some bytes → codes "input 1\n" ≡ printed bytes
  uneven_text h u bytes e =
      let is = all_read old new read (ended (omega arith)) bytes e in
      let long : length (take n buffer) ≡ n = length-take-le n buffer within in
      rw is (printed_uneven (take n buffer) (omega arith) (λ z. u (sym (ap (λ m. m % 4) long) ∙ z)))

  pub book_shown : n ≤ own_bytes → n % 4 ≡ 0 → (bytes : List ℕ) → old ≡ Some bytes → book_text (take n buffer) ≡ printed bytes
  book_shown h u bytes e =
      let is = all_read old new read (ended (omega arith)) bytes e in
      let long : length (take n buffer) ≡ n = length-take-le n buffer within in
      rw is (printed_book (take n buffer) (omega arith) (ap (λ m. m % 4) long ∙ u))

-- a text that is written is what is printed for all that was there
pub shown : {T E : Type 0} (r : Result T E) (input old new : Option (List ℕ)) (text : List ℕ) → OnOk r (Appends old new text)
    → ((bytes : List ℕ) → input ≡ Some bytes → text ≡ printed bytes) → OnOk r (IfSome input (λ bytes. Appends old new (printed bytes)))
shown (Err e) input old new text wrote is = tt
shown (Ok x) None old new text wrote is = tt
shown (Ok x) (Some bytes) old new text wrote is = subst (λ t. Appends old new t) (is bytes refl) wrote

-- a text in two parts, of which the first is written
pub joined : {T E : Type 0} (r : Result T E) (old mid new : Option (List ℕ)) (first second : List ℕ)
    → Appends old mid first → OnOk r (Appends mid new second) → OnOk r (Appends old new (first ++ second))
joined (Ok x) old mid new first second before wrote = Appends-trans old mid new first second before wrote
joined (Err e) old mid new first second before wrote = tt
