-- The words that were gathered are the book's, and the answer's text is the filing's. Assumes nothing.
use Rattle.std.proofs.Common.{ℕ, List, ◌∙◌, ap, ◌/◌, ◌≤◌, length, arith, pos, replicate}
use Rattle.rules.specs.Register.{blank}
use Rattle.rules.specs.Filing.{filing}
use Rattle.filing.specs.Answers.{seen}
use Rattle.leverage_print.specs.Printed.{book_text, words_of}
use Rattle.leverage_print.proofs.Shown.{words_are, refused_text, accepted_text, joined}
use Rattle.leverage_print.proofs.print_filed.Goals as goal

pub returns-in-Err : goal.returns-in-Err
unfolding book_text
returns-in-Err g c =
    let bytes = c.args.bytes.now in
    let room : length bytes / 4 ≤ length c.gather.new.words = omega arith in
    let book = words_are bytes c.gather.new.words (length bytes / 4) room c.gather.ensures.gathered in
    let e = c.in-Err.ensures ∙ ap (λ (l : List ℕ). seen (filing l (replicate 22 (pos 0)) (replicate 1024 blank))) book in
    rw (← refused_text (words_of bytes (length bytes / 4)) (replicate 22 (pos 0)) c.file_alone.new.rows (replicate 1024 blank) (replicate 1024 blank) c.in-Err.refusal e) c.print_refusal.ensures

pub returns-in_ok-print_rows-in-Ok : goal.returns-in_ok-print_rows-in-Ok
unfolding book_text
returns-in_ok-print_rows-in-Ok g c =
    let bytes = c.args.bytes.now in
    let room : length bytes / 4 ≤ length c.gather.new.words = omega arith in
    let book = words_are bytes c.gather.new.words (length bytes / 4) room c.gather.ensures.gathered in
    let e = c.in-Ok.ensures ∙ ap (λ (l : List ℕ). seen (filing l (replicate 22 (pos 0)) (replicate 1024 blank))) book in
    rw (← accepted_text (words_of bytes (length bytes / 4)) (replicate 22 (pos 0)) c.file_alone.new.rows (replicate 1024 blank) (replicate 1024 blank) c.in-Ok.verdict e) (joined _ _ _ _ _ _ c.in_ok-print_rows-in-Ok.ensures c.print_verdict.ensures)
