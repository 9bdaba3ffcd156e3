-- By what was read: more than the program's own words, no whole words, or a book. Assumes nothing.
use Rattle.std.proofs.Common.{◌∙◌, ℕ}
use Rattle.std.proofs.lemmas.List.{length-replicate}
use Rattle.leverage_print.proofs.Shown.{long_text, uneven_text, book_shown, shown}
use Rattle.leverage_print.proofs.print_template.Goals as goal

pub returns-then-n-gt-OWN_BYTES : goal.returns-then-n-gt-OWN_BYTES
returns-then-n-gt-OWN_BYTES g c =
    let room = c.read_full.auto.bytes ∙ length-replicate {0} {A = ℕ} 65537 0 in
    shown _ (g.R.Read.remaining c.args.input.now) _ _ _ c.write_all.ensures.bytes
    (long_text (g.R.Read.remaining c.args.input.now) (g.R.Read.remaining c.read_full.new.input) c.read_full.new.bytes c.in_ok-n.n c.in_ok-n.ensures.read c.in_ok-n.ensures.end c.in_ok-n.ensures.within room c.if-n-gt-OWN_BYTES.true)

pub returns-then-n-ne0 : goal.returns-then-n-ne0
returns-then-n-ne0 g c =
    let room = c.read_full.auto.bytes ∙ length-replicate {0} {A = ℕ} 65537 0 in
    shown _ (g.R.Read.remaining c.args.input.now) _ _ _ c.write_all-then-n-ne0.ensures.bytes
    (uneven_text (g.R.Read.remaining c.args.input.now) (g.R.Read.remaining c.read_full.new.input) c.read_full.new.bytes c.in_ok-n.n c.in_ok-n.ensures.read c.in_ok-n.ensures.end c.in_ok-n.ensures.within room c.if-n-gt-OWN_BYTES.false c.if-n-ne0.true)

pub returns : goal.returns
returns g c =
    let room = c.read_full.auto.bytes ∙ length-replicate {0} {A = ℕ} 65537 0 in
    shown _ (g.R.Read.remaining c.args.input.now) _ _ _ c.print_filed.ensures
    (book_shown (g.R.Read.remaining c.args.input.now) (g.R.Read.remaining c.read_full.new.input) c.read_full.new.bytes c.in_ok-n.n c.in_ok-n.ensures.read c.in_ok-n.ensures.end c.in_ok-n.ensures.within room c.if-n-gt-OWN_BYTES.false c.if-n-ne0.false)
