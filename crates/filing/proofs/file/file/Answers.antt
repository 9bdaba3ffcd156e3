-- By the laws of FilingLaws: refused for its rows, or admitted and reported. Assumes nothing.
use lib.ListN.{length}
use Rattle.std.proofs.lemmas.Result.{err_from_is_err_and}
use Rattle.filing.proofs.FilingLaws.{admission_fits, filed_short, filed_refused, filed_accepted}
use Rattle.filing.proofs.file.file.Goals as goal

pub returns-then-rows-lt-ROWS : goal.returns-then-rows-lt-ROWS
returns-then-rows-lt-ROWS c = filed_short c.args.book.now c.args.rows.now c.args.register.now c.if-rows-lt-ROWS.true

pub returns-in_err-sums : goal.returns-in_err-sums
returns-in_err-sums c =
    let e = c.in_err-sums.ensures in
    let p = err_from_is_err_and c.from_residual.result c.from_residual.ensures.1 in
    rw (p.1, p.2) (filed_refused c.args.book.now c.args.rows.now c.args.register.now c.admit.new.register c.if-rows-lt-ROWS.false c.admit.ensures.1 _ e.0)

pub report-requires : goal.report-requires
report-requires c = (c.if-rows-lt-ROWS.false, admission_fits c.args.book.now (length c.args.rows.now) (length c.args.register.now) c.if-rows-lt-ROWS.false _ c.in_ok-sums.ensures.0)

pub returns : goal.returns
returns c =
    filed_accepted c.args.book.now c.args.rows.now c.args.register.now c.admit.new.register c.if-rows-lt-ROWS.false c.admit.ensures.1
    c.in_ok-sums.sums c.in_ok-sums.ensures.0 c.report.result c.report.new.rows c.report.ensures.0 c.report.ensures.1
