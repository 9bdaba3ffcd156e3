-- A refusal of the book, or the counts of the set that is found. Assumes nothing.
use Rattle.std.proofs.lemmas.Result.{err_from_is_err_and}
use Rattle.settings.proofs.AnswerLaws.{answered_refused}
use Rattle.settings.proofs.count.count.Goals as goal

pub returns-in_err-sums : goal.returns-in_err-sums
returns-in_err-sums c =
    let e = c.in_err-sums.ensures in
    let p = err_from_is_err_and c.from_residual.result c.from_residual.ensures.1 in
    rw (p.1, p.2) (answered_refused c.args.book.now c.args.ordinal c.args.register.now _ _ e.0, e.1)

pub count_set-requires : goal.count_set-requires
count_set-requires c = record { register = c.args.register.now; is = c.in_ok-sums.ensures.0 }

pub returns : goal.returns
returns c = (c.count_set.ensures c.args.register.now c.in_ok-sums.ensures.0, c.in_ok-sums.ensures.1)
