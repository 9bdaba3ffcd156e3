-- A refusal of the book, or the set that is found. Assumes nothing.
use lib.ListN.{length}
use Rattle.std.proofs.lemmas.Result.{err_from_is_err_and}
use Rattle.sets.proofs.SetLaws.{shows_refused, shows_found}
use Rattle.sets.proofs.show.set_of.Goals as goal

pub returns-in_err-admit : goal.returns-in_err-admit
returns-in_err-admit c =
    let e = c.in_err-admit.ensures in
    let p = err_from_is_err_and c.from_residual.result c.from_residual.ensures.1 in
    rw (p.1, p.2) (shows_refused c.args.book c.args.ordinal (length c.args.register.now) _ e.0, e.1)

pub returns : goal.returns
returns c =
    let e = c.in_ok-admit.ensures in
    (shows_found c.args.book c.args.ordinal (length c.args.register.now) _ e.0 c.find_set.result c.find_set.ensures.0, e.1)
