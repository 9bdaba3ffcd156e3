use Rattle.std.proofs.lemmas.Result.{err_from_is_err_and}
use Rattle.derivatives.proofs.Covering.{cover_faulty, cover_readable, cover_good}
use Rattle.derivatives.proofs.members.cover.Goals as goal

pub returns-in_err-fault_at : goal.returns-in_err-fault_at
returns-in_err-fault_at c =
    let p = err_from_is_err_and c.from_residual.result c.from_residual.ensures.1 in
    rw (p.1, p.2) (cover_faulty c.requires.0.0 c.requires.1.1 c.in_err-fault_at.field-0.0 c.in_err-fault_at.ensures c.args.credit c.args.begin)

pub read-requires-2 : goal.read-requires-2
read-requires-2 c = cover_readable c.requires.0.0 c.requires.1.1 c.in_ok-fault_at.ensures

pub returns : goal.returns
returns c = cover_good c.requires.0.0 c.requires.1.1 c.in_ok-fault_at.ensures c.requires.1.0 c.read.ensures c.read-2.ensures c.args.begin c.draw-draw.ensures c.with_cover.ensures
