use Rattle.std.proofs.lemmas.Result.{err_from_is_err_and}
use Rattle.derivatives.proofs.Turns.{written_faulty, written_readable, written_under, written_good}
use Rattle.derivatives.proofs.members.written.Goals as goal

pub returns-in_err-fault_at : goal.returns-in_err-fault_at
returns-in_err-fault_at c =
    let p = err_from_is_err_and c.from_residual.result c.from_residual.ensures.1 in
    rw (p.1, p.2) (written_faulty c.requires.0 c.requires.1 c.in_err-fault_at.field-0.0 c.in_err-fault_at.ensures)

pub read-w-requires : goal.read-w-requires
read-w-requires c = written_readable c.requires.0 c.requires.1 c.in_ok-fault_at.ensures

pub overflow_sub-credit : goal.overflow_sub-credit
overflow_sub-credit c = written_under c.requires.0 c.requires.1 c.in_ok-fault_at.ensures c.read-w.ensures c.size.ensures c.size-2.ensures

pub returns : goal.returns
returns c = written_good c.requires.0 c.requires.1 c.in_ok-fault_at.ensures c.read-w.ensures c.size.ensures c.size-2.ensures
