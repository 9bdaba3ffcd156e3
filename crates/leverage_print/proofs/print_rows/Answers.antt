use Rattle.std.proofs.Common.{rules, get_or, pos, w64, SFits}
use Rattle.leverage_print.proofs.Shown.{next_row}
use Rattle.leverage_print.proofs.print_rows.Goals as goal

pub loop-k-preserved : goal.loop-k-preserved
loop-k-preserved g c =
    let element : SFits w64 (get_or c.args.rows c.loop-k.k (pos 0)) = search rules in
    next_row _ _ _ c.args.rows c.loop-k.k element c.loop-k.invariant c.in_ok-print_row.ensures
