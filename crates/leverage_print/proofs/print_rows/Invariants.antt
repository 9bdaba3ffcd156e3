use Rattle.std.specs.Io.KnownBytes.{Appends}
use Rattle.leverage_print.specs.Printed.{row_lines}
use Rattle.leverage_print.proofs.print_rows.Given as goal

abbrev pub invariant-loop-k : goal.invariant-loop-k
invariant-loop-k g l = Appends (g.W.Write.contents l.initial.out) (g.W.Write.contents l.out) (row_lines l.rows l.k)
