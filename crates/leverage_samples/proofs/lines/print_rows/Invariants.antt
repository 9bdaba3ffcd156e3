use Rattle.std.specs.Io.KnownBytes.{Appends}
use Rattle.leverage_samples.specs.Lines.{row_texts}
use Rattle.leverage_samples.proofs.lines.print_rows.Given as goal

abbrev pub invariant-loop-k : goal.invariant-loop-k
invariant-loop-k g l = Appends (g.W.Write.contents l.initial.out) (g.W.Write.contents l.out) (row_texts l.rows l.k)
