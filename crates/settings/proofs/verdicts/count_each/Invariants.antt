use Rattle.settings.specs.Pieces.{verdict_by}
use Rattle.settings.proofs.CountLaws.{Counting}
use Rattle.settings.proofs.verdicts.count_each.Given as goal

abbrev pub invariant-loop-m : goal.invariant-loop-m
invariant-loop-m l = Counting (verdict_by l.p l.others l.tier1.gain l.tier1.loss) l.counts.met l.counts.missed l.counts.no_exposure l.m
