use lib.ListN.{take}
use Rattle.baskets.proofs.Gathering.{Gathering}
use Rattle.baskets.proofs.read.basket_words.Given as goal

abbrev pub invariant-loop-i : goal.invariant-loop-i
invariant-loop-i l = Gathering (take l.names l.words) l.g l.i
