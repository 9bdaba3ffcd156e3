-- `by_halves` calls itself on x / 2, which is smaller: the halving ends at 0 at the latest. Assumes nothing.
use Rattle.weights.proofs.share.Fraction.+by_halves.Given as goal

abbrev pub decreases-by_halves : goal.decreases-by_halves
decreases-by_halves g l = l.x
