use mathlib.Core.Path.{refl}
use Rattle.std.proofs.Common.{arith, rules}
use Rattle.sets.proofs.FoundLaws.{found_there}
use Rattle.sets.proofs.bounds.find_set.Goals as goal

pub returns : goal.returns
returns c = rw (← found_there c.args.book.now _ c.in-Some.begin c.in-Some.ensures c.set_end-end.result c.set_end-end.ensures.0) ((refl, (refl, (refl, (refl, search rules)))), (omega (arith, c.set_end-end.ensures.1.0), c.set_end-end.ensures.1.1))
