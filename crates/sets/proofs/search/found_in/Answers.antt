-- Where both parts are quiet none passes; else they are counted. Assumes nothing.
use Rattle.std.proofs.lemmas.List.{take-append-drop}
use Rattle.sets.proofs.SearchLaws.{both_quiet}
use Rattle.sets.proofs.search.found_in.Goals as goal

pub returns-then-quiet-2 : goal.returns-then-quiet-2
returns-then-quiet-2 g c test t q =
    both_quiet test c.split_at.result.0.now c.split_at.result.1.now c.args.block.now (rw (c.split_at.ensures.front, c.split_at.ensures.back) (take-append-drop 32 c.args.block.now))
    (rw c.bits_in.ensures at (q _ c.if-quiet.ensures)) (rw c.bits_in-then-quiet.ensures at (q _ c.if-quiet-2.ensures))

pub returns : goal.returns
returns g c test t q = c.count_in.ensures test t
