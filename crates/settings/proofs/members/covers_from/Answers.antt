use mathlib.Core.Path.{◌∙◌, ap}
use Rattle.rules.specs.Word.{size_of}
use Rattle.weighing.specs.declared.read.CoverWords.{CoverWords}
use Rattle.settings.proofs.Covers.{cover_there, cover_taken, covers_over}
use Rattle.settings.proofs.members.covers_from.Goals as goal

pub read-c-requires : goal.read-c-requires
read-c-requires c = cover_there _ _ _ _ c.loop-c.invariant c.standing.ensures c.loop-c-test.true

pub loop-c-preserved : goal.loop-c-preserved
loop-c-preserved c = cover_taken _ _ _ _ c.loop-c.invariant c.standing.ensures c.loop-c-test.true (c.from-amount.ensures ∙ c.size.ensures ∙ ap (λ (w : CoverWords). size_of w.amount) c.read-c.ensures)

pub returns : goal.returns
returns c = covers_over _ _ _ _ c.loop-c.invariant c.standing.ensures c.loop-c-test.false
