use mathlib.Core.Path.{◌∙◌}
use native.Mathlib.Omega.{arith}
use Rattle.settings.proofs.PieceLaws.{netted_fits, margined_fits, pieces_are}
use Rattle.settings.proofs.exposure.pieces_of.Goals as goal

pub overflow_add-result-2 : goal.overflow_add-result-2
overflow_add-result-2 c = omega (arith, netted_fits c.args.d c.args.t c.saturating_sub-net.ensures c.weighted-share.ensures (c.from.ensures ∙ c.size.ensures) c.saturating_sub-after_margin.ensures c.requires.0)

pub overflow_add-result-3 : goal.overflow_add-result-3
overflow_add-result-3 c = omega (arith, margined_fits c.args.d c.args.t c.saturating_sub-net.ensures c.weighted-share.ensures (c.from.ensures ∙ c.size.ensures) c.saturating_sub-after_margin.ensures c.requires.0)

pub returns : goal.returns
returns c = pieces_are c.args.d c.args.t c.saturating_sub-net.ensures c.weighted-share.ensures (c.from.ensures ∙ c.size.ensures) c.saturating_sub-after_margin.ensures (c.from-2.ensures ∙ c.size-2.ensures) (c.from-3.ensures ∙ c.size-3.ensures)
