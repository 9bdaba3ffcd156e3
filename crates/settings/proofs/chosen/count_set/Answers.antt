use mathlib.Core.Bool.{not}
use mathlib.Core.Path.{ap}
use Rattle.settings.proofs.AnswerLaws.{answered_none, answered_15, chosen_there, answered_counts}
use Rattle.settings.proofs.chosen.count_set.Goals as goal

pub returns-in_default : goal.returns-in_default
returns-in_default c register a = answered_none _ _ _ _ a c.in_default.ensures

pub returns-then-not-standing : goal.returns-then-not-standing
returns-then-not-standing c register a = answered_15 _ _ _ _ a c.in-Some.ensures.0 c.standing.ensures (ap not c.if-not-standing.true)

pub count_settings-requires : goal.count_settings-requires
count_settings-requires c =
    let b = c.requires in
    record { register = b.register; chosen = chosen_there _ _ _ _ b.is c.in-Some.ensures.0 c.standing.ensures (ap not c.if-not-standing.false) }

pub returns : goal.returns
returns c register a = answered_counts _ _ _ _ a c.in-Some.ensures.0 c.standing.ensures (ap not c.if-not-standing.false) c.count_settings.ensures
