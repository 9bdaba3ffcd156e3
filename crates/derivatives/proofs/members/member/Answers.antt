use mathlib.Core.Path.{sym, ◌∙◌}
use Rattle.derivatives.proofs.Covering.{due, some_open, closes}
use Rattle.derivatives.proofs.members.member.Goals as goal

pub cover-requires : goal.cover-requires
cover-requires c = (c.requires, due _ _ _ (sym c.cover_due.ensures ∙ c.in-Some.is))

pub returns-in-Some : goal.returns-in-Some
returns-in-Some c = (some_open c.requires.0 (due _ _ _ (sym c.cover_due.ensures ∙ c.in-Some.is)).0 c.args.bands c.args.begin ∙ c.cover.ensures.0 c.args.bands, c.cover.ensures.1)

pub member_at-requires : goal.member_at-requires
member_at-requires c = record { readable = c.requires.0.readable; small = (closes c.requires.0 (sym c.cover_due.ensures ∙ c.in_default.is) c.closed.ensures).1 }

pub returns : goal.returns
returns c = ((closes c.requires.0 (sym c.cover_due.ensures ∙ c.in_default.is) c.closed.ensures).0 c.args.bands c.args.begin ∙ c.member_at.ensures.0 c.args.begin, c.member_at.ensures.1)
