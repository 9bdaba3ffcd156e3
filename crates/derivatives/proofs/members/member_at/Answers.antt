use Rattle.derivatives.proofs.members.member_at.Goals as goal

pub returns-then-standing : goal.returns-then-standing
returns-then-standing c = c.written.ensures c.args.bands
