use Rattle.history_lines.proofs.NewSessions.{new_session}
use Rattle.history_lines.proofs.session.Session.new.Goals as goal

pub returns : goal.returns
returns c = λ scenario number copies few. new_session scenario c.args.id c.args.commands c.in_ok-new.field-0 c.new-2.result c.new-2.ensures c.in_ok-new.ensures.new (c.in_ok-new.ensures.waits scenario number copies few)
