use Rattle.std.proofs.Common.{◌∙◌}
use Rattle.backend_core.proofs.Entries.Joining.{join_call, join_enters, join_awaits}
use Rattle.backend_core.proofs.backend.Backend.join.Goals as goal

pub start-requires-clause-call : goal.start-requires-clause-call
start-requires-clause-call g c = join_call _ _ c.args.self.now c.requires.before

pub returns-clause-enters : goal.returns-clause-enters
returns-clause-enters g c = join_enters _ _ _ _ _ c.args.self.now _ c.requires.before c.requires.played (c.enter_start.ensures.holds _ _ c.requires.before.waits) c.enter_start.ensures.kept c.enter_start.ensures.answer c.start.ensures.appends

pub returns-clause-command : goal.returns-clause-command
returns-clause-command g c = join_awaits _ _ _ _ _ c.args.self.now _ c.requires.before c.requires.played (c.enter_start.ensures.holds _ _ c.requires.before.waits) c.enter_start.ensures.kept c.enter_start.ensures.answer c.start.ensures.appends

pub returns-clause-first : goal.returns-clause-first
returns-clause-first g c = (c.enter_start.ensures.holds _ _ c.requires.before.waits).moves.finished ∙ c.requires.before.waits.new.finished
