use Rattle.event_kinds.proofs.Changes.{entry_spelled}
use Rattle.event_kinds.proofs.entry_text.add_entry.Goals as goal

pub returns-clause-spelled : goal.returns-clause-spelled
returns-clause-spelled c = entry_spelled c.args.entry.now c.add_changes.result c.push_entry_head.ensures.spelled (rw c.changes_in.ensures at c.add_changes.ensures.spelled)
