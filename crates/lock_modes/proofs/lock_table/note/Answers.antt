use Rattle.std.proofs.Common.{◌∙◌, ap}
use Rattle.lock_modes.specs.Changes.{held_after}
use Rattle.lock_modes.proofs.Changes.{held_more}
use Rattle.lock_modes.proofs.lock_table.note.Goals as goal

pub returns : goal.returns
returns c = ap held_after c.push.ensures ∙ held_more c.args.changes.now.items c.args.change.now
