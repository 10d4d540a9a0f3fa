use Rattle.std.proofs.Common.{take}
use Rattle.std.specs.List.{All}
use Rattle.event_kinds.specs.Entries.{IsItem}
use Rattle.out_text.proofs.typed.look_at_changes.Given as goal

abbrev pub invariant-loop-change : goal.invariant-loop-change
invariant-loop-change l = All IsItem (take l.change-index l.changes)
