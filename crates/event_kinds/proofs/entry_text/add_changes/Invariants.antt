use Rattle.std.proofs.Common.{◌≡◌, ◌++◌, take}
use Rattle.std.specs.List.{All}
use Rattle.event_kinds.specs.Entries.{IsItem}
use Rattle.event_kinds.specs.Texts.{changes_text}
use Rattle.event_kinds.proofs.entry_text.add_changes.Given as goal

abbrev pub invariant-loop-change : goal.invariant-loop-change
invariant-loop-change l = record {
  text : l.out.items ≡ l.fn.out.items ++ changes_text (take l.change-index l.changes);
  spelled : All IsItem (take l.change-index l.changes);
}
