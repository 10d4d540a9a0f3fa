use Rattle.std.proofs.Common.{◌≡◌, ◌-◌, codes}
use Rattle.event_kinds.specs.Readers.{more_at, with_front}
use Rattle.event_kinds.specs.Reading.{item_at, rest_items_at}
use Rattle.event_kinds.proofs.cursor.Cursor.more_items.Given as goal

abbrev pub invariant-turns : goal.invariant-turns
invariant-turns l = with_front l.items (more_at (codes " ") item_at (l.most - l._turn) l.self) ≡ with_front l.fn.items (rest_items_at l.fn.self)
