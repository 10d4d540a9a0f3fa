use Rattle.base_types.proofs.Joining.{HasItems, items_of}
use Rattle.base_types.proofs.field_rows.field_text.Given as goal

abbrev pub invariant-loop-row : goal.invariant-loop-row
invariant-loop-row l = HasItems (items_of l.fn.field l.fn.rel l.rows l.row-index) l.some l.text.items
