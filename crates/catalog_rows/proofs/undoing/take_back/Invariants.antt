use Rattle.std.proofs.Common.{◌≡◌, ◌-◌, Bool, false, None, List, ◌∷◌, length, drop}
use Rattle.catalog_rows.specs.Store.{has_committed, is_back}
use Rattle.catalog_rows.specs.Slots.{Settles, slot_back}
use Rattle.catalog_rows.specs.Index.{IsNumbered, IsOnly, IsCurrent}
use Rattle.catalog_rows.proofs.undoing.take_back.Given as goal

abbrev pub invariant-loop-turn : goal.invariant-loop-turn
invariant-loop-turn l = record {
  numbered : IsNumbered l.slots l.indexes.all;
  only : IsOnly l.indexes;
  current : (committed : List Bool) → has_committed committed l.xid.0 ≡ false → IsCurrent committed l.fn.slots l.fn.indexes → IsCurrent committed l.slots l.indexes;
  whole : l.indexes.whole ≡ l.fn.indexes.whole;
  settles : Settles (slot_back (is_back l.xid l.from)) (drop (length l.list - l.turn) l.list) (None ∷ l.fn.slots) (None ∷ l.slots);
}
