-- Tests whether items of writes are equal.
use Rattle.std.specs.Prelude.{ℕ, Bool, true, false, List, [], ◌∷◌, ◌&&◌}
use Rattle.base_types.specs.RowKeys.{same_key}
use Rattle.base_types.specs.Scans.{same_oid}
use Rattle.event_kinds.specs.declared.entry.Item.TheVariants as items
use Rattle.ddl_effect.specs.Drawing.{drawn_change}
use Rattle.history_model.specs.Changes.{item_of}
use Rattle.history_model.specs.Covered.{same_row}
use Rattle.history_model.specs.Types.{Change}
use Rattle.cacheless.specs.Types.{Oid, Item}

-- two items are equal
abbrev pub same_item : Item → Item → Bool
same_item (items.Add row) (items.Add other) = same_row row other
same_item (items.Put row) (items.Put other) = same_row row other
same_item (items.Remove key) (items.Remove other) = same_key key other
same_item (items.Force rel) (items.Force other) = same_oid rel other
same_item item other = false

-- two lists of items are equal
abbrev pub same_items : List Item → List Item → Bool
same_items [] [] = true
same_items (item ∷ more) (other ∷ others) = same_item item other && same_items more others
same_items given others = false

-- these are the items of changes, in which an oid from 1 to `new_oids` means a new one
abbrev pub changes_match : ℕ → ℕ → List Item → List Change → Bool
changes_match next new_oids [] [] = true
changes_match next new_oids (item ∷ more) (change ∷ changes) = same_item item (item_of (drawn_change next new_oids change)) && changes_match next new_oids more changes
changes_match next new_oids given changes = false

-- these are the items of the relations that are forced to send a message
abbrev pub forced_match : List Item → List Oid → Bool
forced_match [] [] = true
forced_match (item ∷ more) (rel ∷ forced) = same_item item (items.Force rel) && forced_match more forced
forced_match given forced = false
