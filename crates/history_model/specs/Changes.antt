-- The items of a write, by its changes.
use Rattle.std.specs.Prelude.{List, ◌++◌, map}
use Rattle.history_model.specs.Types.{Oid, Change, Insert, Replace, Delete, Item, Add, Put, Remove, Force}

-- the item of a change
abbrev pub item_of : Change → Item
item_of (Insert row) = Add row
item_of (Replace row) = Put row
item_of (Delete key) = Remove key

-- the items of changes, and last those of the relations that are forced to send a message
abbrev pub items_of : List Change → List Oid → List Item
items_of changes forced = map item_of changes ++ map Force forced
