-- Which writes a segment allows.
use Rattle.std.specs.Prelude.{ℕ, Bool, true, false, not, Option, Some, None, List, [], ◌∷◌, ◌+◌, ◌==◌, ◌&&◌, ◌||◌, if◌then◌else◌, is_some}
use Rattle.std.specs.Option.{option_map_or}
use Rattle.std.specs.List.{flat_map, filter_map, list_any, list_all}
use Rattle.base_types.specs.RowKeys.{key_of, are_distinct_keys}
use Rattle.base_types.specs.Scans.{same_oid}
use Rattle.base_types.specs.declared.row.ConKind.TheVariants as demands
use Rattle.base_types.specs.declared.row.Row.TheVariants as rows
use Rattle.base_types.specs.declared.scan.Purpose.TheVariants as scans
use Rattle.lock_modes.specs.Grants.{holds}
use Rattle.history_model.specs.Types.{Oid, Xid, Mode, ShareUpdateExclusive, Share, ShareRowExclusive, AccessExclusive, Kind, Table, Index, Row, RowKey, Item, Add, Put, Remove, Force, Event, Write}
use Rattle.history_model.specs.Segment.{Segment, xid_at}
use Rattle.history_model.specs.Rows.{ended_key, added_row, old_at, row_at, answer_at}
use Rattle.history_model.specs.Oids.{drawn_by, made_by}
use Rattle.history_model.specs.InUse.{new_name, users_at}
use Rattle.history_model.specs.Coverage.{same_row, covers_at}

-- the key of the row that a change is of, if it is of one
abbrev pub changed_key : Item → List RowKey
changed_key (Add row) = key_of row ∷ []
changed_key (Put row) = key_of row ∷ []
changed_key (Remove key) = key ∷ []
changed_key (Force rel) = []

-- the list has no element
abbrev pub is_empty : {X : Type 0} → List X → Bool
is_empty [] = true
is_empty (x ∷ xs) = false

-- the relations that a row names
abbrev pub relations_of : Row → List Oid
relations_of (rows.Class oid name kind fill) = oid ∷ []
relations_of (rows.Att rel num name col_type stat live) = rel ∷ []
relations_of (rows.Def oid rel num word) = rel ∷ []
relations_of (rows.Ind index table state nums) = index ∷ table ∷ []
relations_of (rows.Con oid rel name valid (demands.Foreign num refrel refnum)) = rel ∷ refrel ∷ []
relations_of (rows.Con oid rel name valid what) = rel ∷ []
relations_of (rows.Trg oid rel name on) = rel ∷ []

-- the rows that a change names: the old one and the new one
abbrev pub rows_named : Item → Option Row → List Row
rows_named item old = filter_map (λ row. row) (old ∷ added_row item ∷ [])

-- nothing but whether it is known to hold differs between two rows of a constraint
abbrev pub validates : Option Row → Row → Bool
validates (Some (rows.Con oid rel own old what)) (rows.Con to of name valid what') = same_row (rows.Con oid rel own valid what) (rows.Con to of name valid what')
validates old row = false

-- a change leaves a constraint but for whether it is known to hold
abbrev pub is_validation : Option Row → Item → Bool
is_validation old (Put row) = validates old row
is_validation old item = false

-- the relations of a row that is changed: those that it names, but of a constraint that is validated its own alone
abbrev pub relations_changed : Bool → Row → List Oid
relations_changed validated (rows.Con oid rel name valid (demands.Foreign num refrel refnum)) = if validated then rel ∷ [] else rel ∷ refrel ∷ []
relations_changed validated row = relations_of row

-- ShareUpdateExclusive, where a change passes a test
abbrev pub update_where : Bool → Option Mode
update_where true = Some ShareUpdateExclusive
update_where false = None

-- the mode that is enough to add a row: ShareRowExclusive for a foreign key or a trigger, and on its table Share for an index
abbrev pub mode_to_add : Row → Oid → Option Mode
mode_to_add (rows.Ind index table state nums) rel = if same_oid table rel then Some Share else None
mode_to_add (rows.Con oid of name valid (demands.Foreign num refrel refnum)) rel = Some ShareRowExclusive
mode_to_add (rows.Trg oid of name on) rel = Some ShareRowExclusive
mode_to_add row rel = None

-- the name that the row of a relation may be given without AccessExclusive, by its own name and the new one: of an index any, of a table its own
abbrev pub name_allowed : Kind → List ℕ → List ℕ → List ℕ
name_allowed Table own name = own
name_allowed Index own name = name

-- nothing but a fillfactor, and the name of an index, differs between two rows of a relation
abbrev pub refills : Option Row → Row → Bool
refills (Some (rows.Class oid own kind old)) (rows.Class to name kind' fill) = same_row (rows.Class oid (name_allowed kind own name) kind fill) (rows.Class to name kind' fill)
refills old row = false

-- nothing but a statistics target differs between two rows of a column
abbrev pub retargets : Option Row → Row → Bool
retargets (Some (rows.Att rel num own col_type old live)) (rows.Att to num' name col_type' stat live') = same_row (rows.Att rel num own col_type stat live) (rows.Att to num' name col_type' stat live')
retargets old row = false

-- to replace one: ShareRowExclusive for a trigger, and ShareUpdateExclusive where nothing but a fillfactor, an index's name, a statistics target or whether a constraint is known to hold changes
abbrev pub mode_to_replace : Option Row → Row → Option Mode
mode_to_replace (Some (rows.Class oid own kind old)) (rows.Class to name kind' fill) = update_where (refills (Some (rows.Class oid own kind old)) (rows.Class to name kind' fill))
mode_to_replace (Some (rows.Att rel num own col_type old live)) (rows.Att to num' name col_type' stat live') = update_where (retargets (Some (rows.Att rel num own col_type old live)) (rows.Att to num' name col_type' stat live'))
mode_to_replace (Some (rows.Con oid rel own old what)) (rows.Con to of name valid what') = update_where (validates (Some (rows.Con oid rel own old what)) (rows.Con to of name valid what'))
mode_to_replace (Some (rows.Trg oid rel own old)) (rows.Trg to of name on) = Some ShareRowExclusive
mode_to_replace old row = None

-- to take one away: ShareRowExclusive for a trigger
abbrev pub mode_to_remove : Option Row → Option Mode
mode_to_remove (Some (rows.Trg oid rel name on)) = Some ShareRowExclusive
mode_to_remove old = None

-- the mode weaker than AccessExclusive that is enough for a change on a relation, if there is one
abbrev pub weaker_mode : Option Row → Item → Oid → Option Mode
weaker_mode old (Add row) rel = mode_to_add row rel
weaker_mode old (Put row) rel = mode_to_replace old row
weaker_mode old (Remove key) rel = mode_to_remove old
weaker_mode old (Force of) rel = None

-- AccessExclusive is enough, and so is a weaker mode where there is one
abbrev pub enough_with : Option Mode → List Mode
enough_with None = AccessExclusive ∷ []
enough_with (Some mode) = mode ∷ AccessExclusive ∷ []

-- the modes that are enough for a change of this row on a relation
abbrev pub modes_enough : Option Row → Item → Oid → List Mode
modes_enough old item rel = enough_with (weaker_mode old item rel)

-- two rows of relations are of one kind
abbrev pub same_kind : Row → Row → Bool
same_kind (rows.Class a name Table fill) (rows.Class b other Index fill') = false
same_kind (rows.Class a name Index fill) (rows.Class b other Table fill') = false
same_kind a b = true

-- a change leaves the kind of a relation
abbrev pub leaves_kind : Item → Option Row → Bool
leaves_kind (Put row) old = option_map_or (λ had. same_kind had row) old true
leaves_kind item old = true

-- what a change replaces or takes away is there
abbrev pub is_there : Item → Option Row → Bool
is_there item old = option_map_or (λ key. is_some old) (ended_key item) true

-- neither a running transaction of another backend has the name in use, nor has a relation that the backend sees
abbrev pub free_at : Segment → ℕ → List ℕ → Bool
free_at s b name = is_empty (users_at s b name) && is_empty (answer_at s b (scans.RelName name))

-- a change is guarded: on each relation of its rows, but those that the write makes, the backend holds a mode that is enough for it
abbrev pub guarded_at : Segment → ℕ → List Oid → Item → Option Row → Bool
guarded_at s b made item old =
    list_all (λ rel. list_any (same_oid rel) made || list_any (holds s.held b rel) (modes_enough old item rel)) (flat_map (relations_changed (is_validation old item)) (rows_named item old))

-- a change is allowed by itself, where this is the row that it replaces or takes away, and the write makes these relations: that row is there, a relation keeps its kind, the new name is free, and the change is guarded
abbrev pub may_change : Segment → ℕ → List Oid → Item → Option Row → Bool
may_change s b made item old = is_there item old && leaves_kind item old && list_all (free_at s b) (new_name old (added_row item)) && guarded_at s b made item old

-- these are the next numbers, in order
abbrev pub are_from : ℕ → List ℕ → Bool
are_from next [] = true
are_from next (n ∷ numbers) = (n == next) && are_from (next + 1) numbers

-- the backend's last write was in this command
abbrev pub is_last_write : Option ℕ → ℕ → Bool
is_last_write wrote command = option_map_or (λ w. w == command) wrote false

-- a write has its transaction's Xid or the next one, draws the next oids in order, is the only one of its command, changes no key twice, makes changes of which each is allowed by itself, and covers each scan that it changes by a message
abbrev pub may_write : Segment → ℕ → ℕ → Xid → List Item → Bool
may_write s b c xid items =
    (xid.0 == xid_at s b) && are_from s.next_oid (flat_map drawn_by items) && not (is_last_write (s.standing b).wrote c) && are_distinct_keys (flat_map changed_key items)
    && list_all (λ item. may_change s b (flat_map made_by items) item (old_at s b item)) items && covers_at s b c xid items
