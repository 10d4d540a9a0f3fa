-- Which modes are enough for a change: one that is, and one that is too weak. Two tables, an index, a foreign key and a trigger are there; backend 2 holds locks on the tables, and the change is its next.
use Rattle.std.proofs.Common.{◌≡◌, ◌++◌, ℕ, ℤ, Bool, pos, negsuc, true, false, Some, None, List, [], ◌∷◌, codes, refl, map, arith, ◌&&◌, ◌||◌}
use Rattle.base_types.specs.declared.mode.Mode.{Mode}
use Rattle.base_types.specs.declared.mode.Mode.TheVariants.{ShareUpdateExclusive, Share, ShareRowExclusive, Exclusive, AccessExclusive}
use Rattle.base_types.specs.declared.kind.Kind.TheVariants.{Table, Index}
use Rattle.base_types.specs.declared.index_state.IndexState.TheVariants.{Valid}
use Rattle.base_types.specs.declared.row.Row.{Row}
use Rattle.base_types.specs.declared.row.Row.TheVariants.{Class, Att, Ind, Con, Trg}
use Rattle.base_types.specs.declared.row.ConKind.{ConKind}
use Rattle.base_types.specs.declared.row.ConKind.TheVariants.{Check, Foreign}
use Rattle.base_types.specs.declared.col_type.ColType.TheVariants.{Int4}
use Rattle.base_types.specs.declared.row_key.RowKey.TheVariants as keys
use Rattle.event_kinds.specs.declared.entry.Entry.{Entry}
use Rattle.event_kinds.specs.declared.entry.Event.TheVariants.{Start, Look, LockOk, Write, Visible, Publish, Release}
use Rattle.event_kinds.specs.declared.entry.Item.{Item}
use Rattle.event_kinds.specs.declared.entry.Item.TheVariants.{Add, Put, Remove, Force}
use Rattle.history_model.specs.Types.{Oid}
use Rattle.history_model.specs.Covered.{covers_changes}
use Rattle.history_model.specs.Orderly.{covers_told}
use Rattle.history_model.specs.Sound.{IsSound}
use Rattle.history_model.specs.Writes.{is_guarded}
use Rattle.cacheless.proofs.Plans.Given.{oid, xid, entry, new_table}

-- the foreign key of the first table, with another name or another word on whether it is known to hold
abbrev pub foreign_key : List ℕ → Bool → Row
foreign_key name valid = Con (oid 16387) (oid 16384) name valid (Foreign 1 (oid 16385) 1)

abbrev pub another_key : ConKind → Row
another_key what = Con (oid 16389) (oid 16384) (codes "k") false what

abbrev pub trigger : Bool → Row
trigger on = Trg (oid 16388) (oid 16384) (codes "g") on

abbrev pub column : List ℕ → ℤ → Row
column name stat = Att (oid 16384) 1 name Int4 stat true

-- all are made at once
abbrev pub made : List Entry
made = entry 1 0 Start ∷ entry 2 0 Start ∷ entry 1 1 (Look false)
    ∷ entry 1 1 (Write (xid 1) (new_table 16384 (codes "t") (codes "a") ++ new_table 16385 (codes "u") (codes "a")
    ++ Add (Class (oid 16386) (codes "i") Index None) ∷ Add (Ind (oid 16386) (oid 16384) Valid (1 ∷ [])) ∷ Add (foreign_key (codes "f") false) ∷ Add (trigger true) ∷ []))
    ∷ entry 1 1 (Visible (xid 1)) ∷ entry 1 1 (Publish 8) ∷ entry 1 1 (Publish 3) ∷ entry 1 1 (Release 1) ∷ []

made_sound : IsSound made
made_sound = search arith

-- a change is guarded where the backend holds these modes on these relations, and makes these
abbrev pub is_enough_by : List (ℕ × Mode) → List Oid → Item → Bool
is_enough_by locks new item = is_guarded (made ++ map (λ l. entry 2 1 (LockOk (oid l.0) l.1)) locks) 2 new item

-- a fillfactor and a statistics target
pub fill_is : is_enough_by ((16384, ShareUpdateExclusive) ∷ []) [] (Put (Class (oid 16384) (codes "t") Table (Some 50))) ≡ true
fill_is = refl

pub fill_not : is_enough_by ((16384, Exclusive) ∷ []) [] (Put (Class (oid 16384) (codes "t") Table (Some 50))) ≡ false
fill_not = refl

pub name_is : is_enough_by ((16384, AccessExclusive) ∷ []) [] (Put (Class (oid 16384) (codes "s") Table None)) ≡ true
name_is = refl

pub name_not : is_enough_by ((16384, ShareUpdateExclusive) ∷ (16384, ShareRowExclusive) ∷ []) [] (Put (Class (oid 16384) (codes "s") Table None)) ≡ false
name_not = refl

-- an index's name, with its fillfactor or without
pub index_name_is : is_enough_by ((16386, ShareUpdateExclusive) ∷ []) [] (Put (Class (oid 16386) (codes "j") Index (Some 50))) ≡ true
index_name_is = refl

pub index_name_not : is_enough_by ((16386, Share) ∷ (16384, AccessExclusive) ∷ []) [] (Put (Class (oid 16386) (codes "j") Index None)) ≡ false
index_name_not = refl

pub target_is : is_enough_by ((16384, ShareUpdateExclusive) ∷ []) [] (Put (column (codes "a") (pos 9))) ≡ true
target_is = refl

pub target_not : is_enough_by ((16384, Share) ∷ []) [] (Put (column (codes "a") (pos 9))) ≡ false
target_not = refl

pub column_not : is_enough_by ((16384, ShareUpdateExclusive) ∷ []) [] (Put (column (codes "b") (negsuc 0))) ≡ false
column_not = refl

-- a foreign key is validated under a lock of its own relation alone, and not under one of the relation that it refers to
pub valid_is : is_enough_by ((16384, ShareUpdateExclusive) ∷ []) [] (Put (foreign_key (codes "f") true)) ≡ true
valid_is = refl

pub valid_not : is_enough_by ((16384, ShareRowExclusive) ∷ []) [] (Put (foreign_key (codes "f") true)) ≡ false
valid_not = refl

pub referred_not : is_enough_by ((16385, AccessExclusive) ∷ []) [] (Put (foreign_key (codes "f") true)) ≡ false
referred_not = refl

-- but where more changes, both count
pub key_is : is_enough_by ((16384, AccessExclusive) ∷ (16385, AccessExclusive) ∷ []) [] (Put (foreign_key (codes "h") true)) ≡ true
key_is = refl

pub key_own_not : is_enough_by ((16384, AccessExclusive) ∷ []) [] (Put (foreign_key (codes "h") true)) ≡ false
key_own_not = refl

pub key_weak_not : is_enough_by ((16384, ShareUpdateExclusive) ∷ (16385, ShareUpdateExclusive) ∷ []) [] (Put (foreign_key (codes "h") true)) ≡ false
key_weak_not = refl

-- a foreign key is added under ShareRowExclusive on both relations, and taken away under AccessExclusive alone; and so is a check at all
pub key_added_is : is_enough_by ((16384, ShareRowExclusive) ∷ (16385, ShareRowExclusive) ∷ []) [] (Add (another_key (Foreign 1 (oid 16385) 1))) ≡ true
key_added_is = refl

pub key_added_half_not : is_enough_by ((16384, ShareRowExclusive) ∷ (16385, ShareUpdateExclusive) ∷ []) [] (Add (another_key (Foreign 1 (oid 16385) 1))) ≡ false
key_added_half_not = refl

pub key_taken_is : is_enough_by ((16384, AccessExclusive) ∷ (16385, AccessExclusive) ∷ []) [] (Remove (keys.Con (oid 16387))) ≡ true
key_taken_is = refl

pub key_taken_not : is_enough_by ((16384, ShareRowExclusive) ∷ (16385, ShareRowExclusive) ∷ []) [] (Remove (keys.Con (oid 16387))) ≡ false
key_taken_not = refl

pub check_is : is_enough_by ((16384, AccessExclusive) ∷ []) [] (Add (another_key (Check (codes "a>0")))) ≡ true
check_is = refl

pub check_not : is_enough_by ((16384, ShareRowExclusive) ∷ []) [] (Add (another_key (Check (codes "a>0")))) ≡ false
check_not = refl

-- a trigger is added, changed and taken away under ShareRowExclusive
pub trigger_added_is : is_enough_by ((16384, ShareRowExclusive) ∷ []) [] (Add (Trg (oid 16389) (oid 16384) (codes "h") true)) ≡ true
trigger_added_is = refl

pub trigger_is : is_enough_by ((16384, ShareRowExclusive) ∷ []) [] (Put (trigger false)) ≡ true
trigger_is = refl

pub trigger_not : is_enough_by ((16384, ShareUpdateExclusive) ∷ (16384, Share) ∷ []) [] (Put (trigger false)) ≡ false
trigger_not = refl

pub trigger_taken_is : is_enough_by ((16384, ShareRowExclusive) ∷ []) [] (Remove (keys.Trg (oid 16388))) ≡ true
trigger_taken_is = refl

pub trigger_taken_not : is_enough_by ((16384, Share) ∷ []) [] (Remove (keys.Trg (oid 16388))) ≡ false
trigger_taken_not = refl

-- an index is built under Share on its table, where the write makes the index, and taken away under AccessExclusive on both
pub index_is : is_enough_by ((16384, Share) ∷ []) (oid 16389 ∷ []) (Add (Ind (oid 16389) (oid 16384) Valid (1 ∷ []))) ≡ true
index_is = refl

pub index_not : is_enough_by ((16384, ShareUpdateExclusive) ∷ (16384, ShareRowExclusive) ∷ []) (oid 16389 ∷ []) (Add (Ind (oid 16389) (oid 16384) Valid (1 ∷ []))) ≡ false
index_not = refl

pub index_unmade_not : is_enough_by ((16384, Share) ∷ (16386, Share) ∷ []) [] (Add (Ind (oid 16386) (oid 16384) Valid (1 ∷ []))) ≡ false
index_unmade_not = refl

pub index_taken_is : is_enough_by ((16384, AccessExclusive) ∷ (16386, AccessExclusive) ∷ []) [] (Remove (keys.Ind (oid 16386))) ≡ true
index_taken_is = refl

pub index_taken_not : is_enough_by ((16384, Share) ∷ (16386, AccessExclusive) ∷ []) [] (Remove (keys.Ind (oid 16386))) ≡ false
index_taken_not = refl

-- a message that is forced asks for no lock
pub forced_is : is_enough_by [] [] (Force (oid 16384)) ≡ true
forced_is = refl

-- what the messages of a write of the first backend must cover, and whether they cover what it changes
abbrev pub tells_enough : List Item → Bool
tells_enough items = covers_told made 1 items && covers_changes made 1 2 (xid 2) items

-- a validation sends a message to the foreign key's own relation alone: that it refers to needs none
pub valid_told : tells_enough (Put (foreign_key (codes "f") true) ∷ []) ≡ true
valid_told = refl

-- but a change of its name does, and then it is told
pub key_untold : (covers_told made 1 (Put (foreign_key (codes "h") false) ∷ []) || covers_changes made 1 2 (xid 2) (Put (foreign_key (codes "h") false) ∷ [])) ≡ false
key_untold = refl

pub key_told : tells_enough (Put (foreign_key (codes "h") false) ∷ Force (oid 16385) ∷ []) ≡ true
key_told = refl

-- a trigger's change sends none by itself
pub trigger_untold : (covers_told made 1 (Put (trigger false) ∷ []) || covers_changes made 1 2 (xid 2) (Put (trigger false) ∷ [])) ≡ false
trigger_untold = refl

pub trigger_told : tells_enough (Put (trigger false) ∷ Force (oid 16384) ∷ []) ≡ true
trigger_told = refl
