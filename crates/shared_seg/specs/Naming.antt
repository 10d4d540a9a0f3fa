-- The new names of changes, and which of them is taken.
use Rattle.std.specs.Prelude.{ℕ, Option, Some, None, List, [], ◌∷◌, ◌++◌, ◌≡◌}
use Rattle.std.specs.List.{AllByRecursion}
use Rattle.base_types.specs.declared.ids.Xid.{Xid}
use Rattle.event_kinds.specs.declared.entry.Event.{Event}
use Rattle.event_kinds.specs.declared.entry.Event.TheVariants.{ClashRow, ClashRunning}
use Rattle.event_kinds.specs.declared.entry.Item.{Item}
use Rattle.row_visibility.specs.declared.clash.Clash.{Clash}
use Rattle.row_visibility.specs.declared.clash.Clash.TheVariants.{Row, Running}
use Rattle.catalog_rows.specs.Store.{Store, clash_of}
use Rattle.history_model.specs.InUse.{new_name}
use Rattle.history_model.specs.Rows.{added_row}
use Rattle.segment_rows.specs.Kept.{reader_of}
use Rattle.segment_rows.specs.Words.{old_at}
use Rattle.seg_calls.specs.declared.refusal.WriteRefusal.{WriteRefusal}
use Rattle.seg_calls.specs.declared.refusal.WriteRefusal.TheVariants.{Clash as RefusesClash}
use Rattle.shared_seg.specs.declared.naming.Taken.{Taken}

-- the name that a change gives a relation, unless the relation has it already
abbrev pub new_name_of : Store → Option Xid → Item → List (List ℕ)
new_name_of store own item = new_name (old_at store (reader_of own) item) (added_row item)

-- the new name of a change, if it has one, is free
abbrev pub NameFree : Store → Option Xid → Item → Type 0
NameFree store own item = AllByRecursion (λ name. clash_of store own name ≡ None) (new_name_of store own item)

-- all new names are free
abbrev pub NamesFree : Store → Option Xid → List Item → Type 0
NamesFree store own items = AllByRecursion (NameFree store own) items

-- the new name of a change is taken
pub record IsTakenBy (store : Store) (own : Option Xid) (item : Item) (taken : Taken) : Type 0 where
  pub clash : clash_of store own taken.name ≡ Some taken.clash
  pub is_new : new_name_of store own item ≡ taken.name ∷ []

-- the first new name that is taken: those of the changes before are free
pub record IsTaken (store : Store) (own : Option Xid) (items : List Item) (taken : Taken) : Type 0 where
  pub before : List Item
  pub item : Item
  pub after : List Item
  pub parts : items ≡ before ++ item ∷ after
  pub free : NamesFree store own before
  pub by : IsTakenBy store own item taken

-- the entry of a clash
abbrev pub clash_event_of : List ℕ → Clash → Event
clash_event_of name (Row rel) = ClashRow name rel
clash_event_of name (Running xid) = ClashRunning name xid

abbrev pub clash_with : Taken → Event
clash_with taken = clash_event_of taken.name taken.clash

-- the refusal of a clash
abbrev pub refuses : Taken → WriteRefusal
refuses taken = RefusesClash taken.name taken.clash
