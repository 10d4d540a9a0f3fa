-- Changes that give no column and take none away keep the columns of tables; changes that give no relation's row give no relation a name, and lock no new one.
use Rattle.std.proofs.Common.{◌≡◌, ℕ, true, Option, Some, None, List, [], ◌∷◌, refl}
use Rattle.std.specs.Prelude.{⊤}
use Rattle.std.specs.List.{AllByRecursion, flat_map}
use Rattle.std.specs.Option.{IfSome}
use Rattle.base_types.specs.declared.row.Row.TheVariants as rows
use Rattle.base_types.specs.declared.row_key.RowKey.TheVariants as keys
use Rattle.event_kinds.specs.declared.entry.Item.TheVariants as forms
use Rattle.history_model.specs.Drawn.{made_by}
use Rattle.history_model.specs.Names.{new_name, new_names}
use Rattle.history_model.specs.Versions.{added_row, rows_of, old_row}
use Rattle.history_model.proofs.Every.{every, every-weaker}
use Rattle.cacheless.specs.Locks.{locked_by}
use Rattle.cacheless.specs.TableWrites.{takes_whole, is_next_column, AreNamesakes, IsCalledApart, CallsApart, AreCalledApart, KeepsColumns, ShareName, AreNamedApart}
use Rattle.cacheless.specs.Types.{Row, Entry, Item}
use Rattle.cacheless.proofs.Written.FitToWrite.{all_pass, all_none}

-- the row is no column's
abbrev pub IsNoColumn : Row → Type 0
IsNoColumn (rows.Att rel num name col_type stat live) = ⊥
IsNoColumn row = ⊤

-- the change gives no column, and takes none away
abbrev pub LeavesColumns : Item → Type 0
LeavesColumns (forms.Add row) = IsNoColumn row
LeavesColumns (forms.Put row) = IsNoColumn row
LeavesColumns (forms.Remove (keys.Att rel num)) = ⊥
LeavesColumns item = ⊤

leaves_whole : (items : List Item) (item : Item) → LeavesColumns item → takes_whole items item ≡ true
leaves_whole items (forms.Remove (keys.Att rel num)) leaves = absurd leaves
leaves_whole items item leaves = refl

leaves_next : (before : List Entry) (b : ℕ) (items : List Item) (item : Item) → LeavesColumns item → is_next_column before b items item ≡ true
leaves_next before b items (forms.Add (rows.Att rel num name col_type stat live)) leaves = absurd leaves
leaves_next before b items item leaves = refl

no_namesake : (seen row : Row) → IsNoColumn row → AreNamesakes seen row → ⊥
no_namesake (rows.Att of num own col_type stat live) (rows.Att rel num' name col_type' stat' live') none are = none
no_namesake seen row none are = are

-- a row that is no column's has no namesake
pub called_apart : (before : List Entry) (b : ℕ) (row : Row) → IsNoColumn row → IsCalledApart before b row
called_apart before b (rows.Att rel num name col_type stat live) none = absurd none
called_apart before b row none = (tt, every (λ seen. AreNamesakes seen row → ⊥) (λ seen. no_namesake seen row none) (rows_of before b))

leaves_called : (before : List Entry) (b : ℕ) (item : Item) → LeavesColumns item → CallsApart before b item
leaves_called before b (forms.Add row) leaves = called_apart before b row leaves
leaves_called before b (forms.Put row) leaves = called_apart before b row leaves
leaves_called before b (forms.Remove key) leaves = tt
leaves_called before b (forms.Force rel) leaves = tt

not_alike : (row : Row) (o : Option Row) → IsNoColumn row → IfSome o (λ other. AreNamesakes row other → ⊥)
not_alike (rows.Att rel num name col_type stat live) o none = absurd none
not_alike row None none = tt
not_alike row (Some other) none = λ are. are

leaves_one : (item later : Item) → LeavesColumns item → IfSome (added_row item) (λ row. IfSome (added_row later) (λ other. AreNamesakes row other → ⊥))
leaves_one (forms.Add row) later leaves = not_alike row (added_row later) leaves
leaves_one (forms.Put row) later leaves = not_alike row (added_row later) leaves
leaves_one (forms.Remove key) later leaves = tt
leaves_one (forms.Force rel) later leaves = tt

leaves_apart : (items : List Item) → AllByRecursion LeavesColumns items → AreCalledApart items
leaves_apart [] all = tt
leaves_apart (item ∷ items) all = (every (λ later. IfSome (added_row item) (λ row. IfSome (added_row later) (λ other. AreNamesakes row other → ⊥))) (λ later. leaves_one item later all.0) items, leaves_apart items all.1)

-- such changes keep columns
pub leave_keep : (before : List Entry) (b : ℕ) (items : List Item) → AllByRecursion LeavesColumns items → KeepsColumns before b items
leave_keep before b items all = record {
  whole = all_pass (takes_whole items) items (every-weaker LeavesColumns (λ item. takes_whole items item ≡ true) (leaves_whole items) items all);
  columns = all_pass (is_next_column before b items) items (every-weaker LeavesColumns (λ item. is_next_column before b items item ≡ true) (leaves_next before b items) items all);
  called = every-weaker LeavesColumns (CallsApart before b) (leaves_called before b) items all;
  apart = leaves_apart items all;
}

-- the row is no relation's
abbrev pub IsNoRelation : Row → Type 0
IsNoRelation (rows.Class oid name kind fill) = ⊥
IsNoRelation row = ⊤

-- the change gives no relation's row
abbrev pub LeavesRelations : Item → Type 0
LeavesRelations item = IfSome (added_row item) IsNoRelation

no_name : (row : Row) (o : Option Row) → IsNoRelation row → IfSome o (λ other. ShareName row other → ⊥)
no_name (rows.Class oid name kind fill) o none = absurd none
no_name row None none = tt
no_name row (Some other) none = λ share. share

name_apart : (item later : Item) → LeavesRelations item → IfSome (added_row item) (λ row. IfSome (added_row later) (λ other. ShareName row other → ⊥))
name_apart (forms.Add row) later none = no_name row (added_row later) none
name_apart (forms.Put row) later none = no_name row (added_row later) none
name_apart (forms.Remove key) later none = tt
name_apart (forms.Force rel) later none = tt

-- such changes give no name to two relations
pub leave_apart : (items : List Item) → AllByRecursion LeavesRelations items → AreNamedApart items
leave_apart [] all = tt
leave_apart (item ∷ items) all = (every (λ later. IfSome (added_row item) (λ row. IfSome (added_row later) (λ other. ShareName row other → ⊥))) (λ later. name_apart item later all.0) items, leave_apart items all.1)

no_other : (row other : Row) → IsNoRelation other → ShareName row other → ⊥
no_other (rows.Class oid name kind fill) (rows.Class to own kind' fill') none share = none
no_other row other none share = share

other_apart : (row : Row) (later : Item) → LeavesRelations later → IfSome (added_row later) (λ other. ShareName row other → ⊥)
other_apart row (forms.Add other) none = no_other row other none
other_apart row (forms.Put other) none = no_other row other none
other_apart row (forms.Remove key) none = tt
other_apart row (forms.Force rel) none = tt

-- nor do they after one that gives a relation's row
pub one_apart : (item : Item) (items : List Item) → AllByRecursion LeavesRelations items → AreNamedApart (item ∷ items)
one_apart item items all = (every-weaker LeavesRelations (λ later. IfSome (added_row item) (λ row. IfSome (added_row later) (λ other. ShareName row other → ⊥))) (of (added_row item)) items all, leave_apart items all)
  where
    of : (o : Option Row) (later : Item) → LeavesRelations later → IfSome o (λ row. IfSome (added_row later) (λ other. ShareName row other → ⊥))
    of None later none = tt
    of (Some row) later none = other_apart row later none

leaves_lockless : (c : ℕ) (item : Item) → LeavesRelations item → locked_by c item ≡ []
leaves_lockless c (forms.Add (rows.Class oid name kind fill)) none = absurd none
leaves_lockless c item none = refl

-- they lock no new relation
pub leave_lockless : (c : ℕ) (items : List Item) → AllByRecursion LeavesRelations items → flat_map (locked_by c) items ≡ []
leave_lockless c items all = all_none (locked_by c) items (every-weaker LeavesRelations (λ item. locked_by c item ≡ []) (leaves_lockless c) items all)

leaves_unmade : (item : Item) → LeavesRelations item → made_by item ≡ []
leaves_unmade (forms.Add (rows.Class oid name kind fill)) none = absurd none
leaves_unmade item none = refl

-- they make none
pub leave_unmade : (items : List Item) → AllByRecursion LeavesRelations items → flat_map made_by items ≡ []
leave_unmade items all = all_none made_by items (every-weaker LeavesRelations (λ item. made_by item ≡ []) leaves_unmade items all)

unnamed : (old : Option Row) → new_name old None ≡ []
unnamed None = refl
unnamed (Some (rows.Class oid name kind fill)) = refl
unnamed (Some row) = refl

leaves_name : (old : Option Row) (row : Row) → IsNoRelation row → new_name old (Some row) ≡ []
leaves_name old (rows.Class oid name kind fill) none = absurd none
leaves_name None row none = refl
leaves_name (Some (rows.Class oid name kind fill)) row none = refl
leaves_name (Some own) row none = refl

pub leaves_unnamed : (before : List Entry) (b : ℕ) (item : Item) → LeavesRelations item → new_name (old_row before b item) (added_row item) ≡ []
leaves_unnamed before b (forms.Add row) none = leaves_name (old_row before b (forms.Add row)) row none
leaves_unnamed before b (forms.Put row) none = leaves_name (old_row before b (forms.Put row)) row none
leaves_unnamed before b (forms.Remove key) none = unnamed (old_row before b (forms.Remove key))
leaves_unnamed before b (forms.Force rel) none = refl

-- and give none a new name
pub leave_unnamed : (before : List Entry) (b : ℕ) (items : List Item) → AllByRecursion LeavesRelations items → new_names before b items ≡ []
leave_unnamed before b items all = all_none (λ item. new_name (old_row before b item) (added_row item)) items (every-weaker LeavesRelations (λ item. new_name (old_row before b item) (added_row item) ≡ []) (leaves_unnamed before b) items all)
