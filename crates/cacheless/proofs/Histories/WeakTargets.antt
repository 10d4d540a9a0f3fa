-- A worked example: a column's statistics target is set twice under ShareUpdateExclusive. Others still see the columns as they were, though the column's row has another place among the versions.
use Rattle.std.specs.Fmt.{digits}
use Rattle.std.proofs.Common.{◌≡◌, ◌++◌, ℤ, pos, false, true, List, [], ◌∷◌, codes, refl, arith}
use Rattle.base_types.specs.declared.mode.Mode.TheVariants.{ShareUpdateExclusive}
use Rattle.base_types.specs.declared.kind.Kind.TheVariants.{Table}
use Rattle.base_types.specs.declared.field.Field.TheVariants as fields
use Rattle.base_types.specs.declared.col_type.ColType.TheVariants.{Int4}
use Rattle.base_types.specs.declared.row.Row.TheVariants.{Att}
use Rattle.event_kinds.specs.declared.entry.Entry.{Entry}
use Rattle.event_kinds.specs.declared.entry.Event.TheVariants.{Start, Look, LockOk, Write, Visible, Publish, Release}
use Rattle.event_kinds.specs.declared.entry.Item.{Item}
use Rattle.event_kinds.specs.declared.entry.Item.TheVariants.{Put}
use Rattle.history_model.specs.Versions.{fresh_text}
use Rattle.history_model.specs.Sound.{MayComeNext, IsSound}
use Rattle.history_model.proofs.WeakChanges.{weak_visible}
use Rattle.cacheless.proofs.Plans.Given.{oid, xid, entry, wide_table}

-- the first of two columns, with a target
abbrev pub target_put : ℤ → List Item
target_put target = Put (Att (oid 16384) 1 (codes "aa") Int4 target true) ∷ []

abbrev pub changed : List Entry
changed = entry 1 0 Start ∷ entry 2 0 Start ∷ entry 1 1 (Look false) ∷ entry 1 1 (Write (xid 1) (wide_table 16384 (codes "t") 2)) ∷ entry 1 1 (Visible (xid 1)) ∷ entry 1 1 (Publish 4) ∷ entry 1 1 (Publish 1) ∷ entry 1 1 (Release 1)
    ∷ entry 1 2 (LockOk (oid 16384) ShareUpdateExclusive) ∷ entry 1 2 (Write (xid 2) (target_put (pos 100))) ∷ entry 1 3 (Write (xid 2) (target_put (pos 200))) ∷ []

changed_sound : IsSound changed
changed_sound = search arith

visible_comes : MayComeNext changed (entry 1 3 (Visible (xid 2)))
visible_comes = search arith

-- the columns stay, by the law
pub columns_stay : fresh_text (changed ++ entry 1 3 (Visible (xid 2)) ∷ []) 2 (oid 16384) fields.Columns ≡ fresh_text changed 2 (oid 16384) fields.Columns
columns_stay = weak_visible changed 1 3 (xid 2) 2 Table fields.Columns (oid 16384) changed_sound visible_comes refl refl refl refl

-- the targets don't
pub targets_before : fresh_text changed 2 (oid 16384) fields.Statistics ≡ codes "1:-1 2:-1"
unfolding digits
targets_before = refl

pub targets_after : fresh_text (changed ++ entry 1 3 (Visible (xid 2)) ∷ []) 2 (oid 16384) fields.Statistics ≡ codes "1:200 2:-1"
unfolding digits
targets_after = refl
