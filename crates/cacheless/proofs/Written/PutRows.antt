-- A row that a command replaces in its place may be so: a constraint that is validated, a trigger that is switched.
use Rattle.std.proofs.Common.{◌≡◌, inl, ℕ, Bool, true, false, Some, None, List, [], ◌∷◌, ◌||◌, refl, sym, subst, map}
use Rattle.std.specs.Prelude.{⊤}
use Rattle.std.specs.List.{AllByRecursion, list_any, list_all}
use Rattle.std.proofs.lemmas.Bool.{or_left, or_from}
use Rattle.base_types.specs.RowKeys.{key_of, same_key, are_distinct_keys}
use Rattle.base_types.specs.declared.mode.Mode.TheVariants.{ShareUpdateExclusive, ShareRowExclusive}
use Rattle.base_types.specs.declared.row.ConKind.{ConKind}
use Rattle.base_types.specs.declared.row.ConKind.TheVariants as demands
use Rattle.base_types.specs.declared.row.Row.TheVariants as rows
use Rattle.base_types.specs.declared.scan.Purpose.TheVariants as scans
use Rattle.event_kinds.specs.declared.entry.Item.TheVariants as forms
use Rattle.inval_messages.specs.declared.message.Message.{Message}
use Rattle.lock_modes.specs.Grants.{holds}
use Rattle.history_model.specs.Covered.{is_covered}
use Rattle.history_model.specs.Held.{held_of}
use Rattle.history_model.specs.Orderly.{scans_told}
use Rattle.history_model.specs.Sound.{IsSound}
use Rattle.history_model.specs.Sent.{messages_written}
use Rattle.history_model.specs.Versions.{rows_of}
use Rattle.history_model.specs.Changing.{relations_changed, validates}
use Rattle.history_model.proofs.Covering.{same_itself}
use Rattle.history_model.proofs.DistinctKeys.{distinct_both}
use Rattle.history_model.proofs.Every.{every-weaker, every-map}
use Rattle.history_model.proofs.InOrder.{IsIn}
use Rattle.cacheless.specs.Types.{Oid, AccessExclusive, Row, Entry, Item, Opening}
use Rattle.cacheless.specs.TableWrites.{takes_whole, is_next_column, IsCalledApart, CallsApart, goes_together}
use Rattle.cacheless.proofs.Written.FitToWrite.{Fits, IsGuardedOn, replaced_fits, taking, all_pass, weak_of}
use Rattle.cacheless.proofs.Written.LeavingItems.{IsNoColumn, called_apart, IsNoRelation, leave_unnamed}
use Rattle.cacheless.proofs.Written.NamesGiven.{AreNamesGiven, names_none}
use Rattle.cacheless.proofs.Written.NewRows.{HasOwnOid, own_whole, own_together}
use Rattle.cacheless.proofs.Written.SeenRows.{seen_is_old}
use Rattle.cacheless.proofs.Written.WrittenParts.{items_in, every_part, MayGo, parts_fit, parts_called, MayAlter, parts_alter, parts_some, forced_told, one_covered, same_told}

-- the row is no index's
abbrev pub IsNoIndex : Row → Type 0
IsNoIndex (rows.Ind index table state nums) = ⊥
IsNoIndex row = ⊤

put_together : (before : List Entry) (b : ℕ) (items : List Item) (row : Row) → IsNoIndex row → goes_together before b items (forms.Put row) ≡ true
put_together before b items (rows.Ind index table state nums) none = absurd none
put_together before b items row none = refl

-- a row may be replaced, where defaults and the like go
pub put_alters : (before : List Entry) (b : ℕ) (opened : List Opening) (gone : List Row) (new : Row) (forced : List Oid) → IsSound before → AllByRecursion HasOwnOid gone → are_distinct_keys (map key_of gone) ≡ true → AllByRecursion (λ row. same_key (key_of row) (key_of new) ≡ false) gone
    → AllByRecursion (MayGo before b (messages_written before b (items_in gone (forms.Put new ∷ []) forced))) gone → Fits before b [] (messages_written before b (items_in gone (forms.Put new ∷ []) forced)) (forms.Put new) → IsNoIndex new → IsCalledApart before b new
    → AreNamesGiven before b opened (forms.Put new ∷ []) → MayAlter before b opened 0 None (items_in gone (forms.Put new ∷ []) forced)
put_alters before b opened gone new forced sound own distinct differ may fits none called named = parts_alter before b opened 0 None gone changed forced
    (parts_fit before b 0 gone changed forced sound refl
    (distinct_both (map key_of gone) (key_of new ∷ []) distinct refl (every-map (λ key. list_any (same_key key) (key_of new ∷ []) ≡ false) key_of gone
    (every-weaker (λ row. same_key (key_of row) (key_of new) ≡ false) (λ row. list_any (same_key (key_of row)) (key_of new ∷ []) ≡ false) (λ row is. or_from (same_key (key_of row) (key_of new)) false is refl) gone differ))) may (fits, tt))
    (record {
      whole = all_pass (takes_whole items) items (every_part (λ item. takes_whole items item ≡ true) gone changed forced (every-weaker HasOwnOid (λ row. takes_whole items (taking row) ≡ true) (own_whole items) gone own) (refl, tt) (λ rel. refl));
      columns = all_pass (is_next_column before b items) items (every_part (λ item. is_next_column before b items item ≡ true) gone changed forced (every-weaker HasOwnOid (λ row. is_next_column before b items (taking row) ≡ true) (λ row is. refl) gone own) (refl, tt) (λ rel. refl));
      called = every_part (CallsApart before b) gone changed forced (every-weaker HasOwnOid (λ row. CallsApart before b (taking row)) (λ row is. tt) gone own) (called, tt) (λ rel. tt);
      apart = parts_called gone changed forced (tt, tt);
    })
    (record { together = all_pass (goes_together before b items) items (every_part (λ item. goes_together before b items item ≡ true) gone changed forced (every-weaker HasOwnOid (λ row. goes_together before b items (taking row) ≡ true) (own_together before b items) gone own) (put_together before b items new none, tt) (λ rel. refl)) })
    (tt, tt) named (λ c. refl) (parts_some gone (forms.Put new) [] forced)
  where
    changed : List Item
    changed = forms.Put new ∷ []

    items : List Item
    items = items_in gone changed forced

-- one that is no relation's and no column's, of which its relation is told
alone_alters : (before : List Entry) (b : ℕ) (opened : List Opening) (rel : Oid) (new : Row) → IsSound before → Fits before b [] (messages_written before b (items_in [] (forms.Put new ∷ []) (rel ∷ []))) (forms.Put new) → IsNoIndex new → IsNoColumn new → IsNoRelation new → MayAlter before b opened 0 None (items_in [] (forms.Put new ∷ []) (rel ∷ []))
alone_alters before b opened rel new sound fits index column relation = put_alters before b opened [] new (rel ∷ []) sound tt refl tt tt fits index (called_apart before b new column) (names_none before b opened (forms.Put new ∷ []) (leave_unnamed before b (forms.Put new ∷ []) (relation, tt)))

-- a constraint that is validated counts for its own relation alone
valid_names : (t : Bool) (oid rel : Oid) (name : List ℕ) (valid : Bool) (what : ConKind) → t ≡ true → relations_changed t (rows.Con oid rel name valid what) ≡ rel ∷ []
valid_names true oid rel name valid (demands.Check text) is = refl
valid_names true oid rel name valid (demands.Foreign num refrel refnum) is = refl
valid_names false oid rel name valid what is = absurd (cc)

valid_tells : (t : Bool) (oid rel : Oid) (name : List ℕ) (valid : Bool) (what : ConKind) → t ≡ true → scans_told t (rows.Con oid rel name valid what) ≡ scans.Constraint rel ∷ []
valid_tells true oid rel name valid (demands.Check text) is = refl
valid_tells true oid rel name valid (demands.Foreign num refrel refnum) is = refl
valid_tells false oid rel name valid what is = absurd (cc)

-- `validate constraint`
pub valid_alters : (before : List Entry) (b : ℕ) (opened : List Opening) (oid rel : Oid) (name : List ℕ) (what : ConKind) → IsSound before → holds (held_of before) b rel ShareUpdateExclusive ≡ true → IsIn (rows.Con oid rel name false what) (rows_of before b)
    → MayAlter before b opened 0 None (items_in [] (forms.Put (rows.Con oid rel name true what) ∷ []) (rel ∷ []))
valid_alters before b opened oid rel name what sound has seen = alone_alters before b opened rel new sound (replaced_fits before b messages old new (record {
  was = seen_is_old before b (forms.Put new) old sound refl seen;
  kind = refl;
  main = refl;
  guarded = (on false, (on true, tt));
  told = (told false, (told true, tt));
})) tt tt tt
  where
    old : Row
    old = rows.Con oid rel name false what

    new : Row
    new = rows.Con oid rel name true what

    messages : List Message
    messages = messages_written before b (items_in [] (forms.Put new ∷ []) (rel ∷ []))

    alike : validates (Some old) new ≡ true
    alike = same_itself new

    on : (valid : Bool) → AllByRecursion (IsGuardedOn before b [] (Some old) (forms.Put new)) (relations_changed (validates (Some old) new) (rows.Con oid rel name valid what))
    on valid = subst (AllByRecursion (IsGuardedOn before b [] (Some old) (forms.Put new))) (sym (valid_names (validates (Some old) new) oid rel name valid what alike)) (weak_of (holds (held_of before) b rel) (validates (Some old) new) alike has, tt)

    told : (valid : Bool) → list_all (is_covered messages) (scans_told (validates (Some old) new) (rows.Con oid rel name valid what)) ≡ true
    told valid = subst (λ given. list_all (is_covered messages) given ≡ true) (sym (valid_tells (validates (Some old) new) oid rel name valid what alike))
        (one_covered messages (scans.Constraint rel) (forced_told before b [] (forms.Put new ∷ []) (rel ∷ []) rel (inl refl) (scans.Constraint rel) (same_told rel)))

-- `enable trigger` and `disable trigger`
pub switch_alters : (before : List Entry) (b : ℕ) (opened : List Opening) (oid rel : Oid) (name : List ℕ) (was on : Bool) → IsSound before → holds (held_of before) b rel ShareRowExclusive ≡ true → IsIn (rows.Trg oid rel name was) (rows_of before b)
    → MayAlter before b opened 0 None (items_in [] (forms.Put (rows.Trg oid rel name on) ∷ []) (rel ∷ []))
switch_alters before b opened oid rel name was on sound has seen = alone_alters before b opened rel new sound (replaced_fits before b messages old new (record {
  was = seen_is_old before b (forms.Put new) old sound refl seen;
  kind = refl;
  main = refl;
  guarded = ((guarded, tt), ((guarded, tt), tt));
  told = (told, (told, tt));
})) tt tt tt
  where
    old : Row
    old = rows.Trg oid rel name was

    new : Row
    new = rows.Trg oid rel name on

    messages : List Message
    messages = messages_written before b (items_in [] (forms.Put new ∷ []) (rel ∷ []))

    guarded : IsGuardedOn before b [] (Some old) (forms.Put new) rel
    guarded = or_left (holds (held_of before) b rel ShareRowExclusive) (holds (held_of before) b rel AccessExclusive || false) has

    told : list_all (is_covered messages) (scans.Trigger rel ∷ []) ≡ true
    told = one_covered messages (scans.Trigger rel) (forced_told before b [] (forms.Put new ∷ []) (rel ∷ []) rel (inl refl) (scans.Trigger rel) (same_told rel))
