-- The masks under which rows of relations, of columns and of constraints are read: which modes a change of a masked row takes.
use Rattle.std.proofs.Common.{◌≡◌, ◌≤◌, ◌∙◌, ◌⊎◌, inl, inr, ℕ, Bool, true, false, Option, Some, None, List, [], ◌∷◌, ◌++◌, ◌==◌, ◌||◌, ◌&&◌, refl, sym, ap, subst}
use Rattle.std.specs.List.{AllByRecursion, list_any, list_all, flat_map}
use Rattle.std.specs.Option.{IfSome}
use Rattle.std.specs.Str.{bytes_eq}
use Rattle.std.proofs.lemmas.Bool.{eqb-true, eq-eqb, both_ways, and_parts, and_from, or_cases, or_left, or_right}
use Rattle.base_types.specs.declared.ids.Oid.{Oid}
use Rattle.base_types.specs.declared.ids.Xid.{Xid}
use Rattle.base_types.specs.declared.mode.Mode.{Mode}
use Rattle.base_types.specs.declared.row.Row.{Row}
use Rattle.base_types.specs.declared.row.ConKind.{ConKind}
use Rattle.base_types.specs.declared.row_key.RowKey.{RowKey}
use Rattle.base_types.specs.declared.row_key.RowKey.TheVariants as keys
use Rattle.base_types.specs.declared.row.ConKind.TheVariants as demands
use Rattle.base_types.specs.declared.row.Row.TheVariants as rows
use Rattle.base_types.specs.declared.mode.Mode.TheVariants.{ShareUpdateExclusive, ShareRowExclusive, AccessExclusive}
use Rattle.base_types.specs.declared.scan.Purpose.{Purpose}
use Rattle.base_types.specs.declared.scan.Purpose.TheVariants as scans
use Rattle.base_types.specs.RowKeys.{key_of}
use Rattle.base_types.specs.Scans.{same_oid, selects, row_number}
use Rattle.base_types.specs.Words.{valid_word}
use Rattle.event_kinds.specs.declared.entry.Entry.{Entry}
use Rattle.event_kinds.specs.declared.entry.Event.TheVariants as events
use Rattle.event_kinds.specs.declared.entry.Item.{Item}
use Rattle.event_kinds.specs.declared.entry.Item.TheVariants as forms
use Rattle.inval_messages.specs.declared.message.Message.{Message}
use Rattle.lock_modes.specs.declared.grant.Grant.{Grant}
use Rattle.history_model.specs.Versions.{added_row, old_row}
use Rattle.history_model.specs.Held.{held_of, held_by}
use Rattle.history_model.specs.Covered.{is_covered, same_demand, same_row, counted_for}
use Rattle.history_model.specs.Sent.{messages_written, written_by, lists_of}
use Rattle.history_model.specs.Drawn.{made_by}
use Rattle.history_model.specs.Orderly.{main_rel, scans_told, IsOrderlyWrite}
use Rattle.history_model.specs.Changing.{rows_named, relations_changed, is_validation, update_where, name_allowed, mode_to_add, weaker_mode}
use Rattle.history_model.specs.Writes.{is_guarded}
use Rattle.history_model.proofs.Every.{every-weaker, every-both, any-right}
use Rattle.history_model.proofs.Asking.{bytes_same, oid_eq, scan_in}
use Rattle.history_model.proofs.Touched.{entry_of, covers_at}
use Rattle.history_model.proofs.Guards.{is_changing, is_exclusive, IsHeldIn, held_in-weaker, any_with}
use Rattle.history_model.proofs.EnoughModes.{is_enough, enough_passes, IsNamed, under_row, IsHeldFor}
use Rattle.history_model.proofs.FixedRows.{fixed, is_loose, class_fixed, column_fixed}
use Rattle.history_model.proofs.Ordered.{all_flat, both_rows, if_some, both_some, told_in, guarded_rows, early_at}
use Rattle.history_model.proofs.Reading.{held_of-more as held-more, lists_of-own as lists-own}
use Rattle.history_model.proofs.MaskedScans.{AsksMasked}
use Rattle.history_model.proofs.Markings.{HoldsBy, held_marks, TellsIn, told_marks}
use Rattle.history_model.proofs.MaskedRows.{Masking, KeepsMask, IsFor, Masks}

-- the relation is among those of a row that is changed, and if a weaker mode is enough for the change, it is one of these
abbrev pub IsStrongOn : Oid → (Mode → Bool) → Option Row → Item → Row → Type 0
IsStrongOn rel strong old item row = (list_any (same_oid rel) (relations_changed (is_validation old item) row) ≡ true) × IfSome (weaker_mode old item rel) (λ mode. strong mode ≡ true)

-- where each change of a row that concerns the relation is so, or leaves the masked row, masked rows are changed under the mask's modes alone
pub masks_of : (m : Masking) (rel : Oid) (strong : Mode → Bool) → strong AccessExclusive ≡ true → ((old : Option Row) (item : Item) (row : Row) → IsNamed old item row → m.concerns (m.mask row) → KeepsMask m old item ⊎ IsStrongOn rel strong old item row) → Masks m (held_marks rel strong)
masks_of m rel strong exclusive change history w c xid items k comes =
    every-weaker (λ item. IfSome (added_row item) (For item) × IfSome (old_row history w item) (For item)) (λ item. IfSome (added_row item) (IsFor m (held_marks rel strong) history w c xid items item) × IfSome (old_row history w item) (IsFor m (held_marks rel strong) history w c xid items item))
    (λ item h. (if_some (For item) (IsFor m (held_marks rel strong) history w c xid items item) (on item) (added_row item) h.0, if_some (For item) (IsFor m (held_marks rel strong) history w c xid items item) (on item) (old_row history w item) h.1)) items
    (guarded_rows history w c xid items comes.follows.event.guarded comes.orderly.keeps (early_at history (entry_of w c (events.Write xid items)) k comes.follows.life))
  where
    held : List Grant
    held = held_by w c (events.Write xid items) (held_of history)

    For : Item → Row → Type 0
    For item = IsHeldFor held w c (old_row history w item) item

    on : (item : Item) (row : Row) → For item row → IsFor m (held_marks rel strong) history w c xid items item row
    on item row held_for concerned = of (change old item row held_for.0 concerned)
      where
        old : Option Row
        old = old_row history w item

        of : KeepsMask m old item ⊎ IsStrongOn rel strong old item row → HoldsBy rel strong (history ++ entry_of w c (events.Write xid items) ∷ []) w c ⊎ KeepsMask m old item
        of (inl keeps) = inr keeps
        of (inr is) = inl (subst (λ gs. IsHeldIn strong gs w c rel) (sym (held-more history (entry_of w c (events.Write xid items)))) (any_with (same_oid rel) (λ o. IsHeldIn (is_enough old item o) held w c o) (IsHeldIn strong held w c rel)
            (λ o same here. held_in-weaker (is_enough old item rel) strong (enough_passes strong old item rel exclusive is.1) held w c rel (subst (λ r. IsHeldIn (is_enough old item r) held w c r) (sym (oid_eq rel o same)) here))
            (relations_changed (is_validation old item) row) is.0 held_for.1))

same_self : (rel : Oid) (rels : List Oid) → list_any (same_oid rel) (rel ∷ rels) ≡ true
same_self rel rels = or_left (same_oid rel rel) (list_any (same_oid rel) rels) (eq-eqb rel.0 rel.0 refl)

-- a relation's rows and its columns, but for a fillfactor, an index's name and statistics targets
pub main-fixed : (row : Row) → main_rel (fixed row) ≡ main_rel row
main-fixed (rows.Class oid own kind fill) = refl
main-fixed (rows.Att rel num own col_type stat live) = refl
main-fixed row = refl

abbrev pub fixed_mask : Oid → Masking
fixed_mask rel = record { mask = fixed; concerns = λ row. (main_rel row ≡ rel) × (is_loose row ≡ true); main = main-fixed }

loose_fixed : (row : Row) → is_loose (fixed row) ≡ is_loose row
loose_fixed (rows.Class oid own kind fill) = refl
loose_fixed (rows.Att rel num own col_type stat live) = refl
loose_fixed row = refl

loose_changed : (validated : Bool) (row : Row) → is_loose row ≡ true → list_any (same_oid (main_rel row)) (relations_changed validated row) ≡ true
loose_changed validated (rows.Class oid own kind fill) loose = same_self oid []
loose_changed validated (rows.Att rel num own col_type stat live) loose = same_self rel []
loose_changed validated row loose = absurd (cc)

abbrev KeepsFixed : Option Row → Item → Type 0
KeepsFixed (Some old) (forms.Put row) = fixed old ≡ fixed row
KeepsFixed old item = ⊥

by_test : (K : Type 0) (t : Bool) → (t ≡ true → K) → K ⊎ (update_where t ≡ None)
by_test K true keeps = inl (keeps refl)
by_test K false keeps = inr refl

added_strong : (new : Row) (rel : Oid) → is_loose new ≡ true → mode_to_add new rel ≡ None
added_strong (rows.Class oid own kind fill) rel is = refl
added_strong (rows.Att of num own col_type stat live) rel is = refl
added_strong new rel is = absurd (cc)

-- no weaker mode is enough for a change of such a row that it doesn't leave
fixed_strong : (old : Option Row) (item : Item) (rel : Oid) (row : Row) → IsNamed old item row → is_loose row ≡ true → KeepsFixed old item ⊎ (weaker_mode old item rel ≡ None)
fixed_strong None (forms.Add new) rel row named loose = inr (added_strong new rel (subst (λ r. is_loose r ≡ true) (sym named.0) loose))
fixed_strong (Some old) (forms.Add new) rel row named loose = inr (added_strong new rel (subst (λ r. is_loose r ≡ true) (sym named.0) loose))
fixed_strong None (forms.Put new) rel row named loose = inr refl
fixed_strong (Some old) (forms.Put new) rel row named loose = of old new (either named)
  where
    either : (new ≡ row) ⊎ (Some old ≡ Some row) → (is_loose old ≡ true) ⊎ (is_loose new ≡ true)
    either (inl is) = inr (subst (λ r. is_loose r ≡ true) (sym is) loose)
    either (inr is) = let same : old ≡ row = cc in inl (subst (λ r. is_loose r ≡ true) (sym same) loose)

    none : (false ≡ true) ⊎ (false ≡ true) → ⊥
    none (inl is) = absurd (cc)
    none (inr is) = absurd (cc)

    of : (a b : Row) → (is_loose a ≡ true) ⊎ (is_loose b ≡ true) → (fixed a ≡ fixed b) ⊎ (weaker_mode (Some a) (forms.Put b) rel ≡ None)
    of (rows.Class oid own kind old) (rows.Class to name kind' fill) is = by_test (fixed (rows.Class oid own kind old) ≡ fixed (rows.Class to name kind' fill)) (same_row (rows.Class oid (name_allowed kind own name) kind fill) (rows.Class to name kind' fill))
        (class_fixed oid to own name kind kind' fill fill)
    of (rows.Att rel num own col_type old live) (rows.Att to num' name col_type' stat live') is = by_test (fixed (rows.Att rel num own col_type stat live) ≡ fixed (rows.Att to num' name col_type' stat live')) (same_row (rows.Att rel num own col_type stat live) (rows.Att to num' name col_type' stat live'))
        (column_fixed rel to num num' own name col_type col_type' stat stat live live')
    of (rows.Con oid rel own old what) (rows.Con to of' name valid what') is = absurd (none is)
    of (rows.Trg oid rel own old) (rows.Trg to of' name on) is = absurd (none is)
    of a b is = inr refl
fixed_strong None (forms.Remove key) rel row named loose = absurd (cc)
fixed_strong (Some old) (forms.Remove key) rel row named loose = of old (let same : old ≡ row = cc in subst (λ r. is_loose r ≡ true) (sym same) loose)
  where
    of : (a : Row) → is_loose a ≡ true → ⊥ ⊎ (weaker_mode (Some a) (forms.Remove key) rel ≡ None)
    of (rows.Trg oid rel own old) is = absurd (cc)
    of a is = inr refl
fixed_strong old (forms.Force of) rel row named loose = absurd named

kept_fixed : (rel : Oid) (old : Option Row) (item : Item) → KeepsFixed old item → KeepsMask (fixed_mask rel) old item
kept_fixed rel (Some old) (forms.Put row) keeps = keeps
kept_fixed rel (Some old) item keeps = absurd keeps
kept_fixed rel None item keeps = absurd keeps

-- AccessExclusive on the relation is needed for any other change
pub fixed_masks : (rel : Oid) → Masks (fixed_mask rel) (held_marks rel is_exclusive)
fixed_masks rel = masks_of (fixed_mask rel) rel is_exclusive refl (λ old item row named concerned.
    let loose : is_loose row ≡ true = sym (loose_fixed row) ∙ concerned.1 in
    let own : main_rel row ≡ rel = sym (main-fixed row) ∙ concerned.0 in
    of old item row (subst (λ o. list_any (same_oid o) (relations_changed (is_validation old item) row) ≡ true) own (loose_changed (is_validation old item) row loose)) (fixed_strong old item rel row named loose))
  where
    of : (old : Option Row) (item : Item) (row : Row) → list_any (same_oid rel) (relations_changed (is_validation old item) row) ≡ true → KeepsFixed old item ⊎ (weaker_mode old item rel ≡ None) → KeepsMask (fixed_mask rel) old item ⊎ IsStrongOn rel is_exclusive old item row
    of old item row among (inl keeps) = inl (kept_fixed rel old item keeps)
    of old item row among (inr none) = inr (among, subst (λ o. IfSome o (λ mode. is_exclusive mode ≡ true)) (sym none) tt)

-- a constraint but for whether it is known to hold
abbrev pub unvalidated : Row → Row
unvalidated (rows.Con oid rel name valid what) = rows.Con oid rel name false what
unvalidated row = row

demand_same : (a b : ConKind) → same_demand a b ≡ true → a ≡ b
demand_same (demands.Check text) (demands.Check other) is = ap demands.Check (bytes_same text other is)
demand_same (demands.Foreign num refrel refnum) (demands.Foreign num' refrel' refnum') is =
    let p = and_parts ((num == num') && same_oid refrel refrel') (refnum == refnum') is in
    let q = and_parts (num == num') (same_oid refrel refrel') p.0 in
    ap (λ n. demands.Foreign n refrel refnum) (eqb-true num num' q.0) ∙ ap (λ o. demands.Foreign num' o refnum) (oid_eq refrel refrel' q.1) ∙ ap (demands.Foreign num' refrel') (eqb-true refnum refnum' p.1)
demand_same a b is = absurd (cc)

-- what a validation leaves
validated_same : (a b of to : Oid) (own name : List ℕ) (valid : Bool) (what other : ConKind) → same_row (rows.Con a of own valid what) (rows.Con b to name valid other) ≡ true → (v : Bool) → rows.Con a of own v what ≡ rows.Con b to name v other
validated_same a b of to own name valid what other is v =
    let p = and_parts (same_oid a b && same_oid of to && bytes_eq own name && bytes_eq (valid_word valid) (valid_word valid)) (same_demand what other) is in
    let q = and_parts (same_oid a b && same_oid of to && bytes_eq own name) (bytes_eq (valid_word valid) (valid_word valid)) p.0 in
    let r = and_parts (same_oid a b && same_oid of to) (bytes_eq own name) q.0 in
    let s = and_parts (same_oid a b) (same_oid of to) r.0 in
    ap (λ o. rows.Con o of own v what) (oid_eq a b s.0) ∙ ap (λ o. rows.Con b o own v what) (oid_eq of to s.1) ∙ ap (λ n. rows.Con b to n v what) (bytes_same own name r.1) ∙ ap (rows.Con b to name v) (demand_same what other p.1)

-- the constraints of a relation, and the foreign keys that refer to it
abbrev pub IsConstraintOf : Oid → Row → Type 0
IsConstraintOf rel row = selects (scans.Constraint rel) row ≡ true

pub main-unvalidated : (row : Row) → main_rel (unvalidated row) ≡ main_rel row
main-unvalidated (rows.Con oid rel name valid what) = refl
main-unvalidated row = refl

pub selects_unvalidated : (rel : Oid) (row : Row) → selects (scans.Constraint rel) (unvalidated row) ≡ selects (scans.Constraint rel) row
selects_unvalidated rel (rows.Con oid of name valid what) = refl
selects_unvalidated rel row = refl

pub main-counted : (rel : Oid) (row : Row) → main_rel (counted_for (scans.Constraint rel) row) ≡ main_rel row
main-counted rel (rows.Con oid of name valid (demands.Foreign num refrel refnum)) = refl
main-counted rel (rows.Con oid of name valid (demands.Check text)) = refl
main-counted rel row = refl

pub selects_counted : (rel : Oid) (row : Row) → selects (scans.Constraint rel) (counted_for (scans.Constraint rel) row) ≡ selects (scans.Constraint rel) row
selects_counted rel (rows.Con oid of name valid (demands.Foreign num refrel refnum)) = refl
selects_counted rel (rows.Con oid of name valid (demands.Check text)) = refl
selects_counted rel row = refl

-- as they count for the relation: of a foreign key of another not whether it is known to hold
abbrev pub counted_mask : Oid → Masking
counted_mask rel = record { mask = counted_for (scans.Constraint rel); concerns = IsConstraintOf rel; main = main-counted rel }

-- and of no constraint whether it is known to hold
abbrev pub unvalidated_mask : Oid → Masking
unvalidated_mask rel = record { mask = unvalidated; concerns = IsConstraintOf rel; main = main-unvalidated }

-- a constraint that is changed by more than that it is validated: all relations that it names count
constraint_changed : (rel : Oid) (row : Row) → IsConstraintOf rel row → list_any (same_oid rel) (relations_changed false row) ≡ true
constraint_changed rel (rows.Con oid of name valid (demands.Foreign num refrel refnum)) is = by_side (or_cases (same_oid of rel) (same_oid refrel rel) is)
  where
    back : (o : Oid) → same_oid o rel ≡ true → same_oid rel o ≡ true
    back o same = eq-eqb rel.0 o.0 (sym (eqb-true o.0 rel.0 same))

    by_side : (same_oid of rel ≡ true) ⊎ (same_oid refrel rel ≡ true) → list_any (same_oid rel) (of ∷ refrel ∷ []) ≡ true
    by_side (inl own) = or_left (same_oid rel of) (list_any (same_oid rel) (refrel ∷ [])) (back of own)
    by_side (inr refers) = or_right (same_oid rel of) (list_any (same_oid rel) (refrel ∷ [])) (or_left (same_oid rel refrel) false (back refrel refers))
constraint_changed rel (rows.Con oid of name valid (demands.Check text)) is = by_side (or_cases (same_oid of rel) false is)
  where
    by_side : (same_oid of rel ≡ true) ⊎ (false ≡ true) → list_any (same_oid rel) (of ∷ []) ≡ true
    by_side (inl own) = or_left (same_oid rel of) false (eq-eqb rel.0 of.0 (sym (eqb-true of.0 rel.0 own)))
    by_side (inr none) = absurd (cc)
constraint_changed rel row is = absurd (cc)

-- one row is another or a third is
abbrev IsEither : Row → Row → Row → Type 0
IsEither a b row = (b ≡ row) ⊎ (Some a ≡ Some row)

-- each change of a constraint validates it and leaves all else, for which ShareUpdateExclusive is enough; or it doesn't, and no weaker mode than ShareRowExclusive is
constraint_cases : (rel : Oid) (K : Option Row → Item → Row → Type 0)
    → ((old : Option Row) (item : Item) (row : Row) → is_validation old item ≡ false → IfSome (weaker_mode old item rel) (λ mode. mode ≡ ShareRowExclusive) → IsConstraintOf rel row → K old item row)
    → ((a b row : Row) → is_validation (Some a) (forms.Put b) ≡ true → weaker_mode (Some a) (forms.Put b) rel ≡ Some ShareUpdateExclusive → unvalidated a ≡ unvalidated b → IsEither a b row → IsConstraintOf rel row → K (Some a) (forms.Put b) row)
    → (old : Option Row) (item : Item) (row : Row) → IsNamed old item row → IsConstraintOf rel row → K old item row
constraint_cases rel K plain valid = of
  where
    added : (old : Option Row) (new row : Row) → IsConstraintOf rel new → IsConstraintOf rel row → K old (forms.Add new) row
    added old (rows.Con oid o name v (demands.Foreign num refrel refnum)) row new is = plain old (forms.Add (rows.Con oid o name v (demands.Foreign num refrel refnum))) row refl refl is
    added old (rows.Con oid o name v (demands.Check text)) row new is = plain old (forms.Add (rows.Con oid o name v (demands.Check text))) row refl tt is
    added old new' row new is = absurd (cc)

    by_test : (oid o to t : Oid) (own name : List ℕ) (old v : Bool) (what other : ConKind) (row : Row) (u : Bool) → same_row (rows.Con oid o own v what) (rows.Con to t name v other) ≡ u → IsEither (rows.Con oid o own old what) (rows.Con to t name v other) row → IsConstraintOf rel row
        → K (Some (rows.Con oid o own old what)) (forms.Put (rows.Con to t name v other)) row
    by_test oid o to t own name old v what other row true same either is =
        valid (rows.Con oid o own old what) (rows.Con to t name v other) row same (ap update_where same) (validated_same oid to o t own name v what other same false) either is
    by_test oid o to t own name old v what other row false same either is =
        plain (Some (rows.Con oid o own old what)) (forms.Put (rows.Con to t name v other)) row same (subst (λ m. IfSome m (λ mode. mode ≡ ShareRowExclusive)) (sym (ap update_where same)) tt) is

    asked_of : (a b row : Row) → IsEither a b row → IsConstraintOf rel row → IsConstraintOf rel a ⊎ IsConstraintOf rel b
    asked_of a b row (inl is) asked = inr (subst (IsConstraintOf rel) (sym is) asked)
    asked_of a b row (inr is) asked = let same : a ≡ row = cc in inl (subst (IsConstraintOf rel) (sym same) asked)

    none : (false ≡ true) ⊎ (false ≡ true) → ⊥
    none (inl is) = absurd (cc)
    none (inr is) = absurd (cc)

    put : (a b row : Row) → IsEither a b row → IsConstraintOf rel row → IsConstraintOf rel a ⊎ IsConstraintOf rel b → K (Some a) (forms.Put b) row
    put (rows.Con oid o own old what) (rows.Con to t name v other) row either is asked = by_test oid o to t own name old v what other row (same_row (rows.Con oid o own v what) (rows.Con to t name v other)) refl either is
    put (rows.Class oid own kind old) (rows.Class to name kind' fill) row either is asked = absurd (none asked)
    put (rows.Att o num own col_type old live) (rows.Att to num' name col_type' stat live') row either is asked = absurd (none asked)
    put (rows.Trg oid o own x) (rows.Trg to t name y) row either is asked = absurd (none asked)
    put a b row either is asked = plain (Some a) (forms.Put b) row refl tt is

    taken : (a : Row) (key : RowKey) (row : Row) → a ≡ row → IsConstraintOf rel row → K (Some a) (forms.Remove key) row
    taken (rows.Trg oid o own x) key row same is = absurd (let no : false ≡ true = subst (IsConstraintOf rel) (sym same) is in cc)
    taken a key row same is = plain (Some a) (forms.Remove key) row refl tt is

    of : (old : Option Row) (item : Item) (row : Row) → IsNamed old item row → IsConstraintOf rel row → K old item row
    of old (forms.Add new) row named is = added old new row (subst (IsConstraintOf rel) (sym named.0) is) is
    of None (forms.Put new) row named is = plain None (forms.Put new) row refl tt is
    of (Some old) (forms.Put new) row named is = put old new row named is (asked_of old new row named is)
    of None (forms.Remove key) row named is = absurd (cc)
    of (Some old) (forms.Remove key) row named is = taken old key row (let same : old ≡ row = cc in same) is
    of old (forms.Force o) row named is = absurd named

-- constraints are changed under the strong modes alone, ShareRowExclusive among them, if a validation leaves the masked row or takes one of them on a relation that then counts
constraint_masks : (m : Masking) (rel : Oid) (strong : Mode → Bool) → strong AccessExclusive ≡ true → strong ShareRowExclusive ≡ true → ((row : Row) → m.concerns (m.mask row) → IsConstraintOf rel row)
    → ((a b row : Row) → unvalidated a ≡ unvalidated b → IsEither a b row → IsConstraintOf rel row → (m.mask a ≡ m.mask b) ⊎ ((list_any (same_oid rel) (relations_changed true row) ≡ true) × (strong ShareUpdateExclusive ≡ true))) → Masks m (held_marks rel strong)
constraint_masks m rel strong exclusive shared asks validating = masks_of m rel strong exclusive (λ old item row named concerned. constraint_cases rel (λ o i r. KeepsMask m o i ⊎ IsStrongOn rel strong o i r) plain valid old item row named (asks row concerned))
  where
    plain : (old : Option Row) (item : Item) (row : Row) → is_validation old item ≡ false → IfSome (weaker_mode old item rel) (λ mode. mode ≡ ShareRowExclusive) → IsConstraintOf rel row → KeepsMask m old item ⊎ IsStrongOn rel strong old item row
    plain old item row not' weak is = inr (
      subst (λ v. list_any (same_oid rel) (relations_changed v row) ≡ true) (sym not') (constraint_changed rel row is),
      if_some (λ mode. mode ≡ ShareRowExclusive) (λ mode. strong mode ≡ true) (λ mode same. subst (λ x. strong x ≡ true) (sym same) shared) (weaker_mode old item rel) weak,
    )

    valid : (a b row : Row) → is_validation (Some a) (forms.Put b) ≡ true → weaker_mode (Some a) (forms.Put b) rel ≡ Some ShareUpdateExclusive → unvalidated a ≡ unvalidated b → IsEither a b row → IsConstraintOf rel row → (m.mask a ≡ m.mask b) ⊎ IsStrongOn rel strong (Some a) (forms.Put b) row
    valid a b row validates' weak same either is = of (validating a b row same either is)
      where
        of : (m.mask a ≡ m.mask b) ⊎ ((list_any (same_oid rel) (relations_changed true row) ≡ true) × (strong ShareUpdateExclusive ≡ true)) → (m.mask a ≡ m.mask b) ⊎ IsStrongOn rel strong (Some a) (forms.Put b) row
        of (inl keeps) = inl keeps
        of (inr strong') = inr (subst (λ v. list_any (same_oid rel) (relations_changed v row) ≡ true) (sym validates') strong'.0, subst (λ o. IfSome o (λ mode. strong mode ≡ true)) (sym weak) strong'.1)

-- under ShareUpdateExclusive nothing of a constraint changes but whether it is known to hold
pub unvalidated_masks : (rel : Oid) → Masks (unvalidated_mask rel) (held_marks rel under_row)
unvalidated_masks rel = constraint_masks (unvalidated_mask rel) rel under_row refl refl (λ row concerned. sym (selects_unvalidated rel row) ∙ concerned) (λ a b row same either is. inl same)

own_changed : (rel : Oid) (row : Row) → IsConstraintOf rel row → list_any (same_oid (main_rel row)) (relations_changed true row) ≡ true
own_changed rel (rows.Con oid of name valid (demands.Foreign num refrel refnum)) is = same_self of []
own_changed rel (rows.Con oid of name valid (demands.Check text)) is = same_self of []
own_changed rel row is = absurd (cc)

-- a foreign key of another relation counts as one that isn't known to hold
counted_other : (rel : Oid) (row : Row) → IsConstraintOf rel row → same_oid (main_rel row) rel ≡ false → counted_for (scans.Constraint rel) row ≡ unvalidated row
counted_other rel (rows.Con oid of name valid (demands.Foreign num refrel refnum)) is other = ap (λ v. rows.Con oid of name v (demands.Foreign num refrel refnum)) (ap (λ t. valid && t) other ∙ none valid)
  where
    none : (t : Bool) → (t && false) ≡ false
    none true = refl
    none false = refl
counted_other rel (rows.Con oid of name valid (demands.Check text)) is other = absurd (both_ways _ (ap (λ t. t || false) other) is)
counted_other rel row is other = absurd (cc)

-- two rows that differ by a validation alone: they count alike for the relation, or it is their own
validated_alike : (rel : Oid) (a b row : Row) → unvalidated a ≡ unvalidated b → IsEither a b row → IsConstraintOf rel row → (counted_for (scans.Constraint rel) a ≡ counted_for (scans.Constraint rel) b) ⊎ (same_oid (main_rel row) rel ≡ true)
validated_alike rel a b row same either is = by_own (same_oid (main_rel row) rel) refl
  where
    one_of : (a b : Row) → unvalidated a ≡ unvalidated b → IsEither a b row → (unvalidated a ≡ unvalidated row) × (unvalidated b ≡ unvalidated row)
    one_of a b same' (inl one) = (same' ∙ ap unvalidated one, ap unvalidated one)
    one_of a b same' (inr one) = let first : a ≡ row = cc in (ap unvalidated first, sym same' ∙ ap unvalidated first)

    counted : (x : Row) → unvalidated x ≡ unvalidated row → same_oid (main_rel row) rel ≡ false → counted_for (scans.Constraint rel) x ≡ unvalidated x
    counted x one other = counted_other rel x (sym (selects_unvalidated rel x) ∙ ap (selects (scans.Constraint rel)) one ∙ selects_unvalidated rel row ∙ is)
        (ap (λ o. same_oid o rel) (sym (main-unvalidated x) ∙ ap main_rel one ∙ main-unvalidated row) ∙ other)

    by_own : (t : Bool) → same_oid (main_rel row) rel ≡ t → (counted_for (scans.Constraint rel) a ≡ counted_for (scans.Constraint rel) b) ⊎ (same_oid (main_rel row) rel ≡ true)
    by_own true own = inr own
    by_own false other = let both = one_of a b same either in inl (counted a both.0 other ∙ same ∙ sym (counted b both.1 other))

-- a validation takes no lock of the relation that a foreign key refers to: there the key counts as before
pub counted_masks : (rel : Oid) → Masks (counted_mask rel) (held_marks rel is_changing)
counted_masks rel = constraint_masks (counted_mask rel) rel is_changing refl refl (λ row concerned. sym (selects_counted rel row) ∙ concerned) (λ a b row same either is. of a b row is (validated_alike rel a b row same either is))
  where
    of : (a b row : Row) → IsConstraintOf rel row → (counted_for (scans.Constraint rel) a ≡ counted_for (scans.Constraint rel) b) ⊎ (same_oid (main_rel row) rel ≡ true)
        → (counted_for (scans.Constraint rel) a ≡ counted_for (scans.Constraint rel) b) ⊎ ((list_any (same_oid rel) (relations_changed true row) ≡ true) × (is_changing ShareUpdateExclusive ≡ true))
    of a b row is (inl keeps) = inl keeps
    of a b row is (inr own) = inr (subst (λ o. list_any (same_oid o) (relations_changed true row) ≡ true) (oid_eq (main_rel row) rel own) (own_changed rel row is), refl)

-- nor does it send a message for that relation: where the messages of a write cover what they must, they cover a relation's constraints, or each change leaves these as they count for it
abbrev pub ToldOf : Oid → List Entry → ℕ → List Item → Item → Row → Type 0
ToldOf rel history w items item row = IsConstraintOf rel (counted_for (scans.Constraint rel) row) → (is_covered (messages_written history w items) (scans.Constraint rel) ≡ true) ⊎ KeepsMask (counted_mask rel) (old_row history w item) item

pub told_changes : (rel : Oid) (history : List Entry) (w c : ℕ) (xid : Xid) (items : List Item) → list_all (is_guarded history w (flat_map made_by items)) items ≡ true → IsOrderlyWrite history w items → AllByRecursion (λ g. g.backend ≡ w → g.command ≤ c) (held_of history)
    → AllByRecursion (λ item. IfSome (added_row item) (ToldOf rel history w items item) × IfSome (old_row history w item) (ToldOf rel history w items item)) items
told_changes rel history w c xid items guarded orderly early =
    every-weaker (λ item. (IfSome (added_row item) (For item) × IfSome (old_row history w item) (For item)) × (list_all covered (flat_map (told item) (rows_named item (old_row history w item))) ≡ true))
    (λ item. IfSome (added_row item) (ToldOf rel history w items item) × IfSome (old_row history w item) (ToldOf rel history w items item)) of items
    (every-both (λ item. IfSome (added_row item) (For item) × IfSome (old_row history w item) (For item)) (λ item. list_all covered (flat_map (told item) (rows_named item (old_row history w item))) ≡ true) items
    (guarded_rows history w c xid items guarded orderly.keeps early)
    (all_flat covered (λ item. flat_map (told item) (rows_named item (old_row history w item))) items orderly.told))
  where
    d : Purpose
    d = scans.Constraint rel

    messages : List Message
    messages = messages_written history w items

    covered : Purpose → Bool
    covered = is_covered messages

    told : Item → Row → List Purpose
    told item = scans_told (is_validation (old_row history w item) item)

    For : Item → Row → Type 0
    For item = IsHeldFor (held_by w c (events.Write xid items) (held_of history)) w c (old_row history w item) item

    Told : Option Row → Item → Row → Type 0
    Told old item row = list_all covered (scans_told (is_validation old item) row) ≡ true → (covered d ≡ true) ⊎ KeepsMask (counted_mask rel) old item

    all_told : (row : Row) → IsConstraintOf rel row → list_all covered (scans_told false row) ≡ true → covered d ≡ true
    all_told (rows.Con oid of' name v (demands.Foreign num refrel refnum)) is all = scan_in covered d (rows.Con oid of' name v (demands.Foreign num refrel refnum)) is all
    all_told (rows.Con oid of' name v (demands.Check text)) is all = scan_in covered d (rows.Con oid of' name v (demands.Check text)) is all
    all_told row is all = absurd (cc)

    own_told : (row : Row) → IsConstraintOf rel row → same_oid (main_rel row) rel ≡ true → list_all covered (scans_told true row) ≡ true → covered d ≡ true
    own_told (rows.Con oid of' name v what) is own all = told_in covered true (rows.Con oid of' name v what) all d own
    own_told row is own all = absurd (cc)

    case : (old : Option Row) (item : Item) (row : Row) → IsNamed old item row → IsConstraintOf rel row → Told old item row
    case = constraint_cases rel Told (λ old item row not' weak is all. inl (all_told row is (subst (λ v. list_all covered (scans_told v row) ≡ true) not' all)))
        (λ a b row validates' weak same either is all. by_own a b row is (subst (λ v. list_all covered (scans_told v row) ≡ true) validates' all) (validated_alike rel a b row same either is))
      where
        by_own : (a b row : Row) → IsConstraintOf rel row → list_all covered (scans_told true row) ≡ true → (counted_for (scans.Constraint rel) a ≡ counted_for (scans.Constraint rel) b) ⊎ (same_oid (main_rel row) rel ≡ true)
            → (covered d ≡ true) ⊎ (counted_for (scans.Constraint rel) a ≡ counted_for (scans.Constraint rel) b)
        by_own a b row is all (inl keeps) = inr keeps
        by_own a b row is all (inr own) = inl (own_told row is own all)

    of : (item : Item) → (IfSome (added_row item) (For item) × IfSome (old_row history w item) (For item)) × (list_all covered (flat_map (told item) (rows_named item (old_row history w item))) ≡ true)
        → IfSome (added_row item) (ToldOf rel history w items item) × IfSome (old_row history w item) (ToldOf rel history w items item)
    of item h =
        let both = both_rows covered (told item) (old_row history w item) (added_row item) h.1 in
        (both_some (For item) All (ToldOf rel history w items item) on (added_row item) h.0.0 both.0, both_some (For item) All (ToldOf rel history w items item) on (old_row history w item) h.0.1 both.1)
      where
        All : Row → Type 0
        All row = list_all covered (told item row) ≡ true

        on : (row : Row) → For item row → All row → ToldOf rel history w items item row
        on row held_for all concerned = case (old_row history w item) item row held_for.0 (sym (selects_counted rel row) ∙ concerned) all

pub told_masks : (rel : Oid) → Masks (counted_mask rel) (told_marks (scans.Constraint rel))
told_masks rel history w c xid items k comes =
    every-weaker (λ item. IfSome (added_row item) (ToldOf rel history w items item) × IfSome (old_row history w item) (ToldOf rel history w items item)) (λ item. IfSome (added_row item) (For item) × IfSome (old_row history w item) (For item))
    (λ item h. (if_some (ToldOf rel history w items item) (For item) (on item) (added_row item) h.0, if_some (ToldOf rel history w items item) (For item) (on item) (old_row history w item) h.1)) items (told_changes rel history w c xid items comes.follows.event.guarded comes.orderly (early_at history (entry_of w c (events.Write xid items)) k comes.follows.life))
  where
    d : Purpose
    d = scans.Constraint rel

    For : Item → Row → Type 0
    For item = IsFor (counted_mask rel) (told_marks d) history w c xid items item

    tells : is_covered (messages_written history w items) d ≡ true → TellsIn d (history ++ entry_of w c (events.Write xid items) ∷ []) w c
    tells is = subst (λ ls. list_any (covers_at c d) ls ≡ true) (sym (lists-own history (entry_of w c (events.Write xid items)) w (eq-eqb w w refl)))
        (any-right (covers_at c d) (lists_of history w) (written_by history w c items ∷ []) (or_left (covers_at c d (written_by history w c items)) false (and_from (c == c) (is_covered (messages_written history w items) d) (eq-eqb c c refl) is)))

    on : (item : Item) (row : Row) → ToldOf rel history w items item row → For item row
    on item row told concerned = turn (told concerned)
      where
        turn : (is_covered (messages_written history w items) d ≡ true) ⊎ KeepsMask (counted_mask rel) (old_row history w item) item → TellsIn d (history ++ entry_of w c (events.Write xid items) ∷ []) w c ⊎ KeepsMask (counted_mask rel) (old_row history w item) item
        turn (inl is) = inl (tells is)
        turn (inr keeps) = inr keeps

constraint_keyed : (rel : Oid) (row other : Row) → selects (scans.Constraint rel) row ≡ true → selects (scans.Constraint rel) other ≡ true → row_number row ≡ row_number other → key_of row ≡ key_of other
constraint_keyed rel (rows.Con oid of own valid what) (rows.Con oid' of' own' valid' what') is also same = ap keys.Con (ap {B = Oid} (λ n. record { 0 = n }) same)
constraint_keyed rel (rows.Con oid of own valid what) other is also same = absurd (cc)
constraint_keyed rel row other is also same = absurd (cc)

number_unvalidated : (row : Row) → row_number (unvalidated row) ≡ row_number row
number_unvalidated (rows.Con oid of own valid what) = refl
number_unvalidated row = refl

number_counted : (rel : Oid) (row : Row) → row_number (counted_for (scans.Constraint rel) row) ≡ row_number row
number_counted rel (rows.Con oid of own valid (demands.Foreign num refrel refnum)) = refl
number_counted rel (rows.Con oid of own valid (demands.Check text)) = refl
number_counted rel row = refl

-- the constraints of a relation, as they count for it, and but for whether they are known to hold
pub counted_apart : (rel : Oid) → AsksMasked (counted_mask rel) (scans.Constraint rel)
counted_apart rel = record {
  concerns = λ row is. selects_counted rel row ∙ is;
  fixes = selects_counted rel;
  numbers = number_counted rel;
  keyed = constraint_keyed rel;
  by_number = λ found. inl (λ row other. refl);
}

pub unvalidated_apart : (rel : Oid) → AsksMasked (unvalidated_mask rel) (scans.Constraint rel)
unvalidated_apart rel = record {
  concerns = λ row is. selects_unvalidated rel row ∙ is;
  fixes = selects_unvalidated rel;
  numbers = number_unvalidated;
  keyed = constraint_keyed rel;
  by_number = λ found. inl (λ row other. refl);
}
