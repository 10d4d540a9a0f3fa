-- What a command writes of a relation's own row or of its columns may be written, and keeps columns in order and names apart.
use Rattle.std.proofs.Common.{◌≡◌, ◌∙◌, ◌+◌, ◌⊎◌, inl, inr, ℕ, ℤ, negsuc, Bool, true, false, Option, Some, None, List, [], ◌∷◌, ◌++◌, ◌||◌, ◌&&◌, refl, ap, subst, length, not, nat_le, nat_lt, int_lt, pos, arith}
use Rattle.std.specs.Int.{int_min}
use Rattle.std.specs.List.{AllByRecursion, find, list_any}
use Rattle.std.specs.Option.{option_to_list}
use Rattle.std.proofs.lemmas.Bool.{or_left}
use Rattle.base_types.specs.Names.{IsName}
use Rattle.base_types.specs.RowKeys.{key_of, same_key}
use Rattle.base_types.specs.declared.change.Change.TheVariants.{Insert, Replace}
use Rattle.base_types.specs.declared.col_type.ColType.{ColType}
use Rattle.base_types.specs.declared.dropped.TheConstants.{MOST_COLUMNS}
use Rattle.base_types.specs.declared.kind.Kind.TheVariants.{Table, Index}
use Rattle.base_types.specs.declared.mode.Mode.TheVariants.{ShareUpdateExclusive}
use Rattle.base_types.specs.declared.row.Row.TheVariants as rows
use Rattle.base_types.specs.declared.row_key.RowKey.TheVariants as keys
use Rattle.base_types.specs.declared.scan.Purpose.TheVariants as scans
use Rattle.command_answers.specs.declared.error.CommandError.TheVariants as errors
use Rattle.event_kinds.specs.declared.entry.Item.TheVariants as forms
use Rattle.ddl_effect.specs.Plans.{Plan}
use Rattle.ddl_effect.specs.Parts.{reading, changing, column_number, deleting, with_column}
use Rattle.ddl_effect.specs.Columns.{adding, add_column, as_dropped, is_default_of, dropping, uses_column, drop_unindexed, drop_unreferred, drop_found, drop_column, with_name, renaming, rename_column, most_stat, with_stat, targeting, set_statistics}
use Rattle.ddl_effect.specs.Tables.{filling, set_fillfactor, renaming_table, rename_table}
use Rattle.inval_messages.specs.declared.message.Message.{Message}
use Rattle.inval_messages.specs.Changes.{rel_for}
use Rattle.lock_modes.specs.Grants.{holds}
use Rattle.history_model.specs.Drawn.{next_oid}
use Rattle.history_model.specs.Held.{held_of}
use Rattle.history_model.specs.Sound.{IsSound}
use Rattle.history_model.specs.Prefixes.{EachEntry}
use Rattle.history_model.specs.Sent.{cats_by, rels_by, messages_written}
use Rattle.history_model.specs.Versions.{old_row}
use Rattle.history_model.specs.Writes.{has_row}
use Rattle.history_model.specs.Changing.{modes_enough}
use Rattle.history_model.proofs.Every.{every-weaker}
use Rattle.history_model.proofs.GivenRows.{given_seen}
use Rattle.history_model.proofs.Locked.{changing_modes, held_bars_all, seen_alone}
use Rattle.cacheless.specs.Facts.{Facts}
use Rattle.cacheless.specs.Types.{Oid, Mode, AccessExclusive, Kind, Row, Item}
use Rattle.cacheless.specs.TableWrites.{gives_key, IsCalledApart, WritesColumns}
use Rattle.cacheless.proofs.NumberedColumns.{AreNumbered}
use Rattle.cacheless.proofs.WholeColumns.{whole_columns}
use Rattle.cacheless.proofs.Written.ComesTo.{Writer, now_of, Holds, Sees, IsReadAsNow, ComesTo, wrote, passed, read_then, Altered, column_is_there, column_is_free}
use Rattle.cacheless.proofs.Written.DraftFits.{Fits, deletes, parts_fit_draft, undrawn_row, put_items, none_made}
use Rattle.cacheless.proofs.Written.FitToWrite.{IsOf, strong_enough, weak_enough_fill, weak_enough_name, weak_enough_stat, put_fits, column_fits, tells_one}
use Rattle.cacheless.proofs.Written.LeavingItems.{IsNoRelation, called_apart, leave_unnamed}
use Rattle.cacheless.proofs.Written.NamesGiven.{AreNamesGiven, names_none, renamed_given}
use Rattle.cacheless.proofs.Written.NewNames.{kept_called, free_called, dropped_called}
use Rattle.cacheless.proofs.Written.NewRows.{HasOwnOid, default_may_go}
use Rattle.cacheless.proofs.Written.NewTableItems.{next_number}
use Rattle.cacheless.proofs.Written.PutRows.{IsNoIndex, put_alters}
use Rattle.cacheless.proofs.Written.SeenRows.{IsGiven, found_given, seen_is_old, ColumnSeen, column_seen}
use Rattle.cacheless.proofs.Written.WrittenMessages.{Tell}
use Rattle.cacheless.proofs.Written.WrittenParts.{items_in, MayGo, parts_alter, parts_fit, IsTold, rel_told, tells_in, changed_in, one_key}

-- the row of a relation, or of a column of it, is replaced by one that stays so, under a mode that is enough
record PutsRow (w : Writer) (rel : Oid) (kind : Kind) (old new : Row) : Type 0 where
  was : old_row w.history w.backend (forms.Put new) ≡ Some old
  of : IsOf rel kind old
  stays : IsOf rel kind new
  called : IsCalledApart w.history w.backend new
  enough : list_any (holds (held_of w.history) w.backend rel) (modes_enough (Some old) (forms.Put new) rel) ≡ true

-- the row of a relation, or of a column of it, has the key of no default
no_default : (rel : Oid) (kind : Kind) (row new : Row) → HasOwnOid row → IsOf rel kind new → same_key (key_of row) (key_of new) ≡ false
no_default rel kind (rows.Def oid of num word) (rows.Class own name kind' fill) has is = refl
no_default rel kind (rows.Def oid of num word) (rows.Att own num' name col_type stat live) has is = refl
no_default rel kind (rows.Con oid of own valid what) (rows.Class own' name kind' fill) has is = refl
no_default rel kind (rows.Con oid of own valid what) (rows.Att own' num' name col_type stat live) has is = refl
no_default rel kind (rows.Trg oid of own on) (rows.Class own' name kind' fill) has is = refl
no_default rel kind (rows.Trg oid of own on) (rows.Att own' num' name col_type stat live) has is = refl
no_default rel kind row (rows.Def oid of num word) has is = absurd is
no_default rel kind row (rows.Ind index table state nums) has is = absurd is
no_default rel kind row (rows.Con oid of own valid what) has is = absurd is
no_default rel kind row (rows.Trg oid of own on) has is = absurd is
no_default rel kind row new has is = absurd has

no_index : (rel : Oid) (kind : Kind) (row : Row) → IsOf rel kind row → IsNoIndex row
no_index rel kind (rows.Ind index table state nums) is = is
no_index rel kind row is = tt

-- a default goes with it, if there is one
put_row : (w : Writer) (c : ℕ) (facts : Facts) (rel : Oid) (kind : Kind) (gone : Option Row) (old new : Row) → IsSound w.history → w.draft ≡ record { changes = deleting gone ++ Replace new ∷ []; forced = []; new_oids = 0 } → PutsRow w rel kind old new
    → AllByRecursion (λ row. IsGiven w.history w.backend (scans.AttrDef rel) row × Holds w rel AccessExclusive) (option_to_list gone) → AreNamesGiven w.history w.backend w.opened (forms.Put new ∷ []) → Fits w c facts
put_row w c facts rel kind gone old new sound is puts given named = parts_fit_draft w c facts 0 (option_to_list gone) (Replace new ∷ []) [] (forms.Put new ∷ []) None
    (is ∙ ap (λ l. record { changes = l ++ Replace new ∷ []; forced = []; new_oids = 0 }) (deletes gone)) (put_items (next_oid w.history) new) (λ o first. none_made (option_to_list gone) new o)
    (put_alters w.history w.backend w.opened (option_to_list gone) new [] sound (every-weaker MayGoToo HasOwnOid (λ row both. both.0) (option_to_list gone) may) (one_key gone)
    (every-weaker MayGoToo (λ row. same_key (key_of row) (key_of new) ≡ false) (λ row both. no_default rel kind row new both.0 puts.stays) (option_to_list gone) may)
    (every-weaker MayGoToo (MayGo w.history w.backend messages) (λ row both. both.1) (option_to_list gone) may)
    (put_fits w.history w.backend rel kind messages old new puts.was puts.of puts.stays puts.enough tell) (no_index rel kind new puts.stays) puts.called named)
  where
    items : List Item
    items = items_in (option_to_list gone) (forms.Put new ∷ []) []

    messages : List Message
    messages = messages_written w.history w.backend items

    tell : Tell messages (cats_by w.history w.backend (forms.Put new) ++ rels_by w.history w.backend (forms.Put new))
    tell = tells_in w.history w.backend items (forms.Put new) (changed_in (option_to_list gone) (forms.Put new ∷ []) [] (forms.Put new) (inl refl))

    told : IsTold messages rel
    told = rel_told messages (cats_by w.history w.backend (forms.Put new)) (rel_for new) rel (tells_one rel kind new puts.stays) tell

    MayGoToo : Row → Type 0
    MayGoToo row = HasOwnOid row × MayGo w.history w.backend messages row

    may : AllByRecursion MayGoToo (option_to_list gone)
    may = every-weaker (λ row. IsGiven w.history w.backend (scans.AttrDef rel) row × Holds w rel AccessExclusive) MayGoToo (λ row both. default_may_go w.history w.backend rel messages row both.1 told both.0) (option_to_list gone) given

-- a function that gives a column a row that stays the column's
abbrev LeavesColumn : Oid → (Row → Row) → Type 0
LeavesColumn rel f = (num : ℕ) (name : List ℕ) (col_type : ColType) (stat : ℤ) (live : Bool) → (key_of (f (rows.Att rel num name col_type stat live)) ≡ keys.Att rel num) × IsOf rel Table (f (rows.Att rel num name col_type stat live)) × IsNoRelation (f (rows.Att rel num name col_type stat live))

-- and whose name is that of no other column of the relation that is seen
abbrev CallsColumn : Writer → Oid → (Row → Row) → Type 0
CallsColumn w rel f = (num : ℕ) (name : List ℕ) (col_type : ColType) (stat : ℤ) (live : Bool) → Sees w (rows.Att rel num name col_type stat live) → IsCalledApart w.history w.backend (f (rows.Att rel num name col_type stat live))

-- a mode is held that is enough for it
abbrev IsEnough : Writer → Oid → (Row → Row) → Type 0
IsEnough w rel f = (num : ℕ) (name : List ℕ) (col_type : ColType) (stat : ℤ) (live : Bool)
    → list_any (holds (held_of w.history) w.backend rel) (modes_enough (Some (rows.Att rel num name col_type stat live)) (forms.Put (f (rows.Att rel num name col_type stat live))) rel) ≡ true

-- a column that is seen may be given such a row
put_column : (w : Writer) (c : ℕ) (facts : Facts) (rel : Oid) (column : List ℕ) (gone : Option Row) (row : Row) (more : List Row) (f : Row → Row) → IsSound w.history → now_of w (scans.AttName rel column) ≡ row ∷ more
    → w.draft ≡ record { changes = deleting gone ++ Replace (f row) ∷ []; forced = []; new_oids = 0 } → AllByRecursion (λ r. IsGiven w.history w.backend (scans.AttrDef rel) r × Holds w rel AccessExclusive) (option_to_list gone)
    → LeavesColumn rel f → CallsColumn w rel f → IsEnough w rel f → Fits w c facts
put_column w c facts rel column gone row more f sound there is given leaves calls enough = put_row w c facts rel Table gone was (f was) sound (is ∙ ap (λ r. record { changes = deleting gone ++ Replace (f r) ∷ []; forced = []; new_oids = 0 }) seen.is) (record {
  was = seen_is_old w.history w.backend (forms.Put (f was)) was sound (ap Some (leaves seen.num seen.name seen.col_type seen.stat seen.live).0) seen.seen;
  of = refl;
  stays = (leaves seen.num seen.name seen.col_type seen.stat seen.live).1;
  called = calls seen.num seen.name seen.col_type seen.stat seen.live seen.seen;
  enough = enough seen.num seen.name seen.col_type seen.stat seen.live;
}) given (names_none w.history w.backend w.opened (forms.Put (f was) ∷ []) (leave_unnamed w.history w.backend (forms.Put (f was) ∷ []) ((leaves seen.num seen.name seen.col_type seen.stat seen.live).2, tt)))
  where
    seen : ColumnSeen w.history w.backend rel row
    seen = column_seen w.history w.backend rel column row more there

    was : Row
    was = rows.Att rel seen.num seen.name seen.col_type seen.stat seen.live

-- `rename column`
pub renamed_column : (w : Writer) (c : ℕ) (facts : Facts) (column to : List ℕ) → IsSound w.history → IsName to → Altered w AccessExclusive Table (rename_column column to) → Fits w c facts
renamed_column w c facts column to sound spelled a =
    let there = column_is_there w a.found a.rel column (renaming to a.rel) a.comes in
    let free = column_is_free w a.found a.rel to (changing (Replace (with_name to there.row) ∷ [])) there.comes in
    put_column w c facts a.rel column None there.row there.more (with_name to) sound there.there (wrote w a.found (record { changes = Replace (with_name to there.row) ∷ []; forced = []; new_oids = 0 }) free.1) tt (λ num name col_type stat live. (refl, refl, tt))
    (λ num name col_type stat live seen. free_called w.history w.backend a.rel num to col_type stat live spelled free.0)
    (λ num name col_type stat live. strong_enough (holds (held_of w.history) w.backend a.rel) (Some (rows.Att a.rel num name col_type stat live)) (forms.Put (rows.Att a.rel num to col_type stat live)) a.rel a.has)

-- `set statistics`
pub targeted_column : (w : Writer) (c : ℕ) (facts : Facts) (column : List ℕ) (stat : ℤ) → IsSound w.history → EachEntry WritesColumns w.history → Altered w ShareUpdateExclusive Table (set_statistics column stat) → Fits w c facts
targeted_column w c facts column target sound kept a =
    let test = passed w a.found (not (int_lt target (negsuc 0))) (errors.OutOfRange target) (with_column a.rel column (targeting target)) a.comes in
    let there = column_is_there w a.found a.rel column (targeting target) test.1 in
    put_column w c facts a.rel column None there.row there.more (with_stat (int_min target most_stat)) sound there.there (wrote w a.found (record { changes = Replace (with_stat (int_min target most_stat) there.row) ∷ []; forced = []; new_oids = 0 }) there.comes) tt
    (λ num name col_type stat live. (refl, refl, tt))
    (λ num name col_type stat live seen. kept_called w.history w.backend a.rel num name col_type col_type stat (int_min target most_stat) live live sound kept seen)
    (λ num name col_type stat live. weak_enough_stat (holds (held_of w.history) w.backend a.rel) a.rel num name col_type stat (int_min target most_stat) live a.has)

-- `drop column`: its default goes with it
pub dropped_column : (w : Writer) (c : ℕ) (facts : Facts) (column : List ℕ) → IsSound w.history → EachEntry WritesColumns w.history → Altered w AccessExclusive Table (drop_column column) → Fits w c facts
dropped_column w c facts column sound kept a =
    let there = column_is_there w a.found a.rel column (drop_found column a.rel) a.comes in
    let referred = passed w a.found (not (list_any (uses_column a.rel (column_number there.row)) (now_of w (scans.Constraint a.rel)))) (errors.ColumnUsed column) (reading (scans.Index a.rel) (drop_unindexed column a.rel there.row)) (read_then w a.found (scans.Constraint a.rel) (drop_unreferred column a.rel there.row) there.comes) in
    let indexed = passed w a.found (not (list_any (uses_column a.rel (column_number there.row)) (now_of w (scans.Index a.rel)))) (errors.ColumnUsed column) (reading (scans.AttrDef a.rel) (dropping there.row)) (read_then w a.found (scans.Index a.rel) (drop_unindexed column a.rel there.row) referred.1) in
    let ends = read_then w a.found (scans.AttrDef a.rel) (dropping there.row) indexed.1 in
    let gone : Option Row = find (is_default_of (column_number there.row)) (now_of w (scans.AttrDef a.rel)) in
    put_column w c facts a.rel column gone there.row there.more as_dropped sound there.there (wrote w a.found (record { changes = deleting gone ++ Replace (as_dropped there.row) ∷ []; forced = []; new_oids = 0 }) ends)
    (found_given (λ row. IsGiven w.history w.backend (scans.AttrDef a.rel) row × Holds w a.rel AccessExclusive) (is_default_of (column_number there.row)) (now_of w (scans.AttrDef a.rel))
    (every-weaker (IsGiven w.history w.backend (scans.AttrDef a.rel)) (λ row. IsGiven w.history w.backend (scans.AttrDef a.rel) row × Holds w a.rel AccessExclusive) (λ row is. (is, a.has)) (now_of w (scans.AttrDef a.rel)) (given_seen w.history w.backend (scans.AttrDef a.rel))))
    (λ num name col_type stat live. (refl, refl, tt))
    (λ num name col_type stat live seen. dropped_called w.history w.backend a.rel num name col_type stat live sound kept seen)
    (λ num name col_type stat live. strong_enough (holds (held_of w.history) w.backend a.rel) (Some (rows.Att a.rel num name col_type stat live)) (forms.Put (as_dropped (rows.Att a.rel num name col_type stat live))) a.rel a.has)

-- a relation's own row that is seen may be replaced
put_class : (w : Writer) (c : ℕ) (facts : Facts) (rel : Oid) (kind : Kind) (own to : List ℕ) (fill new : Option ℕ) → IsSound w.history → Sees w (rows.Class rel own kind fill) → w.draft ≡ record { changes = Replace (rows.Class rel to kind new) ∷ []; forced = []; new_oids = 0 }
    → list_any (holds (held_of w.history) w.backend rel) (modes_enough (Some (rows.Class rel own kind fill)) (forms.Put (rows.Class rel to kind new)) rel) ≡ true → IsReadAsNow w rel → Fits w c facts
put_class w c facts rel kind own to fill new sound seen is enough read = put_row w c facts rel kind None (rows.Class rel own kind fill) (rows.Class rel to kind new) sound is (record {
  was = was;
  of = (refl, refl);
  stays = (refl, refl);
  called = called_apart w.history w.backend (rows.Class rel to kind new) tt;
  enough = enough;
}) tt (λ f are. renamed_given w.history w.backend rel own to kind fill new (fill, seen_alone w.history w.backend rel own kind fill sound seen) was f (read f are, tt))
  where
    was : old_row w.history w.backend (forms.Put (rows.Class rel to kind new)) ≡ Some (rows.Class rel own kind fill)
    was = seen_is_old w.history w.backend (forms.Put (rows.Class rel to kind new)) (rows.Class rel own kind fill) sound refl seen

-- the rows that a scan of a relation's own row gives
own_row : (w : Writer) (found : List (Option Oid)) (rel : Oid) (name : List ℕ) (kind : Kind) (fill : Option ℕ) (rest : List Row → Plan) → IsSound w.history → Sees w (rows.Class rel name kind fill) → ComesTo w found (reading (scans.Class rel) rest) → ComesTo w found (rest (rows.Class rel name kind fill ∷ []))
own_row w found rel name kind fill rest sound seen c = subst (λ given. ComesTo w found (rest given)) (seen_alone w.history w.backend rel name kind fill sound seen) (read_then w found (scans.Class rel) rest c)

-- `set (fillfactor = N)`
pub filled_table : (w : Writer) (c : ℕ) (facts : Facts) (fill : ℕ) → IsSound w.history → Altered w ShareUpdateExclusive Table (set_fillfactor fill) → Fits w c facts
filled_table w c facts fill sound a =
    let test = passed w a.found (nat_le 10 fill && nat_le fill 100) (errors.OutOfRange (pos fill)) (reading (scans.Class a.rel) (filling fill)) a.comes in
    put_class w c facts a.rel Table a.name a.name a.fill (Some fill) sound a.seen
    (wrote w a.found (record { changes = Replace (rows.Class a.rel a.name Table (Some fill)) ∷ []; forced = []; new_oids = 0 }) (own_row w a.found a.rel a.name Table a.fill (filling fill) sound a.seen test.1))
    (weak_enough_fill (holds (held_of w.history) w.backend a.rel) a.rel a.name a.fill (Some fill) a.rel a.has) a.read

-- `rename to`, of a table or of an index
renamed : (w : Writer) (c : ℕ) (facts : Facts) (mode : Mode) (kind : Kind) (to : List ℕ) → IsSound w.history → (a : Altered w mode kind (rename_table to)) → list_any (holds (held_of w.history) w.backend a.rel) (modes_enough (Some (rows.Class a.rel a.name kind a.fill)) (forms.Put (rows.Class a.rel to kind a.fill)) a.rel) ≡ true → Fits w c facts
renamed w c facts mode kind to sound a enough = put_class w c facts a.rel kind a.name to a.fill a.fill sound a.seen
    (wrote w a.found (record { changes = Replace (rows.Class a.rel to kind a.fill) ∷ []; forced = []; new_oids = 0 }) (own_row w a.found a.rel a.name kind a.fill (renaming_table to) sound a.seen a.comes)) enough a.read

pub renamed_table : (w : Writer) (c : ℕ) (facts : Facts) (to : List ℕ) → IsSound w.history → Altered w AccessExclusive Table (rename_table to) → Fits w c facts
renamed_table w c facts to sound a = renamed w c facts AccessExclusive Table to sound a (strong_enough (holds (held_of w.history) w.backend a.rel) (Some (rows.Class a.rel a.name Table a.fill)) (forms.Put (rows.Class a.rel to Table a.fill)) a.rel a.has)

pub renamed_index : (w : Writer) (c : ℕ) (facts : Facts) (to : List ℕ) → IsSound w.history → Altered w ShareUpdateExclusive Index (rename_table to) → Fits w c facts
renamed_index w c facts to sound a = renamed w c facts ShareUpdateExclusive Index to sound a (weak_enough_name (holds (held_of w.history) w.backend a.rel) a.rel a.name to a.fill a.fill a.rel a.has)

-- `add column`
pub added_column : (w : Writer) (c : ℕ) (facts : Facts) (column : List ℕ) (col_type : ColType) → IsSound w.history → EachEntry WritesColumns w.history → IsName column → Altered w AccessExclusive Table (add_column column col_type) → Fits w c facts
added_column w c facts column col_type sound kept spelled a =
    let free = column_is_free w a.found a.rel column (reading (scans.Attribute a.rel) (adding a.rel column col_type)) a.comes in
    let test = passed w a.found (nat_lt count MOST_COLUMNS) errors.TooManyColumns (changing (Insert new ∷ [])) (read_then w a.found (scans.Attribute a.rel) (adding a.rel column col_type) free.1) in
    parts_fit_draft w c facts 0 [] (Insert new ∷ []) [] (forms.Add new ∷ []) None (wrote w a.found (record { changes = Insert new ∷ []; forced = []; new_oids = 0 }) test.1) (ap (λ r. forms.Add r ∷ []) (undrawn_row (next_oid w.history) new)) (λ o first. refl)
    (parts_alter w.history w.backend w.opened 0 None [] (forms.Add new ∷ []) [] (parts_fit w.history w.backend 0 [] (forms.Add new ∷ []) [] sound refl refl tt
    (column_fits w.history w.backend a.rel (messages_written w.history w.backend items) (count + 1) column col_type (negsuc 0) true numbered.free a.has (tells_in w.history w.backend items (forms.Add new) (inl refl)), tt))
    (record {
      whole = refl;
      columns = ap (λ t. t && true) (next_number count is_there (of numbered.last));
      called = (free_called w.history w.backend a.rel (count + 1) column col_type (negsuc 0) true spelled free.0, tt);
      apart = (tt, tt);
    }) (record { together = refl }) (tt, tt) (names_none w.history w.backend w.opened (forms.Add new ∷ []) refl) (λ n. refl) (omega arith))
  where
    count : ℕ
    count = length (now_of w (scans.Attribute a.rel))

    new : Row
    new = rows.Att a.rel (count + 1) column col_type (negsuc 0) true

    items : List Item
    items = forms.Add new ∷ []

    numbered : AreNumbered w.history w.backend a.rel
    numbered = whole_columns w.history w.backend a.rel a.name Table sound kept (a.fill, seen_alone w.history w.backend a.rel a.name Table a.fill sound a.seen) (held_bars_all (held_of w.history) w.backend a.rel AccessExclusive changing_modes a.has refl)

    is_there : ℕ → Bool
    is_there n = has_row w.history w.backend (keys.Att a.rel n) || list_any (gives_key (keys.Att a.rel n)) items

    of : (count ≡ 0) ⊎ (has_row w.history w.backend (keys.Att a.rel count) ≡ true) → (count ≡ 0) ⊎ (is_there count ≡ true)
    of (inl none) = inl none
    of (inr seen) = inr (or_left (has_row w.history w.backend (keys.Att a.rel count)) _ seen)
