-- A new table may always be written, but for its name: its rows are new, and nobody else knows its oid.
use Rattle.std.proofs.Common.{◌≡◌, ◌<◌, ◌+◌, ◌∙◌, ℕ, Bool, true, false, not, Option, Some, None, List, [], ◌∷◌, ◌++◌, ◌==◌, ◌&&◌, ◌||◌, refl, ap, subst, fold, map, cond, arith}
use Rattle.std.specs.List.{AllByRecursion, flat_map, filter_map, list_any, list_all, enumerate_from, range_with_len}
use Rattle.std.specs.Option.{IfSome}
use Rattle.std.specs.Str.{bytes_eq}
use Rattle.std.proofs.lemmas.Bool.{ne_eqb, eq-eqb, or_left, or_right}
use Rattle.std.proofs.lemmas.List.Folds.{list_any-append}
use Rattle.base_types.specs.RowKeys.{key_of, same_key, are_distinct_keys}
use Rattle.base_types.specs.declared.command.NewColumn.{NewColumn}
use Rattle.base_types.specs.declared.ids.Oid.{Oid}
use Rattle.base_types.specs.Names.{IsName}
use Rattle.base_types.specs.declared.kind.Kind.TheVariants.{Table}
use Rattle.base_types.specs.declared.mode.Mode.TheVariants.{AccessExclusive}
use Rattle.base_types.specs.declared.key.CacheId.TheVariants.{RelName, RelOid, AttName}
use Rattle.base_types.specs.declared.key.KeyPart.TheVariants as parts
use Rattle.base_types.specs.declared.row.Row.{Row}
use Rattle.base_types.specs.declared.row.Row.TheVariants as rows
use Rattle.base_types.specs.declared.row_key.RowKey.TheVariants as keys
use Rattle.base_types.specs.declared.scan.Purpose.TheVariants as scans
use Rattle.event_kinds.specs.declared.entry.Entry.{Entry}
use Rattle.event_kinds.specs.declared.entry.Item.{Item}
use Rattle.row_visibility.specs.declared.version.Version.{Version}
use Rattle.lock_modes.specs.Grants.{holds}
use Rattle.lock_modes.specs.Own.{new_lock}
use Rattle.inval_messages.specs.declared.message.Message.{Message}
use Rattle.inval_messages.specs.declared.message.Message.TheVariants.{Rel}
use Rattle.inval_messages.specs.Messages.{message_for, same_message, covers}
use Rattle.inval_messages.specs.Lists.{once_more}
use Rattle.inval_messages.proofs.Covers.{same_message-itself}
use Rattle.ddl_effect.specs.Tables.{first_twice}
use Rattle.history_model.specs.Covered.{scans_of, is_covered}
use Rattle.history_model.specs.Drawn.{drawn_by, made_by, next_oid}
use Rattle.history_model.specs.Names.{new_names}
use Rattle.history_model.proofs.Covering.{covers_named, named_told}
use Rattle.history_model.specs.Orderly.{main_rel, is_fresh, keeps_relation}
use Rattle.history_model.specs.Sound.{IsSound}
use Rattle.history_model.specs.Sent.{cats_by, rels_by, messages_written}
use Rattle.history_model.specs.Versions.{versions_of, added_row, ended_key, old_row}
use Rattle.history_model.specs.Changing.{changed_key, rows_named}
use Rattle.history_model.specs.Writes.{has_row, is_guarded, keeps_kind}
use Rattle.history_model.specs.Held.{held_of}
use Rattle.history_model.proofs.DrawnRows.{rows_drawn}
use Rattle.cacheless.specs.Facts.{Facts}
use Rattle.cacheless.specs.Locks.{locked_by}
use Rattle.cacheless.specs.TableWrites.{AreNamesakes, goes_together}
use Rattle.cacheless.specs.Types.{Opening}
use Rattle.cacheless.proofs.Written.FitToWrite.{IsFit}
use Rattle.cacheless.proofs.Written.LeavingItems.{called_apart}
use Rattle.cacheless.proofs.Written.NewNames.{table_called, table_apart}
use Rattle.cacheless.proofs.Written.NewRows.{oid_drawn}
use Rattle.cacheless.proofs.Written.NewTableItems.{column_item, table_items, table_named, TableKeeps, new_table_keeps}
use Rattle.cacheless.proofs.Written.WrittenParts.{MayAlter}
use Rattle.cacheless.proofs.Written.NamesGiven.{names_of}

-- the columns of a new table draw no oid and make no relation
columns_draw : (rel : Oid) (numbered : List (ℕ × NewColumn)) → (flat_map drawn_by (map (column_item rel) numbered) ≡ []) × (flat_map made_by (map (column_item rel) numbered) ≡ [])
columns_draw rel [] = (refl, refl)
columns_draw rel (column ∷ numbered) = columns_draw rel numbered

columns_lock : (c : ℕ) (rel : Oid) (numbered : List (ℕ × NewColumn)) → flat_map (locked_by c) (map (column_item rel) numbered) ≡ []
columns_lock c rel [] = refl
columns_lock c rel (column ∷ numbered) = columns_lock c rel numbered

-- of all columns from a number on none has a smaller number
below_all : (rel : Oid) (num from : ℕ) (columns : List NewColumn) → num < from → list_any (same_key (keys.Att rel num)) (flat_map changed_key (map (column_item rel) (enumerate_from from columns))) ≡ false
below_all rel num from [] below = refl
below_all rel num from (column ∷ columns) below =
    ap (λ t. ((rel.0 == rel.0) && t) || list_any (same_key (keys.Att rel num)) (flat_map changed_key (map (column_item rel) (enumerate_from (from + 1) columns)))) (ne_eqb num from (λ same. absurd (omega (arith, below, same))))
    ∙ and_no (rel.0 == rel.0) _ ∙ below_all rel num (from + 1) columns (omega (arith, below))
  where
    and_no : (s u : Bool) → ((s && false) || u) ≡ u
    and_no true u = refl
    and_no false u = refl

no_class : (rel : Oid) (numbered : List (ℕ × NewColumn)) → list_any (same_key (keys.Class rel)) (flat_map changed_key (map (column_item rel) numbered)) ≡ false
no_class rel [] = refl
no_class rel (column ∷ numbered) = no_class rel numbered

columns_distinct : (rel : Oid) (from : ℕ) (columns : List NewColumn) → are_distinct_keys (flat_map changed_key (map (column_item rel) (enumerate_from from columns))) ≡ true
columns_distinct rel from [] = refl
columns_distinct rel from (column ∷ columns) = λ i. not (below_all rel from (from + 1) columns (omega arith) i) && columns_distinct rel (from + 1) columns i

columns_end : (rel : Oid) (numbered : List (ℕ × NewColumn)) → filter_map ended_key (map (column_item rel) numbered) ≡ []
columns_end rel [] = refl
columns_end rel (column ∷ numbered) = columns_end rel numbered

columns_keep : (before : List Entry) (b : ℕ) (rel : Oid) (numbered : List (ℕ × NewColumn)) → (list_all (keeps_kind before b) (map (column_item rel) numbered) ≡ true) × (list_all (keeps_relation before b) (map (column_item rel) numbered) ≡ true)
columns_keep before b rel [] = (refl, refl)
columns_keep before b rel (column ∷ numbered) = columns_keep before b rel numbered

-- a row of a relation that the write makes is guarded
guards : (rel : Oid) (t : Bool) → (((rel.0 == rel.0) || false) || t) ≡ true
guards rel t = ap (λ s. (s || false) || t) (eq-eqb rel.0 rel.0 refl)

columns_guarded : (before : List Entry) (b : ℕ) (rel : Oid) (numbered : List (ℕ × NewColumn)) → list_all (is_guarded before b (rel ∷ [])) (map (column_item rel) numbered) ≡ true
columns_guarded before b rel [] = refl
columns_guarded before b rel (column ∷ numbered) = λ i. (guards rel (holds (held_of before) b rel AccessExclusive || false) i && true) && columns_guarded before b rel numbered i

-- no version is of a relation whose oid is still to be drawn
abbrev pub AreDrawn : ℕ → List Version → Type 0
AreDrawn next vs = AllByRecursion (λ v. (main_rel v.row).0 < next) vs

other_class : (row : Row) (rel : Oid) → (main_rel row).0 < rel.0 → same_key (key_of row) (keys.Class rel) ≡ false
other_class (rows.Class oid own kind fill) rel below = ne_eqb oid.0 rel.0 (λ same. absurd (omega (arith, below, same)))
other_class row rel below = refl

other_column : (row : Row) (rel : Oid) (num : ℕ) → (main_rel row).0 < rel.0 → same_key (key_of row) (keys.Att rel num) ≡ false
other_column (rows.Att oid other own col_type stat live) rel num below = ap (λ t. t && (other == num)) (ne_eqb oid.0 rel.0 (λ same. absurd (omega (arith, below, same))))
other_column row rel num below = refl

no_table : (rel : Oid) (vs : List Version) → AreDrawn rel.0 vs → list_any (λ v. same_key (key_of v.row) (keys.Class rel)) vs ≡ false
no_table rel [] drawn = refl
no_table rel (v ∷ vs) drawn = λ i. other_class v.row rel drawn.0 i || no_table rel vs drawn.1 i

no_column : (rel : Oid) (num : ℕ) (vs : List Version) → AreDrawn rel.0 vs → list_any (λ v. same_key (key_of v.row) (keys.Att rel num)) vs ≡ false
no_column rel num [] drawn = refl
no_column rel num (v ∷ vs) drawn = λ i. other_column v.row rel num drawn.0 i || no_column rel num vs drawn.1 i

columns_fresh : (before : List Entry) (rel : Oid) (numbered : List (ℕ × NewColumn)) → AreDrawn rel.0 (versions_of before) → list_all (is_fresh before) (map (column_item rel) numbered) ≡ true
columns_fresh before rel [] drawn = refl
columns_fresh before rel ((num, column) ∷ numbered) drawn = λ i. elim (no_column rel num (versions_of before) drawn i) [ true ↦ false | false ↦ true ] && columns_fresh before rel numbered drawn i

-- a message that is there stays with more messages, each of them once
once_keeps : (p : Message → Bool) (old messages : List Message) → list_any p old ≡ true → list_any p (fold once_more old messages) ≡ true
once_keeps p old [] has = has
once_keeps p old (m ∷ messages) has = once_keeps p (once_more old m) messages (by_test (list_any (same_message m) old))
  where
    by_test : (t : Bool) → list_any p (cond t old (old ++ m ∷ [])) ≡ true
    by_test true = has
    by_test false = list_any-append p old (m ∷ []) ∙ or_left (list_any p old) (list_any p (m ∷ [])) has

first_has : (p : Message → Bool) (m : Message) (messages : List Message) → p m ≡ true → list_any p (m ∷ messages) ≡ true
first_has p m messages is = or_left (p m) (list_any p messages) is

-- each column's row is covered by its own message, and its descriptor by the relation's
columns_covered : (before : List Entry) (b : ℕ) (rel : Oid) (messages : List Message) (numbered : List (ℕ × NewColumn))
    → ((p : Message → Bool) → list_any p (flat_map (cats_by before b) (map (column_item rel) numbered)) ≡ true → list_any p messages ≡ true) → list_any (covers (scans.Attribute rel)) messages ≡ true
    → list_all (is_covered messages) (flat_map (λ item. flat_map scans_of (rows_named item (old_row before b item))) (map (column_item rel) numbered)) ≡ true
columns_covered before b rel messages [] has relation = refl
columns_covered before b rel messages ((num, column) ∷ numbered) has relation =
    λ i. has (covers (scans.AttName rel column.name)) (first_has (covers (scans.AttName rel column.name)) own later (same_message-itself own)) i
    && (has (covers (scans.AttList rel)) (first_has (covers (scans.AttList rel)) own later refl) i && (relation i && columns_covered before b rel messages numbered (λ p is. has p (or_right (p own) (list_any p later) is)) relation i))
  where
    own : Message
    own = message_for AttName (parts.Oid rel ∷ parts.Name column.name ∷ [])

    later : List Message
    later = flat_map (cats_by before b) (map (column_item rel) numbered)

-- and so each row of a table
table_covered : (before : List Entry) (b : ℕ) (rel : Oid) (name : List ℕ) (numbered : List (ℕ × NewColumn)) → covers_named before b (table_items rel name numbered) ≡ true
table_covered before b rel name numbered =
    λ i. in_cats (covers (scans.RelName name)) (first_has (covers (scans.RelName name)) by_name (by_oid ∷ later) (same_message-itself by_name)) i
    && (in_cats (covers (scans.RelOid rel)) (or_right (covers (scans.RelOid rel) by_name) (list_any (covers (scans.RelOid rel)) (by_oid ∷ later)) (first_has (covers (scans.RelOid rel)) by_oid later (same_message-itself by_oid))) i
    && (relation i && columns_covered before b rel (messages_written before b items) numbered (λ p is. in_cats p (or_right (p by_name) (list_any p (by_oid ∷ later)) (or_right (p by_oid) (list_any p later) is))) relation i))
  where
    items : List Item
    items = table_items rel name numbered

    by_name : Message
    by_name = message_for RelName (parts.Name name ∷ [])

    by_oid : Message
    by_oid = message_for RelOid (parts.Oid rel ∷ [])

    later : List Message
    later = flat_map (cats_by before b) (map (column_item rel) numbered)

    cats : List Message
    cats = flat_map (cats_by before b) items

    rels : List Message
    rels = fold once_more [] (flat_map (rels_by before b) items)

    in_cats : (p : Message → Bool) → list_any p cats ≡ true → list_any p (cats ++ rels) ≡ true
    in_cats p is = list_any-append p cats rels ∙ or_left (list_any p cats) (list_any p rels) is

    of_rel : (p : Message → Bool) → p (Rel rel) ≡ true → list_any p rels ≡ true
    of_rel p is = once_keeps p (Rel rel ∷ []) (flat_map (rels_by before b) (map (column_item rel) numbered)) (or_left (p (Rel rel)) false is)

    relation : list_any (covers (scans.Class rel)) (cats ++ rels) ≡ true
    relation = list_any-append (covers (scans.Class rel)) cats rels ∙ or_right (list_any (covers (scans.Class rel)) cats) (list_any (covers (scans.Class rel)) rels) (of_rel (covers (scans.Class rel)) (same_message-itself (Rel rel)))

-- what a write asks of its items, but for their names
record MayAdd (before : List Entry) (b next count : ℕ) (items : List Item) : Type 0 where
  oids : flat_map drawn_by items ≡ range_with_len next count
  keys : are_distinct_keys (flat_map changed_key items) ≡ true
  there : list_all (has_row before b) (filter_map ended_key items) ≡ true
  kinds : list_all (keeps_kind before b) items ≡ true
  guarded : list_all (is_guarded before b (flat_map made_by items)) items ≡ true
  fresh : list_all (is_fresh before) items ≡ true
  keeps : list_all (keeps_relation before b) items ≡ true
  named : covers_named before b items ≡ true

may_add : (before : List Entry) (b : ℕ) (rel : Oid) (name : List ℕ) (columns : List NewColumn) → AreDrawn rel.0 (versions_of before) → MayAdd before b rel.0 1 (table_items rel name (enumerate_from 1 columns))
may_add before b rel name columns drawn = record {
  oids = ap (λ l. rel.0 ∷ l) (columns_draw rel numbered).0;
  keys = λ i. not (no_class rel numbered i) && columns_distinct rel 1 columns i;
  there = ap (list_all (has_row before b)) (columns_end rel numbered);
  kinds = (columns_keep before b rel numbered).0;
  guarded = ap (λ l. list_all (is_guarded before b (rel ∷ l)) (table_items rel name numbered)) (columns_draw rel numbered).1 ∙ (λ i. (guards rel (holds (held_of before) b rel AccessExclusive || false) i && true) && columns_guarded before b rel numbered i);
  fresh = λ i. elim (no_table rel (versions_of before) drawn i) [ true ↦ false | false ↦ true ] && columns_fresh before rel numbered drawn i;
  keeps = (columns_keep before b rel numbered).1;
  named = table_covered before b rel name numbered;
}
  where
    numbered : List (ℕ × NewColumn)
    numbered = enumerate_from 1 columns

-- a backend may write a new table, unless its name is taken
table_fits : (before : List Entry) (b : ℕ) (name : List ℕ) (columns : List NewColumn) → IsSound before → IsFit before b 1 (table_items (oid_drawn before) name (enumerate_from 1 columns))
table_fits before b name columns sound = record {
  oids = may.oids;
  keys = may.keys;
  there = may.there;
  kinds = may.kinds;
  guarded = may.guarded;
  orderly = record { fresh = may.fresh; keeps = may.keeps; told = named_told before b (table_items (oid_drawn before) name (enumerate_from 1 columns)) may.named };
}
  where
    may : MayAdd before b (next_oid before) 1 (table_items (oid_drawn before) name (enumerate_from 1 columns))
    may = may_add before b (oid_drawn before) name columns (rows_drawn before sound)

columns_named : (before : List Entry) (b : ℕ) (facts : Facts) (rel : Oid) (numbered : List (ℕ × NewColumn)) → new_names before b (map (column_item rel) numbered) ≡ flat_map (names_of facts) (map (column_item rel) numbered)
columns_named before b facts rel [] = refl
columns_named before b facts rel (column ∷ numbered) = columns_named before b facts rel numbered

any_row : (rel : Oid) (name : List ℕ) (o : Option Row) → IfSome o (λ other. AreNamesakes (rows.Class rel name Table None) other → ⊥)
any_row rel name None = tt
any_row rel name (Some other) = λ are. are

table_alone : (rel : Oid) (name : List ℕ) (items : List Item) → AllByRecursion (λ later. IfSome (added_row later) (λ other. AreNamesakes (rows.Class rel name Table None) other → ⊥)) items
table_alone rel name [] = tt
table_alone rel name (item ∷ items) = (any_row rel name (added_row item), table_alone rel name items)

columns_together : (before : List Entry) (b : ℕ) (items : List Item) (rel : Oid) (numbered : List (ℕ × NewColumn)) → list_all (goes_together before b items) (map (column_item rel) numbered) ≡ true
columns_together before b items rel [] = refl
columns_together before b items rel (column ∷ numbered) = columns_together before b items rel numbered

-- so a new table may be written, whose columns have names of their own
pub table_alters : (before : List Entry) (b : ℕ) (opened : List Opening) (name : List ℕ) (columns : List NewColumn) → IsSound before → AllByRecursion (λ column. IsName column.name) columns → first_twice [] (map (λ column. column.name) columns) ≡ None
    → MayAlter before b opened 1 (Some (oid_drawn before)) (table_items (oid_drawn before) name (enumerate_from 1 columns))
table_alters before b opened name columns sound spelled distinct = record {
  fit = table_fits before b name columns sound;
  keeps = record {
    columns = record {
      whole = keeps.whole;
      columns = keeps.columns;
      called = (called_apart before b (rows.Class rel name Table None) tt, table_called before b rel 1 columns (rows_drawn before sound) spelled);
      apart = (table_alone rel name (map (column_item rel) numbered), table_apart rel 1 [] columns distinct);
    };
    indexes = record { together = columns_together before b items rel numbered };
    names = table_named rel name numbered;
  };
  named = λ facts read own is. subst (λ l. list_any (bytes_eq own) l ≡ true) (ap (λ l. name ∷ l) (columns_named before b facts rel numbered)) is;
  locked = λ c. ap (λ l. new_lock rel c ∷ l) (columns_lock c rel numbered);
  some = omega arith;
}
  where
    rel : Oid
    rel = oid_drawn before

    numbered : List (ℕ × NewColumn)
    numbered = enumerate_from 1 columns

    items : List Item
    items = table_items rel name numbered

    keeps : TableKeeps before b items
    keeps = new_table_keeps before b rel name columns
