-- A name is taken in the rows that are kept where it is in the history.
use Rattle.std.proofs.Common.{◌≡◌, ◌∙◌, ℕ, true, Option, Some, None, List, [], ◌∷◌, ◌++◌, refl, sym, ap, subst}
use Rattle.std.specs.List.{AllByRecursion, list_all, flat_map}
use Rattle.std.specs.Option.{option_map}
use Rattle.std.proofs.lemmas.Bool.{and_from}
use Rattle.base_types.specs.declared.ids.Oid.{Oid}
use Rattle.base_types.specs.declared.ids.Xid.{Xid}
use Rattle.event_kinds.specs.declared.entry.Entry.{Entry}
use Rattle.event_kinds.specs.declared.entry.Item.{Item}
use Rattle.row_visibility.specs.declared.clash.Clash.{Clash}
use Rattle.row_visibility.specs.declared.clash.Clash.TheVariants as clashes
use Rattle.row_visibility.specs.declared.version.Version.{Version}
use Rattle.catalog_rows.specs.Store as stores
use Rattle.catalog_rows.specs.Store.{Store, clash_of, clash_by, row_clash, relation_of, claimant_of}
use Rattle.history_model.specs.After.{segment_of}
use Rattle.history_model.specs.Names.{new_name, new_names}
use Rattle.history_model.specs.Transactions.{running_transaction_of}
use Rattle.history_model.specs.Versions.{old_row, added_row}
use Rattle.history_model.specs.Writes.{is_free}
use Rattle.history_model.proofs.Every.{every-append}
use Rattle.history_model.specs.MayFollow.{AllowsEvent}
use Rattle.segment_rows.specs.Kept.{RowsHeld, KeepsRows, xid_in, reader_of}
use Rattle.segment_rows.specs.Words.{old_at}
use Rattle.segment_rows.proofs.FreeNames.{free_name, named_some}
use Rattle.segment_rows.proofs.Kept.{old_same}
use Rattle.segment_rows.proofs.Mirrors.{Mirrors, user_some, users_none}
use Rattle.shared_seg.specs.Naming.{new_name_of, clash_event_of, NamesFree}

-- a clash is an entry that the history allows
pub clash_allowed : (history : List Entry) (b c : ℕ) (store : Store) (own : Option Xid) → Mirrors (segment_of history) b store own → (name : List ℕ) (clash : Clash) → clash_of store own name ≡ Some clash → AllowsEvent history b c (clash_event_of name clash)
clash_allowed history b c store own m name clash is = by_claim (stores.claimed_version store own name) refl is
  where
    by_row : (standing : Option Version) → stores.standing_version store own name ≡ standing → stores.claimed_version store own name ≡ None → row_clash standing ≡ Some clash → AllowsEvent history b c (clash_event_of name clash)
    by_row None at none some = absurd (cc)
    by_row (Some v) at none some = by_relation (relation_of v.row) refl some
      where
        by_relation : (o : Option Oid) → relation_of v.row ≡ o → option_map clashes.Row o ≡ Some clash → AllowsEvent history b c (clash_event_of name clash)
        by_relation None of some' = absurd (cc)
        by_relation (Some rel) of some' =
            let same : clashes.Row rel ≡ clash = cc in
            subst (λ k. AllowsEvent history b c (clash_event_of name k)) same (users_none (segment_of history) b store own m name none, named_some (segment_of history) b store own m name v rel at of)

    by_claim : (claimed : Option Version) → stores.claimed_version store own name ≡ claimed → clash_by store.committed own claimed (stores.standing_version store own name) ≡ Some clash → AllowsEvent history b c (clash_event_of name clash)
    by_claim None none some = by_row (stores.standing_version store own name) refl none some
    by_claim (Some v) at some =
        let same : clashes.Running (claimant_of store.committed own v) ≡ clash = cc in
        subst (λ k. AllowsEvent history b c (clash_event_of name k)) same (user_some (segment_of history) b store own m name v at)

-- so are the new names
name_same : (history : List Entry) (b : ℕ) (rows : RowsHeld) (own : Option Xid) → KeepsRows (segment_of history) rows → own ≡ xid_in (running_transaction_of history b) → (item : Item) → new_name_of rows.store own item ≡ new_name (old_row history b item) (added_row item)
name_same history b rows own k is item = ap (λ old. new_name old (added_row item)) (ap (λ o. old_at rows.store (reader_of o) item) is ∙ old_same (segment_of history) rows b k item)

pub names_same : (history : List Entry) (b : ℕ) (rows : RowsHeld) (own : Option Xid) → KeepsRows (segment_of history) rows → own ≡ xid_in (running_transaction_of history b) → (items : List Item) → flat_map (new_name_of rows.store own) items ≡ new_names history b items
names_same history b rows own k is [] = refl
names_same history b rows own k is (item ∷ items) = λ i. name_same history b rows own k is item i ++ names_same history b rows own k is items i

-- where all are free, so they are in the history
pub each_free : (history : List Entry) (b : ℕ) (store : Store) (own : Option Xid) → Mirrors (segment_of history) b store own → (names : List (List ℕ)) → AllByRecursion (λ name. clash_of store own name ≡ None) names → list_all (is_free history b) names ≡ true
each_free history b store own m [] free = refl
each_free history b store own m (name ∷ names) free = and_from (is_free history b name) (list_all (is_free history b) names) (free_name (segment_of history) b store own m name free.0) (each_free history b store own m names free.1)

pub flat_free : (store : Store) (own : Option Xid) (items : List Item) → NamesFree store own items → AllByRecursion (λ name. clash_of store own name ≡ None) (flat_map (new_name_of store own) items)
flat_free store own [] free = tt
flat_free store own (item ∷ items) free = every-append (λ name. clash_of store own name ≡ None) (new_name_of store own item) (flat_map (new_name_of store own) items) free.0 (flat_free store own items free.1)

pub all_free : (history : List Entry) (b : ℕ) (rows : RowsHeld) (own : Option Xid) → KeepsRows (segment_of history) rows → own ≡ xid_in (running_transaction_of history b) → Mirrors (segment_of history) b rows.store own → (items : List Item) → NamesFree rows.store own items → list_all (is_free history b) (new_names history b items) ≡ true
all_free history b rows own k is m items free =
    ap (list_all (is_free history b)) (sym (names_same history b rows own k is items)) ∙ each_free history b rows.store own m (flat_map (new_name_of rows.store own) items) (flat_free rows.store own items free)
