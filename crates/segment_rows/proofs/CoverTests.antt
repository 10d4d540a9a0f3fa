-- What is asked of the scans that a write changes, by what is held and by the segment.
use Rattle.std.proofs.Common.{◌≡◌, ◌∙◌, ◌||◌, ◌&&◌, ℕ, Bool, true, false, if◌then◌else◌, Option, Some, None, List, [], ◌∷◌, ◌++◌, map, filter, fold, refl, sym, ap, subst}
use Rattle.std.specs.List.{AllByRecursion, flat_map, list_any, list_all}
use Rattle.std.specs.Option.{option_map_or}
use Rattle.std.proofs.Math.Bool.{or-false}
use Rattle.std.proofs.lemmas.List.Folds.{list_any-append, list_all-append}
use Rattle.base_types.specs.RowKeys.{key_of, same_key, are_distinct_keys}
use Rattle.base_types.specs.Scans.{scan_of}
use Rattle.row_visibility.specs.Seen.{sees_version}
use Rattle.catalog_rows.specs.Store.{Store, has_committed, row_of_key, rows_of_scan, rows_with_key}
use Rattle.inval_messages.proofs.Covers.{same_message-true}
use Rattle.inval_messages.specs.Lists.{once_more}
use Rattle.inval_messages.specs.Messages.{same_message, covers}
use Rattle.history_model.proofs.Every.{any-weaker, every-weaker}
use Rattle.history_model.specs.Coverage.{scans_of, is_covered, same_rows, counted_for, keeps_at, changed_at, covers_at}
use Rattle.history_model.specs.Messages.{cats_at, rels_at, messages_at as seg_messages}
use Rattle.history_model.specs.After.{after_event}
use Rattle.history_model.specs.Segment.{Standing, Segment, xid_at}
use Rattle.history_model.specs.Rows.{sees_at, rows_at, answer_at, row_at, ends_at, added_row}
use Rattle.history_model.specs.Changing.{changed_key}
use Rattle.segment_rows.specs.Types.{Xid, Row, RowKey, Purpose, Message, Item, Add, Put, Remove, Force, Write, Version}
use Rattle.segment_rows.specs.Kept.{AreDrawn, reader_at, xid_in}
use Rattle.segment_rows.specs.Words.{covers_item, covers_row, covers_scan, given_after, keeps_given, messages_at, rows_ended}
use Rattle.segment_rows.proofs.Mirrors.{Mirrors, filter_each, reads_same, row_same, scan_is_answer}
use Rattle.segment_rows.proofs.ScanChanges.{all_given}
use Rattle.segment_rows.proofs.SeenAfter.{rows_written}
use Rattle.segment_rows.proofs.Messages.{messages_same}
use Rattle.history_model.proofs.Allows.{all_flat, all_same}

-- the messages of a write, in either order
module _ (p : Message → Bool) where
  once_one : (old : List Message) (m : Message) → list_any p (once_more old m) ≡ (list_any p old || p m)
  once_one old m = by_there (list_any (same_message m) old) refl
    where
      found : list_any (same_message m) old ≡ true → p m ≡ true → list_any p old ≡ true
      found there is = any-weaker (same_message m) p (λ x same. subst (λ y. p y ≡ true) (same_message-true m x same) is) old there

      has : list_any (same_message m) old ≡ true → (t : Bool) → p m ≡ t → list_any p old ≡ (list_any p old || t)
      has there true is = found there is ∙ sym (ap (λ t. t || true) (found there is))
      has there false is = sym (or-false (list_any p old))

      by_there : (t : Bool) → list_any (same_message m) old ≡ t → list_any p (if t then old else old ++ m ∷ []) ≡ (list_any p old || p m)
      by_there true there = has there (p m) refl
      by_there false there = list_any-append p old (m ∷ []) ∙ ap (λ t. list_any p old || t) (or-false (p m))

  or_three : (a b c : Bool) → ((a || b) || c) ≡ (a || (b || c))
  or_three true b c = refl
  or_three false b c = refl

  once_all : (ms old : List Message) → list_any p (fold once_more old ms) ≡ (list_any p old || list_any p ms)
  once_all [] old = sym (or-false (list_any p old))
  once_all (m ∷ ms) old = once_all ms (once_more old m) ∙ ap (λ t. t || list_any p ms) (once_one old m) ∙ or_three (list_any p old) (p m) (list_any p ms)

  any_parts : {X : Type 0} (f g : X → List Message) (xs : List X) → list_any p (flat_map (λ x. f x ++ g x) xs) ≡ (list_any p (flat_map f xs) || list_any p (flat_map g xs))
  any_parts f g [] = refl
  any_parts f g (x ∷ xs) =
      list_any-append p (f x ++ g x) (flat_map (λ y. f y ++ g y) xs) ∙ (λ i. list_any-append p (f x) (g x) i || any_parts f g xs i)
      ∙ turn (list_any p (f x)) (list_any p (g x)) (list_any p (flat_map f xs)) (list_any p (flat_map g xs))
      ∙ sym (λ i. list_any-append p (f x) (flat_map f xs) i || list_any-append p (g x) (flat_map g xs) i)
    where
      turn : (a b c d : Bool) → ((a || b) || (c || d)) ≡ ((a || c) || (b || d))
      turn true b c d = refl
      turn false true true d = refl
      turn false true false d = refl
      turn false false c d = refl

  pub written_any : (seg : Segment) (b : ℕ) (list : List Item) → list_any p (flat_map (λ item. cats_at seg b item ++ rels_at seg b item) list) ≡ list_any p (seg_messages seg b list)
  written_any seg b list = any_parts (cats_at seg b) (rels_at seg b) list
      ∙ sym (list_any-append p (flat_map (cats_at seg b) list) (fold once_more [] (flat_map (rels_at seg b) list)) ∙ ap (λ t. list_any p (flat_map (cats_at seg b) list) || t) (once_all (flat_map (rels_at seg b) list) []))

and_turned : (a b : Bool) → (a && b) ≡ (b && a)
and_turned true true = refl
and_turned true false = refl
and_turned false true = refl
and_turned false false = refl

none_kept : (vs : List Version) → filter (λ v. false) vs ≡ []
none_kept [] = refl
none_kept (v ∷ vs) = none_kept vs

module _ (seg : Segment) (b : ℕ) (store : Store) (s : Standing) (m : Mirrors seg b store (xid_in s.running)) (drawn : AllByRecursion (AreDrawn (seg.last_xid)) (seg.versions)) where
  same_row_with : (key : RowKey) → row_of_key store key (reader_at s) ≡ row_at seg b key
  same_row_with key = row_same seg b store (reader_at s) m.versions (reads_same seg b (seg.last_xid) store s m drawn) key

  covered_is : (list : List Item) (scan : Purpose) → is_covered (flat_map (messages_at store (reader_at s)) list) scan ≡ is_covered (seg_messages seg b list) scan
  covered_is list scan = ap (list_any (covers scan)) (messages_same seg b store (reader_at s) same_row_with list) ∙ written_any (covers scan) seg b list

  keyed_is : (key : RowKey) → rows_with_key store key (reader_at s) ≡ map (λ v. v.row) (filter (λ v. same_key (key_of v.row) key && sees_at seg b v) (seg.versions))
  keyed_is key =
      ap (λ vs. map (λ (v : Version). v.row) (filter (λ v. sees_version (has_committed store.committed) (reader_at s) v && same_key (key_of v.row) key) vs)) m.versions
      ∙ ap (map (λ (v : Version). v.row)) (filter_each (λ v. sees_version (has_committed store.committed) (reader_at s) v && same_key (key_of v.row) key) (λ v. same_key (key_of v.row) key && sees_at seg b v) (seg.versions)
      (every-weaker (λ v. sees_version (has_committed store.committed) (reader_at s) v ≡ sees_at seg b v) (λ v. (sees_version (has_committed store.committed) (reader_at s) v && same_key (key_of v.row) key) ≡ (same_key (key_of v.row) key && sees_at seg b v))
      (λ v same. ap (λ t. t && same_key (key_of v.row) key) same ∙ and_turned (sees_at seg b v) (same_key (key_of v.row) key)) (seg.versions) (reads_same seg b (seg.last_xid) store s m drawn)))

  ended_is : (item : Item) → rows_ended store (reader_at s) item ≡ map (λ v. v.row) (filter (ends_at seg b item) (seg.versions))
  ended_is (Add row) = sym (ap (map (λ (v : Version). v.row)) (none_kept (seg.versions)))
  ended_is (Put row) = keyed_is (key_of row)
  ended_is (Remove key) = keyed_is key
  ended_is (Force rel) = sym (ap (map (λ (v : Version). v.row)) (none_kept (seg.versions)))

  answer_is : (c : ℕ) (xid : Xid) (list : List Item) (scan : Purpose) → xid.0 ≡ xid_at seg b → are_distinct_keys (flat_map changed_key list) ≡ true → keeps_given store (reader_at s) list scan ≡ keeps_at seg b c xid list scan
  answer_is c xid list scan is distinct = (λ i. same_rows (map (counted_for scan) (scan_is_answer seg b (seg.last_xid) store s scan m drawn i)) (map (counted_for scan) (after i)))
    where
      after : fold (given_after scan) (rows_of_scan store scan (reader_at s)) list ≡ answer_at (after_event seg b c (Write xid list)) b scan
      after = ap (λ given. fold (given_after scan) given list) (scan_is_answer seg b (seg.last_xid) store s scan m drawn) ∙ all_given scan (rows_at seg b) list
          ∙ ap (scan_of scan) (sym (rows_written seg b c xid list store (xid_in s.running) m drawn is distinct))

  scan_is : (c : ℕ) (xid : Xid) (list : List Item) (scan : Purpose) → xid.0 ≡ xid_at seg b → are_distinct_keys (flat_map changed_key list) ≡ true
      → covers_scan store (reader_at s) (flat_map (messages_at store (reader_at s)) list) list scan ≡ (is_covered (seg_messages seg b list) scan || keeps_at seg b c xid list scan)
  scan_is c xid list scan is distinct = λ i. covered_is list scan i || answer_is c xid list scan is distinct i

  -- what is asked of all scans that a write changes
  pub covers_is : (c : ℕ) (xid : Xid) (list : List Item) → xid.0 ≡ xid_at seg b → are_distinct_keys (flat_map changed_key list) ≡ true
      → list_all (covers_item store (reader_at s) (flat_map (messages_at store (reader_at s)) list) list) list ≡ covers_at seg b c xid list
  covers_is c xid list is distinct =
      all_same (covers_item store (reader_at s) (flat_map (messages_at store (reader_at s)) list) list) (λ item. list_all (λ scan. is_covered (seg_messages seg b list) scan || keeps_at seg b c xid list scan) (flat_map scans_of (changed_at seg b item))) item_is list
      ∙ sym (all_flat (λ scan. is_covered (seg_messages seg b list) scan || keeps_at seg b c xid list scan) (λ item. flat_map scans_of (changed_at seg b item)) list)
    where
      row_is : (row : Row) → covers_row store (reader_at s) (flat_map (messages_at store (reader_at s)) list) list row ≡ list_all (λ scan. is_covered (seg_messages seg b list) scan || keeps_at seg b c xid list scan) (scans_of row)
      row_is row = all_same (covers_scan store (reader_at s) (flat_map (messages_at store (reader_at s)) list) list) (λ scan. is_covered (seg_messages seg b list) scan || keeps_at seg b c xid list scan) (λ scan. scan_is c xid list scan is distinct) (scans_of row)

      added_is : (o : Option Row) → option_map_or (covers_row store (reader_at s) (flat_map (messages_at store (reader_at s)) list) list) o true ≡ list_all (λ row. list_all (λ scan. is_covered (seg_messages seg b list) scan || keeps_at seg b c xid list scan) (scans_of row)) (option_map_or (λ row. row ∷ []) o [])
      added_is None = refl
      added_is (Some row) = row_is row ∙ sym (and_right (list_all (λ scan. is_covered (seg_messages seg b list) scan || keeps_at seg b c xid list scan) (scans_of row)))
        where
          and_right : (t : Bool) → (t && true) ≡ t
          and_right true = refl
          and_right false = refl

      item_is : (item : Item) → covers_item store (reader_at s) (flat_map (messages_at store (reader_at s)) list) list item ≡ list_all (λ scan. is_covered (seg_messages seg b list) scan || keeps_at seg b c xid list scan) (flat_map scans_of (changed_at seg b item))
      item_is item =
          (λ i. (all_same (covers_row store (reader_at s) (flat_map (messages_at store (reader_at s)) list) list) (λ row. list_all (λ scan. is_covered (seg_messages seg b list) scan || keeps_at seg b c xid list scan) (scans_of row)) row_is (rows_ended store (reader_at s) item)
          ∙ ap (list_all (λ row. list_all (λ scan. is_covered (seg_messages seg b list) scan || keeps_at seg b c xid list scan) (scans_of row))) (ended_is item)) i && added_is (added_row item) i)
          ∙ sym (list_all-append (λ row. list_all (λ scan. is_covered (seg_messages seg b list) scan || keeps_at seg b c xid list scan) (scans_of row)) (map (λ v. v.row) (filter (ends_at seg b item) (seg.versions))) (option_map_or (λ row. row ∷ []) (added_row item) []))
          ∙ sym (all_flat (λ scan. is_covered (seg_messages seg b list) scan || keeps_at seg b c xid list scan) scans_of (changed_at seg b item))
