-- The rows that a writer sees after its write.
use Rattle.std.proofs.Common.{◌≡◌, ◌∙◌, ◌||◌, ◌&&◌, ℕ, Bool, true, false, not, cond, Option, Some, None, List, [], ◌∷◌, ◌++◌, map, filter, fold, if◌then◌else◌, refl, sym, ap, append-nil}
use Rattle.std.specs.List.{AllByRecursion, flat_map}
use Rattle.std.specs.Option.{option_map_or}
use Rattle.std.proofs.Math.Bool.{or-false, or-true}
use Rattle.std.proofs.lemmas.Bool.{eq-eqb}
use Rattle.std.proofs.lemmas.List.{map-append}
use Rattle.std.proofs.lemmas.List.Elements.{filter-append}
use Rattle.base_types.specs.RowKeys.{key_of, same_key, are_distinct_keys}
use Rattle.row_visibility.specs.Seen.{seen_by}
use Rattle.catalog_rows.specs.Store as stores
use Rattle.catalog_rows.specs.Store.{Store, has_committed, after_change, end_if, is_ended, new_version, option_items}
use Rattle.history_model.proofs.Every.{every-weaker}
use Rattle.history_model.specs.After.{after_event, standing_after}
use Rattle.history_model.proofs.Touched.{stamps-weaker}
use Rattle.history_model.specs.Segment.{Standing, Segment, xid_at, has_xid}
use Rattle.history_model.specs.Rows.{counts_at, sees_at, rows_at, change_at}
use Rattle.history_model.specs.Changing.{changed_key}
use Rattle.segment_rows.specs.Types.{Xid, Row, Change, Insert, Replace, Delete, Item, Add, Put, Remove, Force, Write, Stamp, Version}
use Rattle.segment_rows.specs.Kept.{AreDrawn, IsDrawn}
use Rattle.segment_rows.specs.Words.{changes_in}
use Rattle.segment_rows.proofs.Mirrors.{Mirrors, filter_each, version_same}
use Rattle.segment_rows.proofs.RowsAfter.{counts_same, versions_written}
use Rattle.segment_rows.proofs.ScanChanges.{rows_changed_by}

-- the rows after a change of the store
abbrev rows_after : List Row → Change → List Row
rows_after rows change = filter (λ row. not (option_map_or (same_key (key_of row)) (stores.ended_key change) false)) rows ++ option_items (stores.added_row change)

module _ (committed : List Bool) (stamp : Stamp) where
  own_stamp : stores.counts committed (Some stamp.xid) stamp ≡ true
  own_stamp = ap (λ t. has_committed committed stamp.xid.0 || t) (eq-eqb stamp.xid.0 stamp.xid.0 refl) ∙ or-true (has_committed committed stamp.xid.0)

  -- what it ends it sees no more
  ended_unseen : (v : Version) → seen_by (stores.counts committed (Some stamp.xid)) (record { row = v.row; by = v.by; ended = Some stamp }) ≡ false
  ended_unseen v = ap (λ t. stores.counts committed (Some stamp.xid) v.by && not t) own_stamp ∙ no_more (stores.counts committed (Some stamp.xid) v.by)
    where
      no_more : (t : Bool) → (t && false) ≡ false
      no_more true = refl
      no_more false = refl

  old_rows : (k : Row → Bool) (vs : List Version) → map (λ v. v.row) (filter (λ v. seen_by (stores.counts committed (Some stamp.xid)) v) (map (end_if (λ v. k v.row && seen_by (stores.counts committed (Some stamp.xid)) v) stamp) vs)) ≡ filter (λ row. not (k row)) (map (λ v. v.row) (filter (λ v. seen_by (stores.counts committed (Some stamp.xid)) v) vs))
  old_rows k [] = refl
  old_rows k (v ∷ vs) = by (k v.row) refl (seen_by (stores.counts committed (Some stamp.xid)) v) refl (old_rows k vs)
    where
      later : List Version
      later = filter (λ w. seen_by (stores.counts committed (Some stamp.xid)) w) (map (end_if (λ w. k w.row && seen_by (stores.counts committed (Some stamp.xid)) w) stamp) vs)

      one : (w : Version) (t : Bool) → seen_by (stores.counts committed (Some stamp.xid)) w ≡ t → map (λ x. x.row) (cond (seen_by (stores.counts committed (Some stamp.xid)) w) (w ∷ later) later) ≡ map (λ x. x.row) (cond t (w ∷ later) later)
      one w t is = ap (λ b. map (λ x. x.row) (cond b (w ∷ later) later)) is

      given : Bool → List Row
      given b = filter (λ row. not (k row)) (map (λ w. w.row) (cond b (v ∷ filter (λ w. seen_by (stores.counts committed (Some stamp.xid)) w) vs) (filter (λ w. seen_by (stores.counts committed (Some stamp.xid)) w) vs)))

      by : (s : Bool) → k v.row ≡ s → (t : Bool) → seen_by (stores.counts committed (Some stamp.xid)) v ≡ t → map (λ w. w.row) later ≡ filter (λ row. not (k row)) (map (λ w. w.row) (filter (λ w. seen_by (stores.counts committed (Some stamp.xid)) w) vs))
          → map (λ w. w.row) (filter (λ w. seen_by (stores.counts committed (Some stamp.xid)) w) (map (end_if (λ w. k w.row && seen_by (stores.counts committed (Some stamp.xid)) w) stamp) (v ∷ vs))) ≡ given (seen_by (stores.counts committed (Some stamp.xid)) v)
      by true ks true ss rest =
          ap (λ b. map (λ w. w.row) (filter (λ w. seen_by (stores.counts committed (Some stamp.xid)) w) ((elim b [ true ↦ record { row = v.row; by = v.by; ended = Some stamp } | false ↦ v ]) ∷ map (end_if (λ w. k w.row && seen_by (stores.counts committed (Some stamp.xid)) w) stamp) vs))) (λ i. ks i && ss i)
          ∙ one (record { row = v.row; by = v.by; ended = Some stamp }) false (ended_unseen v) ∙ rest
          ∙ sym (ap given ss ∙ ap (λ b. cond (not b) (v.row ∷ filter (λ row. not (k row)) (map (λ w. w.row) (filter (λ w. seen_by (stores.counts committed (Some stamp.xid)) w) vs))) (filter (λ row. not (k row)) (map (λ w. w.row) (filter (λ w. seen_by (stores.counts committed (Some stamp.xid)) w) vs)))) ks)
      by true ks false ss rest =
          ap (λ b. map (λ w. w.row) (filter (λ w. seen_by (stores.counts committed (Some stamp.xid)) w) ((elim b [ true ↦ record { row = v.row; by = v.by; ended = Some stamp } | false ↦ v ]) ∷ map (end_if (λ w. k w.row && seen_by (stores.counts committed (Some stamp.xid)) w) stamp) vs))) (λ i. ks i && ss i)
          ∙ one v false ss ∙ rest ∙ sym (ap given ss)
      by false ks true ss rest =
          ap (λ b. map (λ w. w.row) (filter (λ w. seen_by (stores.counts committed (Some stamp.xid)) w) ((elim b [ true ↦ record { row = v.row; by = v.by; ended = Some stamp } | false ↦ v ]) ∷ map (end_if (λ w. k w.row && seen_by (stores.counts committed (Some stamp.xid)) w) stamp) vs))) (λ i. ks i && ss i)
          ∙ one v true ss ∙ ap (λ l. v.row ∷ l) rest
          ∙ sym (ap given ss ∙ ap (λ b. cond (not b) (v.row ∷ filter (λ row. not (k row)) (map (λ w. w.row) (filter (λ w. seen_by (stores.counts committed (Some stamp.xid)) w) vs))) (filter (λ row. not (k row)) (map (λ w. w.row) (filter (λ w. seen_by (stores.counts committed (Some stamp.xid)) w) vs)))) ks)
      by false ks false ss rest =
          ap (λ b. map (λ w. w.row) (filter (λ w. seen_by (stores.counts committed (Some stamp.xid)) w) ((elim b [ true ↦ record { row = v.row; by = v.by; ended = Some stamp } | false ↦ v ]) ∷ map (end_if (λ w. k w.row && seen_by (stores.counts committed (Some stamp.xid)) w) stamp) vs))) (λ i. ks i && ss i)
          ∙ one v false ss ∙ rest ∙ sym (ap given ss)

  new_rows : (change : Change) → map (λ v. v.row) (filter (λ v. seen_by (stores.counts committed (Some stamp.xid)) v) (option_items (new_version stamp change))) ≡ option_items (stores.added_row change)
  new_rows (Insert row) = ap (λ t. map (λ (v : Version). v.row) (cond (t && true) (record { row = row; by = stamp; ended = None } ∷ []) [])) own_stamp
  new_rows (Replace row) = ap (λ t. map (λ (v : Version). v.row) (cond (t && true) (record { row = row; by = stamp; ended = None } ∷ []) [])) own_stamp
  new_rows (Delete key) = refl

  -- the rows that the writer sees after a change, and after all
  change_seen : (vs : List Version) (change : Change) → map (λ v. v.row) (filter (λ v. seen_by (stores.counts committed (Some stamp.xid)) v) (after_change committed stamp vs change)) ≡ rows_after (map (λ v. v.row) (filter (λ v. seen_by (stores.counts committed (Some stamp.xid)) v) vs)) change
  change_seen vs change =
      ap (map (λ v. v.row)) (filter-append (λ v. seen_by (stores.counts committed (Some stamp.xid)) v) (map (end_if (is_ended committed stamp change) stamp) vs) (option_items (new_version stamp change)))
      ∙ map-append (λ v. v.row) (filter (λ v. seen_by (stores.counts committed (Some stamp.xid)) v) (map (end_if (is_ended committed stamp change) stamp) vs)) (filter (λ v. seen_by (stores.counts committed (Some stamp.xid)) v) (option_items (new_version stamp change)))
      ∙ (λ i. old_rows (λ row. option_map_or (same_key (key_of row)) (stores.ended_key change) false) vs i ++ new_rows change i)

  pub changes_seen : (vs : List Version) (changes : List Change) → map (λ v. v.row) (filter (λ v. seen_by (stores.counts committed (Some stamp.xid)) v) (fold (after_change committed stamp) vs changes)) ≡ fold rows_after (map (λ v. v.row) (filter (λ v. seen_by (stores.counts committed (Some stamp.xid)) v) vs)) changes
  changes_seen vs [] = refl
  changes_seen vs (change ∷ changes) = changes_seen (after_change committed stamp vs change) changes ∙ ap (λ rows. fold rows_after rows changes) (change_seen vs change)

filter_true : (rows : List Row) → filter (λ row. true) rows ≡ rows
filter_true [] = refl
filter_true (row ∷ rows) = ap (λ l. row ∷ l) (filter_true rows)

-- by the items
items_seen : (rows : List Row) (list : List Item) → fold rows_after rows (changes_in list) ≡ fold rows_changed_by rows list
items_seen rows [] = refl
items_seen rows (Add row ∷ list) = items_seen (rows_changed_by rows (Add row)) list
items_seen rows (Put row ∷ list) = items_seen (rows_changed_by rows (Put row)) list
items_seen rows (Remove key ∷ list) = items_seen (rows_changed_by rows (Remove key)) list
items_seen rows (Force rel ∷ list) = items_seen rows list ∙ ap (λ rs. fold rows_changed_by rs list) (sym (append-nil (filter (λ row. true) rows) ∙ filter_true rows))

-- so the rows that the backend sees after its write
pub rows_written : (seg : Segment) (b c : ℕ) (xid : Xid) (list : List Item) (store : Store) (own : Option Xid) → Mirrors seg b store own → AllByRecursion (AreDrawn (seg.last_xid)) (seg.versions) → xid.0 ≡ xid_at seg b → are_distinct_keys (flat_map changed_key list) ≡ true
    → rows_at (after_event seg b c (Write xid list)) b ≡ fold rows_changed_by (rows_at seg b) list
rows_written seg b c xid list store own m drawn is distinct =
    (λ i. map (λ v. v.row) (filter (λ v. sees_is v i) (versions_are i)))
    ∙ changes_seen store.committed stamp store.versions (changes_in list)
    ∙ (λ i. items_seen (map (λ v. v.row) (before i)) list i)
  where
    stamp : Stamp
    stamp = record { xid = xid; command = c }

    after : Segment
    after = after_event seg b c (Write xid list)

    own_standing : after.standing b ≡ standing_after seg b c (Write xid list)
    own_standing = ap (λ t. if t then standing_after seg b c (Write xid list) else seg.standing b) (eq-eqb b b refl)

    counts_is : (s : Stamp) → counts_at after b s ≡ stores.counts store.committed (Some xid) s
    counts_is s = λ i. (or-false (seg.committed s.xid.0) ∙ sym (m.committed s.xid.0)) i || ap (λ (own : Standing). has_xid s.xid.0 own.running) own_standing i

    sees_is : (v : Version) → sees_at after b v ≡ seen_by (stores.counts store.committed (Some xid)) v
    sees_is v = ap (λ (test : Stamp → Bool). seen_by test v) (λ i s. counts_is s i)

    versions_are : after.versions ≡ fold (after_change store.committed stamp) store.versions (changes_in list)
    versions_are = sym (versions_written seg b c xid list store drawn m.versions m.committed is distinct ∙ ap (λ vs. fold (change_at seg b stamp) vs list) m.versions)

    before : filter (λ v. seen_by (stores.counts store.committed (Some xid)) v) store.versions ≡ filter (sees_at seg b) (seg.versions)
    before = ap (filter (λ v. seen_by (stores.counts store.committed (Some xid)) v)) m.versions
        ∙ filter_each (λ v. seen_by (stores.counts store.committed (Some xid)) v) (sees_at seg b) (seg.versions)
        (every-weaker (AreDrawn (seg.last_xid)) (λ v. seen_by (stores.counts store.committed (Some xid)) v ≡ sees_at seg b v)
        (λ v of. version_same (stores.counts store.committed (Some xid)) (counts_at seg b) v (stamps-weaker (λ s row. IsDrawn (seg.last_xid) s) (λ s row. stores.counts store.committed (Some xid) s ≡ counts_at seg b s) (λ s row one. counts_same seg b store.committed xid s m.committed is one.xid) v of))
        (seg.versions) drawn)
