-- The clash that is found in the rows that are kept is the refusal of the first new name that is taken.
use Rattle.std.proofs.Common.{◌≡◌, ◌∙◌, ◌&&◌, ◌||◌, ℕ, Bool, true, false, not, Option, Some, None, List, [], ◌∷◌, ◌++◌, map, filter, find, cond, if◌then◌else◌, refl, sym, ap, subst}
use Rattle.std.specs.List.{flat_map}
use Rattle.std.specs.Option.{option_map, option_map_or, option_or}
use Rattle.std.proofs.lemmas.Bool.{or_parts}
use Rattle.std.proofs.lemmas.Grind.{flat_map-append}
use Rattle.base_types.specs.Scans.{selects}
use Rattle.base_types.specs.declared.ids.Oid.{Oid}
use Rattle.base_types.specs.declared.ids.Xid.{Xid}
use Rattle.base_types.specs.declared.row.Row.{Row}
use Rattle.base_types.specs.declared.row.Row.TheVariants as rows
use Rattle.base_types.specs.declared.scan.Purpose.TheVariants.{RelName}
use Rattle.event_kinds.specs.declared.entry.Entry.{Entry}
use Rattle.event_kinds.specs.declared.entry.Event.TheVariants.{ClashRow, ClashRunning}
use Rattle.event_kinds.specs.declared.entry.Item.{Item}
use Rattle.row_visibility.specs.Seen.{seen_by}
use Rattle.row_visibility.specs.declared.clash.Clash.{Clash}
use Rattle.row_visibility.specs.declared.clash.Clash.TheVariants as clashes
use Rattle.row_visibility.specs.declared.version.Stamp.{Stamp}
use Rattle.row_visibility.specs.declared.version.Version.{Version}
use Rattle.catalog_rows.specs.Store as stores
use Rattle.catalog_rows.specs.Store.{Store, clash_of, clash_by, row_clash, relation_of, claimant_of, is_claimed, is_running_other}
use Rattle.history_model.specs.After.{segment_of}
use Rattle.history_model.specs.InUse.{has_name, others_at, over_at}
use Rattle.history_model.specs.Names.{users_of}
use Rattle.history_model.specs.Rows.{sees_at}
use Rattle.history_model.specs.Segment.{Segment, runs_at}
use Rattle.history_model.specs.Versions.{answer_of}
use Rattle.history_model.proofs.FoundByName.{found_last}
use Rattle.segment_rows.proofs.Mirrors.{Mirrors, stamp_counts, version_counts, named_same, selects_same, users_none}
use Rattle.seg_calls.specs.Calls.{refused_name, first_refused}
use Rattle.seg_calls.proofs.Refused.{refused_past}
use Rattle.shared_seg.specs.declared.naming.Taken.{Taken}
use Rattle.shared_seg.specs.Naming.{new_name_of, clash_event_of, clash_with, IsTaken}
use Rattle.shared_seg.proofs.Clashes.{each_free, flat_free}

-- the rows that a scan of a name gives come as their versions do
first_row : (seg : Segment) (b : ℕ) (store : Store) (own : Option Xid) → Mirrors seg b store own → (name : List ℕ) (versions : List Version) (v : Version) (rel : Oid)
    → find (λ x. stores.is_named name x.row && seen_by (stores.counts store.committed own) x) versions ≡ Some v → relation_of v.row ≡ Some rel
    → refused_name name [] (filter (selects (RelName name)) (map (λ x. x.row) (filter (sees_at seg b) versions))) ≡ Some (ClashRow name rel)
first_row seg b store own m name [] v rel found of = absurd (cc found)
first_row seg b store own m name (x ∷ versions) v rel found of = by_tests (stores.is_named name x.row) refl (sees_at seg b x) refl (first_row seg b store own m name versions v rel)
  where
    Goal : Type 0
    Goal = refused_name name [] (filter (selects (RelName name)) (map (λ y. y.row) (filter (sees_at seg b) (x ∷ versions)))) ≡ Some (ClashRow name rel)

    later : List Version
    later = filter (sees_at seg b) versions

    given : List Row → List Row
    given more = filter (selects (RelName name)) more

    found_so : (s t : Bool) → stores.is_named name x.row ≡ s → sees_at seg b x ≡ t → cond (s && t) (Some x) (find (λ y. stores.is_named name y.row && seen_by (stores.counts store.committed own) y) versions) ≡ Some v
    found_so s t named sees = sym (λ i. cond (named i && (version_counts seg b store own m x ∙ sees) i) (Some x) (find (λ y. stores.is_named name y.row && seen_by (stores.counts store.committed own) y) versions)) ∙ found

    by_row : (row : Row) → relation_of row ≡ Some rel → (more : List Row) → refused_name name [] (row ∷ more) ≡ Some (ClashRow name rel)
    by_row (rows.Class oid own' kind fill) is more = let same : oid ≡ rel = cc is in ap (λ o. Some (ClashRow name o)) same
    by_row (rows.Att a c d e f g) is more = absurd (cc is)
    by_row (rows.Def a c d e) is more = absurd (cc is)
    by_row (rows.Ind a c d e) is more = absurd (cc is)
    by_row (rows.Con a c d e f) is more = absurd (cc is)
    by_row (rows.Trg a c d e) is more = absurd (cc is)

    listed : (s t : Bool) → stores.is_named name x.row ≡ s → sees_at seg b x ≡ t → filter (selects (RelName name)) (map (λ y. y.row) (filter (sees_at seg b) (x ∷ versions))) ≡ given (map (λ y. y.row) (cond t (x ∷ later) later))
    listed s t named sees = ap (λ u. given (map (λ y. y.row) (cond u (x ∷ later) later))) sees

    shown : (s : Bool) → stores.is_named name x.row ≡ s → given (map (λ y. y.row) (x ∷ later)) ≡ cond s (x.row ∷ given (map (λ y. y.row) later)) (given (map (λ y. y.row) later))
    shown s named = ap (λ u. cond u (x.row ∷ given (map (λ y. y.row) later)) (given (map (λ y. y.row) later))) (sym (selects_same name x.row) ∙ named)

    by_tests : (s : Bool) → stores.is_named name x.row ≡ s → (t : Bool) → sees_at seg b x ≡ t
        → (find (λ y. stores.is_named name y.row && seen_by (stores.counts store.committed own) y) versions ≡ Some v → relation_of v.row ≡ Some rel → refused_name name [] (given (map (λ y. y.row) later)) ≡ Some (ClashRow name rel)) → Goal
    by_tests true named true sees rest =
        let same : x ≡ v = (let is : Some x ≡ Some v = found_so true true named sees in cc is) in
        ap (refused_name name []) (listed true true named sees ∙ shown true named) ∙ by_row x.row (ap (λ (y : Version). relation_of y.row) same ∙ of) (given (map (λ y. y.row) later))
    by_tests false named true sees rest = ap (refused_name name []) (listed false true named sees ∙ shown false named) ∙ rest (found_so false true named sees) of
    by_tests true named false sees rest = ap (refused_name name []) (listed true false named sees) ∙ rest (found_so true false named sees) of
    by_tests false named false sees rest = ap (refused_name name []) (listed false false named sees) ∙ rest (found_so false false named sees) of

not-or : (x y : Bool) → not (x || y) ≡ (not x && not y)
not-or true y = refl
not-or false y = refl

-- another's running stamp is one in both
stamp_runs : (seg : Segment) (b : ℕ) (store : Store) (own : Option Xid) → Mirrors seg b store own → (s : Stamp) → others_at seg b s ≡ is_running_other store.committed own s
stamp_runs seg b store own m s = sym (ap not (stamp_counts seg b store own m s) ∙ not-or (seg.committed s.xid.0) (runs_at seg b s.xid.0))

-- who a version is claimed by comes first among those who have its name in use
module _ (seg : Segment) (b : ℕ) (store : Store) (own : Option Xid) (m : Mirrors seg b store own) (name : List ℕ) (seen : List Row) where
  abbrev runs : Stamp → Bool
  runs = is_running_other store.committed own

  abbrev listed_by : Bool → Stamp → List ℕ
  listed_by t s = if t then s.xid.0 ∷ [] else []

  -- of one version
  over_is : (x : Version) → over_at seg b x ≡ flat_map (λ s. listed_by (runs s) s) (x.by ∷ option_map_or (λ s. s ∷ []) x.ended [])
  over_is x = λ i. flat_map (λ s. listed_by (stamp_runs seg b store own m s i) s) (x.by ∷ option_map_or (λ s. s ∷ []) x.ended [])

  by_stamps : (t : Bool) (by : Stamp) (ended : Option Stamp) (rest : List ℕ) → (t || option_map_or runs ended false) ≡ true
      → refused_name name ((listed_by t by ++ flat_map (λ s. listed_by (runs s) s) (option_map_or (λ s. s ∷ []) ended [])) ++ rest) seen ≡ Some (ClashRunning name (if t then by.xid else option_map_or (λ s. s.xid) ended by.xid))
  by_stamps true by ended rest claimed = refl
  by_stamps false by None rest claimed = absurd (cc claimed)
  by_stamps false by (Some s) rest claimed = ap (λ t. refused_name name ((listed_by t s ++ []) ++ rest) seen) claimed

  no_stamps : (x : Version) → is_claimed store.committed own x ≡ false → over_at seg b x ≡ []
  no_stamps x none = over_is x ∙ (λ i. listed_by (parts.0 i) x.by ++ ended x.ended parts.1 i)
    where
      parts : (runs x.by ≡ false) × (option_map_or runs x.ended false ≡ false)
      parts = or_parts _ _ none

      ended : (o : Option Stamp) → option_map_or runs o false ≡ false → flat_map (λ s. listed_by (runs s) s) (option_map_or (λ s. s ∷ []) o []) ≡ []
      ended None is = refl
      ended (Some s) is = ap (λ t. listed_by t s ++ []) is

  first_user : (versions : List Version) (v : Version) → find (λ x. stores.is_named name x.row && is_claimed store.committed own x) versions ≡ Some v
      → refused_name name (flat_map (over_at seg b) (filter (λ x. has_name name x.row) versions)) seen ≡ Some (ClashRunning name (claimant_of store.committed own v))
  first_user [] v found = absurd (cc found)
  first_user (x ∷ versions) v found = by_tests (stores.is_named name x.row) refl (is_claimed store.committed own x) refl (first_user versions v)
    where
      more : List Version
      more = filter (λ y. has_name name y.row) versions

      found_so : (s t : Bool) → stores.is_named name x.row ≡ s → is_claimed store.committed own x ≡ t → cond (s && t) (Some x) (find (λ y. stores.is_named name y.row && is_claimed store.committed own y) versions) ≡ Some v
      found_so s t named claimed = sym (λ i. cond (named i && claimed i) (Some x) (find (λ y. stores.is_named name y.row && is_claimed store.committed own y) versions)) ∙ found

      listed : (s : Bool) → stores.is_named name x.row ≡ s → flat_map (over_at seg b) (filter (λ y. has_name name y.row) (x ∷ versions)) ≡ flat_map (over_at seg b) (cond s (x ∷ more) more)
      listed s named = ap (λ t. flat_map (over_at seg b) (cond t (x ∷ more) more)) (sym (named_same name x.row) ∙ named)

      by_tests : (s : Bool) → stores.is_named name x.row ≡ s → (t : Bool) → is_claimed store.committed own x ≡ t
          → (find (λ y. stores.is_named name y.row && is_claimed store.committed own y) versions ≡ Some v → refused_name name (flat_map (over_at seg b) more) seen ≡ Some (ClashRunning name (claimant_of store.committed own v)))
          → refused_name name (flat_map (over_at seg b) (filter (λ y. has_name name y.row) (x ∷ versions))) seen ≡ Some (ClashRunning name (claimant_of store.committed own v))
      by_tests true named true claimed rest =
          let same : x ≡ v = (let is : Some x ≡ Some v = found_so true true named claimed in cc is) in
          ap (λ l. refused_name name l seen) (listed true named ∙ ap (λ l. l ++ flat_map (over_at seg b) more) (over_is x))
          ∙ by_stamps (runs x.by) x.by x.ended (flat_map (over_at seg b) more) claimed ∙ ap (λ (y : Version). Some (ClashRunning name (claimant_of store.committed own y))) same
      by_tests true named false claimed rest = ap (λ l. refused_name name l seen) (listed true named ∙ ap (λ l. l ++ flat_map (over_at seg b) more) (no_stamps x claimed)) ∙ rest (found_so true false named claimed)
      by_tests false named true claimed rest = ap (λ l. refused_name name l seen) (listed false named) ∙ rest (found_so false true named claimed)
      by_tests false named false claimed rest = ap (λ l. refused_name name l seen) (listed false named) ∙ rest (found_so false false named claimed)

-- so a clash is the refusal of its name
clash_refuses : (history : List Entry) (b : ℕ) (store : Store) (own : Option Xid) → Mirrors (segment_of history) b store own → (name : List ℕ) (clash : Clash) → clash_of store own name ≡ Some clash
    → refused_name name (users_of history b name) (answer_of history b (RelName name)) ≡ Some (clash_event_of name clash)
clash_refuses history b store own m name clash is = by_claim (stores.claimed_version store own name) refl is
  where
    seg : Segment
    seg = segment_of history

    Goal : Clash → Type 0
    Goal k = refused_name name (users_of history b name) (answer_of history b (RelName name)) ≡ Some (clash_event_of name k)

    by_relation : (v : Version) (o : Option Oid) → stores.standing_version store own name ≡ Some v → stores.claimed_version store own name ≡ None → relation_of v.row ≡ o → option_map clashes.Row o ≡ Some clash → Goal clash
    by_relation v None at none of some = absurd (cc some)
    by_relation v (Some rel) at none of some =
        let same : clashes.Row rel ≡ clash = cc some in
        subst Goal same (ap (λ l. refused_name name l (answer_of history b (RelName name))) (users_none seg b store own m name none)
        ∙ ap (refused_name name []) (found_last (RelName name) (λ row x. refl) [] (filter (selects (RelName name)) (map (λ v. v.row) (filter (sees_at seg b) seg.versions))))
        ∙ first_row seg b store own m name seg.versions v rel (ap (find (λ x. stores.is_named name x.row && seen_by (stores.counts store.committed own) x)) (sym m.versions) ∙ at) of)

    by_row : (standing : Option Version) → stores.standing_version store own name ≡ standing → stores.claimed_version store own name ≡ None → row_clash standing ≡ Some clash → Goal clash
    by_row None at none some = absurd (cc some)
    by_row (Some v) at none some = by_relation v (relation_of v.row) at none refl some

    by_claim : (claimed : Option Version) → stores.claimed_version store own name ≡ claimed → clash_by store.committed own claimed (stores.standing_version store own name) ≡ Some clash → Goal clash
    by_claim None none some = by_row (stores.standing_version store own name) refl none some
    by_claim (Some v) at some =
        let same : clashes.Running (claimant_of store.committed own v) ≡ clash = cc some in
        subst Goal same (first_user seg b store own m name (answer_of history b (RelName name)) seg.versions v (ap (find (λ x. stores.is_named name x.row && is_claimed store.committed own x)) (sym m.versions) ∙ at))

-- and the first name that is taken is refused
pub taken_refused : (history : List Entry) (b : ℕ) (store : Store) (own : Option Xid) → Mirrors (segment_of history) b store own → (items : List Item) (taken : Taken) → IsTaken store own items taken → first_refused history b (flat_map (new_name_of store own) items) ≡ Some (clash_with taken)
taken_refused history b store own m items taken at =
    ap (λ l. first_refused history b (flat_map f l)) at.parts
    ∙ ap (first_refused history b) (flat_map-append f at.before (at.item ∷ at.after))
    ∙ refused_past history b (flat_map f at.before) (f at.item ++ flat_map f at.after) (each_free history b store own m (flat_map f at.before) (flat_free store own at.before at.free))
    ∙ ap (λ l. first_refused history b (l ++ flat_map f at.after)) at.by.is_new
    ∙ ap (λ o. option_or o (first_refused history b (flat_map f at.after))) (clash_refuses history b store own m taken.name taken.clash at.by.clash)
  where
    f : Item → List (List ℕ)
    f = new_name_of store own
