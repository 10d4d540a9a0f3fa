-- The rows that are kept are those of the segment, as a backend sees them.
use Rattle.std.proofs.Common.{◌≡◌, ◌∙◌, ◌||◌, ◌&&◌, ◌==◌, ℕ, Bool, true, false, not, Option, Some, None, List, [], ◌∷◌, ◌++◌, map, filter, find, cond, is_some, if◌then◌else◌, refl, sym, ap, subst}
use Rattle.std.specs.List.{AllByRecursion, list_any, flat_map}
use Rattle.std.specs.Option.{option_map, option_map_or, IfSome}
use Rattle.std.proofs.lemmas.Bool.{and_from, and_parts, or_parts, eq-eqb, lt-ltb, both_ways}
use Rattle.std.proofs.Math.Bool.{or-true}
use Rattle.std.proofs.lemmas.List.Folds.{list_any-append}
use Rattle.base_types.specs.RowKeys.{key_of, same_key}
use Rattle.base_types.specs.Scans.{scan_of, selects}
use Rattle.base_types.specs.declared.row.Row.TheVariants as rows
use Rattle.row_visibility.specs.declared.clash.Clash.TheVariants as clashes
use Rattle.row_visibility.specs.Seen.{is_own, seen_by, sees_stamp, sees_version}
use Rattle.catalog_rows.specs.Store as stores
use Rattle.catalog_rows.specs.Store.{Store, has_committed, row_of_key, rows_of_scan, clash_of, clash_by, row_clash, relation_of, is_claimed, is_running_other, claimant_of, is_user, is_user_stamp, has_user}
use Rattle.history_model.specs.Segment.{Standing, Segment, runs_at, has_xid}
use Rattle.history_model.specs.Rows.{counts_at, sees_at, answer_at, row_at}
use Rattle.history_model.specs.InUse.{has_name, others_at, over_at, users_at}
use Rattle.history_model.proofs.Every.{any-flat, any-weaker, any-filter, every-weaker}
use Rattle.history_model.proofs.Touched.{OfStamps, stamps-weaker}
use Rattle.segment_rows.specs.Types.{Oid, Xid, Row, RowKey, Purpose, RelName, Reader, Stamp, Version, RunningTransaction}
use Rattle.segment_rows.specs.Kept.{AreDrawn, IsDrawn, reader_at, xid_in}
use Rattle.segment_rows.specs.Words.{is_unused}

-- the stamps of its own transaction are those that a backend runs as
runs_as_own : (r : Option RunningTransaction) (stamp : Stamp) → has_xid stamp.xid.0 r ≡ is_own (xid_in r) stamp
runs_as_own None stamp = refl
runs_as_own (Some t) stamp = refl

pub runs_own : (seg : Segment) (b : ℕ) (running : Option RunningTransaction) (stamp : Stamp) → running ≡ (seg.standing b).running → runs_at seg b stamp.xid.0 ≡ is_own (xid_in running) stamp
runs_own seg b running stamp own = runs_as_own (seg.standing b).running stamp ∙ ap (λ t. is_own (xid_in t) stamp) (sym own)

-- two tests that agree on each element keep the same
pub filter_each : {X : Type 0} (p q : X → Bool) (xs : List X) → AllByRecursion (λ x. p x ≡ q x) xs → filter p xs ≡ filter q xs
filter_each p q [] same = refl
filter_each p q (x ∷ xs) same = λ i. cond (same.0 i) (x ∷ filter_each p q xs same.1 i) (filter_each p q xs same.1 i)

-- a version is seg by the reader where the backend sees it
pub version_same : (p q : Stamp → Bool) (v : Version) → OfStamps (λ s row. p s ≡ q s) v → (p v.by && not (option_map_or p v.ended false)) ≡ (q v.by && not (option_map_or q v.ended false))
version_same p q v same = λ i. same.0 i && not (ended v.ended same.1 i)
  where
    ended : (o : Option Stamp) → IfSome o (λ s. p s ≡ q s) → option_map_or p o false ≡ option_map_or q o false
    ended None held = refl
    ended (Some s) held = held

-- the kept rows are those of the segment, as one backend sees them
pub record Mirrors (seg : Segment) (b : ℕ) (store : Store) (own : Option Xid) : Type 0 where
  pub versions : store.versions ≡ seg.versions
  pub committed : (x : ℕ) → has_committed store.committed x ≡ seg.committed x
  pub own_is : (s : Stamp) → runs_at seg b s.xid.0 ≡ is_own own s

-- a stamp counts in both
pub stamp_counts : (seg : Segment) (b : ℕ) (store : Store) (own : Option Xid) → Mirrors seg b store own → (s : Stamp) → stores.counts store.committed own s ≡ counts_at seg b s
stamp_counts seg b store own m s = λ i. m.committed s.xid.0 i || sym (m.own_is s) i

-- a version counts in both
pub version_counts : (seg : Segment) (b : ℕ) (store : Store) (own : Option Xid) → Mirrors seg b store own → (v : Version) → seen_by (stores.counts store.committed own) v ≡ sees_at seg b v
version_counts seg b store own m v = ap (λ (test : Stamp → Bool). seen_by test v) (λ i s. stamp_counts seg b store own m s i)

-- another's running stamp is one in both
not-or : (x y : Bool) → not (x || y) ≡ (not x && not y)
not-or true y = refl
not-or false y = refl

stamp_others : (seg : Segment) (b : ℕ) (store : Store) (own : Option Xid) → Mirrors seg b store own → (s : Stamp) → is_running_other store.committed own s ≡ others_at seg b s
stamp_others seg b store own m s = ap not (stamp_counts seg b store own m s) ∙ not-or (seg.committed s.xid.0) (runs_at seg b s.xid.0)

-- nothing is found where no element passes, and what is found passes
pub found_none : {X : Type 0} (p : X → Bool) (xs : List X) → find p xs ≡ None → AllByRecursion (λ x. p x ≡ false) xs
found_none p [] none = tt
found_none {X} p (x ∷ xs) none = by_first (p x) refl (found_none p xs)
  where
    by_first : (t : Bool) → p x ≡ t → (find p xs ≡ None → AllByRecursion (λ y. p y ≡ false) xs) → (p x ≡ false) × AllByRecursion (λ y. p y ≡ false) xs
    by_first true is later = let some : Some x ≡ None = sym (ap (λ t. cond t (Some x) (find p xs)) is) ∙ none in absurd (cc)
    by_first false is later = (is, later (sym (ap (λ t. cond t (Some x) (find p xs)) is) ∙ none))

pub found_some : {X : Type 0} (p : X → Bool) (xs : List X) (x : X) → find p xs ≡ Some x → (p x ≡ true) × ((q : X → Bool) → q x ≡ true → list_any q xs ≡ true)
found_some p [] x some = absurd (cc)
found_some {X} p (y ∷ ys) x some = by_first (p y) refl (found_some p ys x)
  where
    by_first : (t : Bool) → p y ≡ t → (find p ys ≡ Some x → (p x ≡ true) × ((q : X → Bool) → q x ≡ true → list_any q ys ≡ true)) → (p x ≡ true) × ((q : X → Bool) → q x ≡ true → (q y || list_any q ys) ≡ true)
    by_first true is later =
        let here : Some y ≡ Some x = sym (ap (λ t. cond t (Some y) (find p ys)) is) ∙ some in
        let same : y ≡ x = cc in
        (subst (λ z. p z ≡ true) same is, λ q at. ap (λ t. t || list_any q ys) (ap q same ∙ at))
    by_first false is later =
        let rest = later (sym (ap (λ t. cond t (Some y) (find p ys)) is) ∙ some) in
        (rest.0, λ q at. ap (λ t. q y || t) (rest.1 q at) ∙ or-true (q y))

-- a relation's row has the name in both
pub named_same : (name : List ℕ) (row : Row) → stores.is_named name row ≡ has_name name row
named_same name (rows.Class oid own kind fill) = refl
named_same name row = refl

pub selects_same : (name : List ℕ) (row : Row) → stores.is_named name row ≡ selects (RelName name) row
selects_same name (rows.Class oid own kind fill) = refl
selects_same name row = refl

over_none : (seg : Segment) (b : ℕ) (store : Store) (own : Option Xid) → Mirrors seg b store own → (v : Version) → is_claimed store.committed own v ≡ false → over_at seg b v ≡ []
over_none seg b store own m v none = λ i. (if by i then v.by.xid.0 ∷ [] else []) ++ ended v.ended parts.1 i
  where
    parts : (is_running_other store.committed own v.by ≡ false) × (option_map_or (is_running_other store.committed own) v.ended false ≡ false)
    parts = or_parts _ _ none

    by : others_at seg b v.by ≡ false
    by = sym (stamp_others seg b store own m v.by) ∙ parts.0

    ended : (o : Option Stamp) → option_map_or (is_running_other store.committed own) o false ≡ false → flat_map (λ s. if others_at seg b s then s.xid.0 ∷ [] else []) (option_map_or (λ s. s ∷ []) o []) ≡ []
    ended None none' = refl
    ended (Some s) none' = λ i. (if (sym (stamp_others seg b store own m s) ∙ none') i then s.xid.0 ∷ [] else []) ++ []

over_some : (seg : Segment) (b : ℕ) (store : Store) (own : Option Xid) → Mirrors seg b store own → (v : Version) → is_claimed store.committed own v ≡ true → list_any (λ user. user == (claimant_of store.committed own v).0) (over_at seg b v) ≡ true
over_some seg b store own m v claimed = by_writer (is_running_other store.committed own v.by) refl claimed
  where
    g : Stamp → List ℕ
    g = λ s. if others_at seg b s then s.xid.0 ∷ [] else []

    rest : List ℕ
    rest = flat_map g (option_map_or (λ s. s ∷ []) v.ended [])

    ender : (o : Option Stamp) → option_map_or (is_running_other store.committed own) o false ≡ true → list_any (λ user. user == (option_map_or (λ s. s.xid) o v.by.xid).0) (flat_map g (option_map_or (λ s. s ∷ []) o [])) ≡ true
    ender None is = absurd (cc)
    ender (Some s) is = ap (λ t. list_any (λ user. user == s.xid.0) ((if t then s.xid.0 ∷ [] else []) ++ [])) (sym (stamp_others seg b store own m s) ∙ is) ∙ ap (λ t. t || false) (eq-eqb s.xid.0 s.xid.0 refl)

    by_writer : (t : Bool) → is_running_other store.committed own v.by ≡ t → (t || option_map_or (is_running_other store.committed own) v.ended false) ≡ true
        → list_any (λ user. user == (if t then v.by.xid else option_map_or (λ s. s.xid) v.ended v.by.xid).0) (over_at seg b v) ≡ true
    by_writer true is or = ap (λ t. list_any (λ user. user == v.by.xid.0) ((if t then v.by.xid.0 ∷ [] else []) ++ rest)) (sym (stamp_others seg b store own m v.by) ∙ is) ∙ ap (λ t. t || list_any (λ user. user == v.by.xid.0) rest) (eq-eqb v.by.xid.0 v.by.xid.0 refl)
    by_writer false is or = ap (λ t. list_any (λ user. user == (option_map_or (λ s. s.xid) v.ended v.by.xid).0) ((if t then v.by.xid.0 ∷ [] else []) ++ rest)) (sym (stamp_others seg b store own m v.by) ∙ is) ∙ ender v.ended or

-- nobody has a name in use that no version claims
none_over : (seg : Segment) (b : ℕ) (store : Store) (own : Option Xid) → Mirrors seg b store own → (name : List ℕ) (versions : List Version) → AllByRecursion (λ v. (stores.is_named name v.row && is_claimed store.committed own v) ≡ false) versions
    → flat_map (over_at seg b) (filter (λ v. has_name name v.row) versions) ≡ []
none_over seg b store own m name [] none = refl
none_over seg b store own m name (v ∷ versions) none = by_name (stores.is_named name v.row) refl (none_over seg b store own m name versions none.1)
  where
    by_name : (t : Bool) → stores.is_named name v.row ≡ t → flat_map (over_at seg b) (filter (λ x. has_name name x.row) versions) ≡ []
        → flat_map (over_at seg b) (cond (has_name name v.row) (v ∷ filter (λ x. has_name name x.row) versions) (filter (λ x. has_name name x.row) versions)) ≡ []
    by_name true is rest =
        ap (λ t. flat_map (over_at seg b) (cond t (v ∷ filter (λ x. has_name name x.row) versions) (filter (λ x. has_name name x.row) versions))) (sym (named_same name v.row) ∙ is)
        ∙ (λ i. over_none seg b store own m v (sym (ap (λ t. t && is_claimed store.committed own v) is) ∙ none.0) i ++ rest i)
    by_name false is rest = ap (λ t. flat_map (over_at seg b) (cond t (v ∷ filter (λ x. has_name name x.row) versions) (filter (λ x. has_name name x.row) versions))) (sym (named_same name v.row) ∙ is) ∙ rest

pub users_none : (seg : Segment) (b : ℕ) (store : Store) (own : Option Xid) → Mirrors seg b store own → (name : List ℕ) → stores.claimed_version store own name ≡ None → users_at seg b name ≡ []
users_none seg b store own m name none = none_over seg b store own m name (seg.versions) (subst (AllByRecursion (λ v. (stores.is_named name v.row && is_claimed store.committed own v) ≡ false)) m.versions (found_none _ store.versions none))

-- who claims a version of the name has it in use
pub user_some : (seg : Segment) (b : ℕ) (store : Store) (own : Option Xid) → Mirrors seg b store own → (name : List ℕ) (v : Version) → stores.claimed_version store own name ≡ Some v
    → list_any (λ user. user == (claimant_of store.committed own v).0) (users_at seg b name) ≡ true
user_some seg b store own m name v some =
    any-flat user (over_at seg b) (λ x. list_any user (over_at seg b x)) (λ x is. is) (filter (λ x. has_name name x.row) (seg.versions))
    (any-weaker (λ x. has_name name x.row && list_any user (over_at seg b x)) (λ x. list_any user (over_at seg b x)) (λ x is. (and_parts _ _ is).1) (filter (λ x. has_name name x.row) (seg.versions))
    (any-filter (λ x. has_name name x.row && list_any user (over_at seg b x)) (λ x. has_name name x.row) (λ x is. (and_parts _ _ is).0) (seg.versions)
    (subst (λ vs. list_any (λ x. has_name name x.row && list_any user (over_at seg b x)) vs ≡ true) m.versions
    (found.1 (λ x. has_name name x.row && list_any user (over_at seg b x)) (and_from _ _ (sym (named_same name v.row) ∙ parts.0) (over_some seg b store own m v parts.1))))))
  where
    user : ℕ → Bool
    user = λ u. u == (claimant_of store.committed own v).0

    found : ((stores.is_named name v.row && is_claimed store.committed own v) ≡ true) × ((q : Version → Bool) → q v ≡ true → list_any q store.versions ≡ true)
    found = found_some (λ x. stores.is_named name x.row && is_claimed store.committed own x) store.versions v some

    parts : (stores.is_named name v.row ≡ true) × (is_claimed store.committed own v ≡ true)
    parts = and_parts _ _ found.0

-- a stamp that is drawn counts for the reader where it counts for the backend
stamp_same : (seg : Segment) (b : ℕ) (store : Store) (s : Standing) → Mirrors seg b store (xid_in s.running) → (last : ℕ) (stamp : Stamp) → IsDrawn last stamp → sees_stamp (has_committed store.committed) (reader_at s) stamp ≡ counts_at seg b stamp
stamp_same seg b store s m last stamp drawn =
    ap (λ t. has_committed store.committed stamp.xid.0 || (is_own (xid_in s.running) stamp && t)) (lt-ltb stamp.command 4294967295 drawn.command)
    ∙ ap (λ t. has_committed store.committed stamp.xid.0 || t) (and-true (is_own (xid_in s.running) stamp))
    ∙ (λ i. m.committed stamp.xid.0 i || sym (m.own_is stamp) i)
  where
    and-true : (t : Bool) → (t && true) ≡ t
    and-true true = refl
    and-true false = refl

-- so the reader sees what the backend sees
pub reads_same : (seg : Segment) (b last : ℕ) (store : Store) (s : Standing) → Mirrors seg b store (xid_in s.running) → AllByRecursion (AreDrawn last) (seg.versions)
    → AllByRecursion (λ v. sees_version (has_committed store.committed) (reader_at s) v ≡ sees_at seg b v) (seg.versions)
reads_same seg b last store s m drawn =
    every-weaker (AreDrawn last) (λ v. sees_version (has_committed store.committed) (reader_at s) v ≡ sees_at seg b v)
    (λ v of. version_same (sees_stamp (has_committed store.committed) (reader_at s)) (counts_at seg b) v
    (stamps-weaker (λ stamp row. IsDrawn last stamp) (λ stamp row. sees_stamp (has_committed store.committed) (reader_at s) stamp ≡ counts_at seg b stamp) (λ stamp row. stamp_same seg b store s m last stamp) v of))
    (seg.versions) drawn

-- a scan gives the answer
pub scan_is_answer : (seg : Segment) (b last : ℕ) (store : Store) (s : Standing) (purpose : Purpose) → Mirrors seg b store (xid_in s.running) → AllByRecursion (AreDrawn last) (seg.versions)
    → rows_of_scan store purpose (reader_at s) ≡ answer_at seg b purpose
scan_is_answer seg b last store s purpose m drawn =
    ap (λ vs. scan_of purpose (map (λ v. v.row) (filter (sees_version (has_committed store.committed) (reader_at s)) vs))) m.versions
    ∙ ap (λ vs. scan_of purpose (map (λ v. v.row) vs)) (filter_each (sees_version (has_committed store.committed) (reader_at s)) (sees_at seg b) (seg.versions) (reads_same seg b last store s m drawn))

-- who uses a version, and what is listed of it
user_over : (seg : Segment) (b : ℕ) (store : Store) (own : Option Xid) → Mirrors seg b store own → (user : Xid) (v : Version) → list_any (λ x. x == user.0) (over_at seg b v) ≡ is_user store.committed own user v
user_over seg b store own m user v = list_any-append (λ x. x == user.0) (g v.by) (flat_map g (option_map_or (λ s. s ∷ []) v.ended [])) ∙ (λ i. one v.by i || ended v.ended i)
  where
    g : Stamp → List ℕ
    g = λ s. if others_at seg b s then s.xid.0 ∷ [] else []

    by_test : (s : Stamp) (t : Bool) → list_any (λ x. x == user.0) (if t then s.xid.0 ∷ [] else []) ≡ (t && (s.xid.0 == user.0))
    by_test s true = or-false' (s.xid.0 == user.0)
      where
        or-false' : (t : Bool) → (t || false) ≡ t
        or-false' true = refl
        or-false' false = refl
    by_test s false = refl

    one : (s : Stamp) → list_any (λ x. x == user.0) (g s) ≡ is_user_stamp store.committed own user s
    one s = by_test s (others_at seg b s) ∙ ap (λ t. t && (s.xid.0 == user.0)) (sym (stamp_others seg b store own m s))

    ended : (o : Option Stamp) → list_any (λ x. x == user.0) (flat_map g (option_map_or (λ s. s ∷ []) o [])) ≡ option_map_or (is_user_stamp store.committed own user) o false
    ended None = refl
    ended (Some s) = list_any-append (λ x. x == user.0) (g s) [] ∙ or-false' (list_any (λ x. x == user.0) (g s)) ∙ one s
      where
        or-false' : (t : Bool) → (t || false) ≡ t
        or-false' true = refl
        or-false' false = refl

users_in : (seg : Segment) (b : ℕ) (store : Store) (own : Option Xid) → Mirrors seg b store own → (name : List ℕ) (user : Xid) (versions : List Version)
    → is_some (find (λ v. stores.is_named name v.row && is_user store.committed own user v) versions) ≡ list_any (λ x. x == user.0) (flat_map (over_at seg b) (filter (λ v. has_name name v.row) versions))
users_in seg b store own m name user [] = refl
users_in seg b store own m name user (v ∷ versions) =
    by (stores.is_named name v.row) (is_user store.committed own user v) refl refl (users_in seg b store own m name user versions)
  where
    found : List Version → Option Version
    found vs = find (λ x. stores.is_named name x.row && is_user store.committed own user x) vs

    rest : List ℕ
    rest = flat_map (over_at seg b) (filter (λ x. has_name name x.row) versions)

    listed : Bool → List ℕ
    listed t = flat_map (over_at seg b) (cond t (v ∷ filter (λ x. has_name name x.row) versions) (filter (λ x. has_name name x.row) versions))

    by : (t u : Bool) → stores.is_named name v.row ≡ t → is_user store.committed own user v ≡ u → is_some (found versions) ≡ list_any (λ x. x == user.0) rest
        → is_some (cond (stores.is_named name v.row && is_user store.committed own user v) (Some v) (found versions)) ≡ list_any (λ x. x == user.0) (listed (has_name name v.row))
    by true u named uses more =
        ap (λ t. is_some (cond t (Some v) (found versions))) (λ i. named i && uses i) ∙ one u uses
        ∙ sym (ap (λ t. list_any (λ x. x == user.0) (listed t)) (sym (named_same name v.row) ∙ named) ∙ list_any-append (λ x. x == user.0) (over_at seg b v) rest ∙ ap (λ t. t || list_any (λ x. x == user.0) rest) (user_over seg b store own m user v ∙ uses))
      where
        one : (w : Bool) → is_user store.committed own user v ≡ w → is_some (cond w (Some v) (found versions)) ≡ (w || list_any (λ x. x == user.0) rest)
        one true is = refl
        one false is = more
    by false u named uses more =
        ap (λ t. is_some (cond t (Some v) (found versions))) (λ i. named i && is_user store.committed own user v) ∙ more
        ∙ sym (ap (λ t. list_any (λ x. x == user.0) (listed t)) (sym (named_same name v.row) ∙ named))

-- a transaction uses a name
pub user_is : (seg : Segment) (b : ℕ) (store : Store) (own : Option Xid) → Mirrors seg b store own → (name : List ℕ) (user : Xid) → has_user store own name user ≡ list_any (λ x. x == user.0) (users_at seg b name)
user_is seg b store own m name user =
    ap (λ vs. is_some (find (λ v. stores.is_named name v.row && is_user store.committed own user v) vs)) m.versions ∙ users_in seg b store own m name user (seg.versions)

-- nobody uses a name
pub unused_is : (seg : Segment) (b : ℕ) (store : Store) (own : Option Xid) → Mirrors seg b store own → (name : List ℕ) → is_unused (clash_of store own name) ≡ true → users_at seg b name ≡ []
unused_is seg b store own m name unused = by_claim (stores.claimed_version store own name) refl unused
  where
    by_claim : (claimed : Option Version) → stores.claimed_version store own name ≡ claimed → is_unused (clash_by store.committed own claimed (stores.standing_version store own name)) ≡ true → users_at seg b name ≡ []
    by_claim None is free = users_none seg b store own m name is
    by_claim (Some v) is free = absurd (cc)

pub is_not_used : (seg : Segment) (b : ℕ) (store : Store) (own : Option Xid) → Mirrors seg b store own → (name : List ℕ) → users_at seg b name ≡ [] → is_unused (clash_of store own name) ≡ true
is_not_used seg b store own m name none = by_claim (stores.claimed_version store own name) refl
  where
    by_row : (standing : Option Version) → is_unused (row_clash standing) ≡ true
    by_row None = refl
    by_row (Some v) = by_relation (relation_of v.row)
      where
        by_relation : (o : Option Oid) → is_unused (option_map clashes.Row o) ≡ true
        by_relation None = refl
        by_relation (Some rel) = refl

    by_claim : (claimed : Option Version) → stores.claimed_version store own name ≡ claimed → is_unused (clash_by store.committed own claimed (stores.standing_version store own name)) ≡ true
    by_claim None is = by_row (stores.standing_version store own name)
    by_claim (Some v) is = absurd (both_ways _ (ap (list_any (λ x. x == (claimant_of store.committed own v).0)) none) (user_some seg b store own m name v is))

-- the row with a key
-- the first that passes two tests, among rows of versions that pass the first
find-rows : (p : Version → Bool) (q : Row → Bool) (versions : List Version) → find q (map (λ v. v.row) (filter p versions)) ≡ option_map (λ v. v.row) (find (λ v. p v && q v.row) versions)
find-rows p q [] = refl
find-rows p q (v ∷ versions) = by_tests (p v) (q v.row) refl (find-rows p q versions)
  where
    by_tests : (s t : Bool) → q v.row ≡ t → find q (map (λ x. x.row) (filter p versions)) ≡ option_map (λ x. x.row) (find (λ x. p x && q x.row) versions)
        → find q (map (λ x. x.row) (cond s (v ∷ filter p versions) (filter p versions))) ≡ option_map (λ x. x.row) (cond (s && t) (Some v) (find (λ x. p x && q x.row) versions))
    by_tests true true is rest = ap (λ x. cond x (Some v.row) (find q (map (λ y. y.row) (filter p versions)))) is
    by_tests true false is rest = ap (λ x. cond x (Some v.row) (find q (map (λ y. y.row) (filter p versions)))) is ∙ rest
    by_tests false t is rest = rest

find_each : (p q : Version → Bool) (versions : List Version) → AllByRecursion (λ v. p v ≡ q v) versions → find p versions ≡ find q versions
find_each p q [] same = refl
find_each p q (v ∷ versions) same = λ i. cond (same.0 i) (Some v) (find_each p q versions same.1 i)

-- is the same in both
pub row_same : (seg : Segment) (b : ℕ) (store : Store) (reader : Reader) → store.versions ≡ seg.versions → AllByRecursion (λ v. sees_version (has_committed store.committed) reader v ≡ sees_at seg b v) (seg.versions) → (key : RowKey)
    → row_of_key store key reader ≡ row_at seg b key
row_same seg b store reader are reads key =
    ap (λ vs. option_map (λ v. v.row) (find (λ v. sees_version (has_committed store.committed) reader v && same_key (key_of v.row) key) vs)) are
    ∙ ap (option_map (λ v. v.row)) (find_each (λ v. sees_version (has_committed store.committed) reader v && same_key (key_of v.row) key) (λ v. sees_at seg b v && same_key (key_of v.row) key) (seg.versions)
    (every-weaker (λ v. sees_version (has_committed store.committed) reader v ≡ sees_at seg b v) (λ v. (sees_version (has_committed store.committed) reader v && same_key (key_of v.row) key) ≡ (sees_at seg b v && same_key (key_of v.row) key)) (λ v same. ap (λ t. t && same_key (key_of v.row) key) same) (seg.versions) reads))
    ∙ sym (find-rows (sees_at seg b) (λ row. same_key (key_of row) key) (seg.versions))
