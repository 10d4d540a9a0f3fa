-- A backend sees one version of a key.
use Rattle.std.proofs.Common.{◌≡◌, ◌≤◌, ◌<◌, ◌∙◌, ◌⊎◌, inl, inr, ℕ, Bool, true, false, not, Option, Some, None, List, [], ◌∷◌, ◌++◌, ◌==◌, ◌||◌, ◌&&◌, refl, sym, ap, subst, map, filter, fold, arith, append-nil}
use Rattle.std.specs.Prelude.{nat_le, ⊤}
use Rattle.std.specs.List.{AllByRecursion, list_any, flat_map}
use Rattle.std.specs.Option.{option_map_or, IfSome}
use Rattle.std.proofs.Math.Bool.{or-false, or-true}
use Rattle.std.proofs.lemmas.List.Folds.{list_any-append}
use Rattle.std.proofs.lemmas.Bool.{eqb-true, eq-eqb, both_ways, or_cases, or_parts, and_parts, and_from, false_from_ne_true, not-true, leb-false, lt-leb}
use Rattle.base_types.specs.declared.row.Row.{Row}
use Rattle.base_types.specs.declared.row_key.RowKey.{RowKey}
use Rattle.base_types.specs.RowKeys.{key_of, same_key, are_distinct_keys}
use Rattle.event_kinds.specs.declared.entry.Entry.{Entry}
use Rattle.event_kinds.specs.declared.entry.Event.{Event}
use Rattle.event_kinds.specs.declared.entry.Event.TheVariants as events
use Rattle.event_kinds.specs.declared.entry.Item.{Item}
use Rattle.event_kinds.specs.declared.entry.Item.TheVariants as forms
use Rattle.base_types.specs.declared.ids.Xid.{Xid}
use Rattle.history_model.specs.Transactions.{Running, running_transaction_of, running_by, has_xid, is_visible, runs_as, is_committed, makes_visible}
use Rattle.row_visibility.specs.declared.version.Version.{Version}
use Rattle.row_visibility.specs.declared.version.Stamp.{Stamp}
use Rattle.row_visibility.specs.Seen.{seen_by}
use Rattle.history_model.specs.Versions.{versions_of, versions_by, change_by, end_by, ends, version_of, added_row, is_back, end_back, counts, sees}
use Rattle.history_model.specs.Sent.{lists_of}
use Rattle.history_model.specs.Held.{held_of}
use Rattle.history_model.specs.Changing.{changed_key}
use Rattle.history_model.specs.Orderly.{main_rel}
use Rattle.history_model.proofs.Every.{every-weaker, every, every-append, every-map, every-both, every-swap}
use Rattle.history_model.proofs.Lawful.{IsLawful}
use Rattle.history_model.proofs.Reading.{running_transaction_of-own as running-own, is_committed-more as committed-more, versions_of-more as versions-more}
use Rattle.history_model.proofs.Runs.{Runs, Runs-more, one_xid}
use Rattle.history_model.proofs.Touched.{entry_of, OfStamps, stamps-weaker, stamps-both, is_of, Touch, Touched}
use Rattle.history_model.proofs.Exclude.{LocksWell}
use Rattle.history_model.proofs.Guards.{key_refl, IsGuarded, Guard, Guards, one_guard, any_with}
use Rattle.history_model.proofs.Seen.{counts_at, IsDown, every_command, seen-same, Apart, Pairwise, OneVersion, pair-weaker, pair-map, pair-filter, pair-push, runs-after, counts_at-same}

-- versions of one key are of one relation
abbrev pub SameRel : Version → Version → Type 0
SameRel v w = key_of v.row ≡ key_of w.row → main_rel v.row ≡ main_rel w.row

abbrev pub OneRel : List Entry → Type 0
OneRel history = Pairwise SameRel (versions_of history)

pair-both : {X : Type 0} (R S : X → X → Type 0) (xs : List X) → Pairwise R xs → Pairwise S xs → Pairwise (λ x y. R x y × S x y) xs
pair-both R S [] one two = tt
pair-both R S (x ∷ xs) one two = (every-both (R x) (S x) xs one.0 two.0, pair-both R S xs one.1 two.1)

-- a version whose stamps are there and guarded
abbrev Stamped : List Entry → Version → Type 0
Stamped history v = OfStamps (Touch history) v × OfStamps (Guard history) v

stamped : (history : List Entry) → Touched history → Guards history → AllByRecursion (Stamped history) (versions_of history)
stamped history touched guards = every-both (OfStamps (Touch history)) (OfStamps (Guard history)) (versions_of history) touched guards

moves : (history after : List Entry) (f g : Stamp → Bool) (v : Version) → OfStamps (λ s row. f s ≡ g s) v → seen_by f v ≡ true → seen_by g v ≡ true
moves history after f g v same seen = sym (seen-same f g v same) ∙ seen

-- an entry that makes nothing visible
apart-kept : (history : List Entry) (a c : ℕ) (event : Event) → IsLawful history (entry_of a c event) → Runs history → ((x : ℕ) → makes_visible x event ≡ false) → (v w : Version) → Stamped history v → Stamped history w
    → Apart history v w → Apart (history ++ entry_of a c event ∷ []) v w
apart-kept history a c event lawful r hidden v w sv sw apart key b p down seen also =
    apart key b p down (moves history after _ _ v (same v sv) seen) (moves history after _ _ w (same w sw) also)
  where
    after : List Entry
    after = history ++ entry_of a c event ∷ []

    same : (u : Version) → Stamped history u → OfStamps (λ s row. counts_at after b p s ≡ counts_at history b p s) u
    same u su = stamps-weaker (Touch history) (λ s row. counts_at after b p s ≡ counts_at history b p s) (λ s row touch. counts_at-same history a c event b p s row lawful r (hidden s.xid.0) touch) u su.0

-- a stamp of the version has the Xid
abbrev marks : ℕ → Version → Bool
marks x v = (x == v.by.xid.0) || option_map_or (λ s. x == s.xid.0) v.ended false

unmarked : (x : ℕ) (v : Version) → marks x v ≡ false → OfStamps (λ s row. (x == s.xid.0) ≡ false) v
unmarked x v none = let parts = or_parts (x == v.by.xid.0) (option_map_or (λ s. x == s.xid.0) v.ended false) none in (parts.0, of v.ended parts.1)
  where
    of : (o : Option Stamp) → option_map_or (λ s. x == s.xid.0) o false ≡ false → IfSome o (λ s. (x == s.xid.0) ≡ false)
    of None is = tt
    of (Some s) is = is

marked : (history : List Entry) (a x : ℕ) (v : Version) → runs_as history a x ≡ true → OfStamps (Guard history) v → marks x v ≡ true → (c : ℕ) × IsGuarded (held_of history) a c (main_rel v.row)
marked history a x v runs guards some = by_place (or_cases (x == v.by.xid.0) (option_map_or (λ s. x == s.xid.0) v.ended false) some)
  where
    of : (o : Option Stamp) → option_map_or (λ s. x == s.xid.0) o false ≡ true → IfSome o (λ s. Guard history s v.row) → (c : ℕ) × IsGuarded (held_of history) a c (main_rel v.row)
    of None is guard = absurd (cc)
    of (Some s) is guard = (s.command, guard a (subst (λ y. runs_as history a y ≡ true) (eqb-true x s.xid.0 is) runs))

    by_place : ((x == v.by.xid.0) ≡ true) ⊎ (option_map_or (λ s. x == s.xid.0) v.ended false ≡ true) → (c : ℕ) × IsGuarded (held_of history) a c (main_rel v.row)
    by_place (inl here) = (v.by.command, guards.0 a (subst (λ y. runs_as history a y ≡ true) (eqb-true x v.by.xid.0 here) runs))
    by_place (inr there) = of v.ended there guards.1

-- a stamp after a backend's own visibility step: for one who runs only what that backend runs, as it was for that backend
pub visible_as : (history : List Entry) (a c : ℕ) (xid : Xid) (b : ℕ) (p : ℕ → Bool) → IsLawful history (entry_of a c (events.Visible xid)) → Runs history → (s : Stamp) (row : Row) → Touch history s row
    → ((xid.0 == s.xid.0) ≡ false → runs_as history b s.xid.0 ≡ false) → counts_at (history ++ entry_of a c (events.Visible xid) ∷ []) b p s ≡ counts_at history a every_command s
visible_as history a c xid b p lawful r s row touch not_b = by_xid (xid.0 == s.xid.0) refl
  where
    e : Entry
    e = entry_of a c (events.Visible xid)

    after : List Entry
    after = history ++ e ∷ []

    runs : runs_as history a xid.0 ≡ true
    runs = lawful.1

    of : (is_committed history s.xid.0 ≡ true) ⊎ (runs_as after b s.xid.0 ≡ runs_as history b s.xid.0) → (xid.0 == s.xid.0) ≡ false
        → ((is_committed history s.xid.0 || false) || (runs_as after b s.xid.0 && p s.command)) ≡ (is_committed history s.xid.0 || (runs_as history a s.xid.0 && true))
    of (inl was) differs = ap (λ t. (t || false) || (runs_as after b s.xid.0 && p s.command)) was ∙ sym (ap (λ t. t || (runs_as history a s.xid.0 && true)) was)
    of (inr same) differs =
        let not_a : runs_as history a s.xid.0 ≡ false = false_from_ne_true (runs_as history a s.xid.0) (λ is. both_ways _ differs (eq-eqb xid.0 s.xid.0 (one_xid xid.0 s.xid.0 (running_transaction_of history a) runs is))) in
        ap (λ t. (is_committed history s.xid.0 || false) || (t && p s.command)) (same ∙ not_b differs) ∙ or-false (is_committed history s.xid.0 || false) ∙ sym (ap (λ t. is_committed history s.xid.0 || (t && true)) not_a)

    by_xid : (t : Bool) → (xid.0 == s.xid.0) ≡ t → counts_at after b p s ≡ counts_at history a every_command s
    by_xid true same =
        ap (λ t. t || (runs_as after b s.xid.0 && p s.command)) (committed-more history e s.xid.0 ∙ ap (λ t. is_committed history s.xid.0 || t) same ∙ or-true (is_committed history s.xid.0))
        ∙ sym (ap (λ t. is_committed history s.xid.0 || (t && true)) (subst (λ y. runs_as history a y ≡ true) (eqb-true xid.0 s.xid.0 same) runs) ∙ or-true (is_committed history s.xid.0))
    by_xid false differs =
        ap (λ t. t || (runs_as after b s.xid.0 && p s.command)) (committed-more history e s.xid.0 ∙ ap (λ t. is_committed history s.xid.0 || t) differs) ∙ of (runs-after history a c (events.Visible xid) b s row lawful r touch) differs

-- what becomes visible: another that has touched neither sees as before; one that hasn't where this has sees as this did
apart-visible : (history : List Entry) (a c : ℕ) (xid : Xid) → IsLawful history (entry_of a c (events.Visible xid)) → Runs history → LocksWell history → (v w : Version) → Stamped history v → Stamped history w
    → SameRel v w → Apart history v w → Apart (history ++ entry_of a c (events.Visible xid) ∷ []) v w
apart-visible history a c xid lawful r locks v w sv sw same_rel apart key b p down seen also = by_owner (a == b) refl
  where
    e : Entry
    e = entry_of a c (events.Visible xid)

    after : List Entry
    after = history ++ e ∷ []

    runs : runs_as history a xid.0 ≡ true
    runs = lawful.1

    -- a stamp, where b runs only what a does: as a saw
    as_a : (s : Stamp) (row : Row) → Touch history s row → ((xid.0 == s.xid.0) ≡ false → runs_as history b s.xid.0 ≡ false) → counts_at after b p s ≡ counts_at history a every_command s
    as_a s row touch not_b = visible_as history a c xid b p lawful r s row touch not_b

    all_down : IsDown every_command
    all_down i j low is = refl

    seen_as_a : ((s : Stamp) (row : Row) → row ≡ v.row ⊎ row ≡ w.row → Guard history s row → (xid.0 == s.xid.0) ≡ false → runs_as history b s.xid.0 ≡ false) → ⊥
    seen_as_a not_b = apart key a every_command all_down (moves history after _ _ v (like v (inl refl) sv) seen) (moves history after _ _ w (like w (inr refl) sw) also)
      where
        like : (u : Version) → u.row ≡ v.row ⊎ u.row ≡ w.row → Stamped history u → OfStamps (λ s row. counts_at after b p s ≡ counts_at history a every_command s) u
        like u which su = (as_a u.by u.row su.0.0 (not_b u.by u.row which su.1.0), of u.ended su.0.1 su.1.1)
          where
            of : (o : Option Stamp) → IfSome o (λ s. Touch history s u.row) → IfSome o (λ s. Guard history s u.row) → IfSome o (λ s. counts_at after b p s ≡ counts_at history a every_command s)
            of None touch guard = tt
            of (Some s) touch guard = as_a s u.row touch (not_b s u.row which guard)

    -- its own
    own : (a == b) ≡ true → ⊥
    own is = seen_as_a (λ s row which guard differs. false_from_ne_true (runs_as history b s.xid.0) (λ runs_b. both_ways _ differs (eq-eqb xid.0 s.xid.0 (one_xid xid.0 s.xid.0 (running_transaction_of history a) runs (subst (λ o. runs_as history o s.xid.0 ≡ true) (sym (eqb-true a b is)) runs_b)))))

    -- another's, where a has touched one of the two
    guarded : (a == b) ≡ false → (u : Version) → main_rel u.row ≡ main_rel v.row → (m : ℕ) × IsGuarded (held_of history) a m (main_rel u.row) → ⊥
    guarded other u one guard = seen_as_a (λ s row which guard' differs. false_from_ne_true (runs_as history b s.xid.0) (λ runs_b.
        both_ways _ other (eq-eqb a b (one_guard (held_of history) a b guard.0 s.command (main_rel v.row) locks.agree (subst (IsGuarded (held_of history) a guard.0) one guard.1) (subst (IsGuarded (held_of history) b s.command) (key_is row which) (guard' b runs_b))))))
      where
        key_is : (row : Row) → row ≡ v.row ⊎ row ≡ w.row → main_rel row ≡ main_rel v.row
        key_is row (inl is) = ap main_rel is
        key_is row (inr is) = ap main_rel is ∙ sym (same_rel key)

    -- and where it has touched neither
    as_before : (u : Version) → Stamped history u → marks xid.0 u ≡ false → OfStamps (λ s row. counts_at after b p s ≡ counts_at history b p s) u
    as_before u su none = stamps-both (Touch history) (λ s row. (xid.0 == s.xid.0) ≡ false) (λ s row. counts_at after b p s ≡ counts_at history b p s) (λ s row touch differs. counts_at-same history a c (events.Visible xid) b p s row lawful r differs touch) u su.0 (unmarked xid.0 u none)

    by_marks : (a == b) ≡ false → (s t : Bool) → marks xid.0 v ≡ s → marks xid.0 w ≡ t → ⊥
    by_marks other true t is also' = guarded other v refl (marked history a xid.0 v runs sv.1 is)
    by_marks other false true is also' = guarded other w (sym (same_rel key)) (marked history a xid.0 w runs sw.1 also')
    by_marks other false false is also' = apart key b p down (moves history after _ _ v (as_before v sv is) seen) (moves history after _ _ w (as_before w sw also') also)

    by_owner : (t : Bool) → (a == b) ≡ t → ⊥
    by_owner true is = own is
    by_owner false is = by_marks is (marks xid.0 v) (marks xid.0 w) refl refl

-- what is taken back
pub gone_seen : (T : Stamp → Row → Type 0) (g h : Stamp → Bool) (back : Stamp → Bool) (v : Version) → ((s : Stamp) (row : Row) → T s row → back s ≡ false → g s ≡ h s) → ((s : Stamp) → back s ≡ true → h s ≡ false)
    → OfStamps T v → not (back v.by) ≡ true → seen_by g (end_back back v) ≡ true → seen_by h v ≡ true
gone_seen T g h back v same none held stays seen =
    let parts = and_parts (g v.by) (not (option_map_or g (elim (option_map_or back v.ended false) [ true ↦ None | false ↦ v.ended ]) false)) seen in
    and_from (h v.by) (not (option_map_or h v.ended false)) (sym (same v.by v.row held.0 (not-true (back v.by) stays)) ∙ parts.0) (of v.ended held.1 parts.1)
  where
    by_test : (s : Stamp) (t : Bool) → back s ≡ t → T s v.row → not (option_map_or g (elim t [ true ↦ None | false ↦ Some s ]) false) ≡ true → not (h s) ≡ true
    by_test s true is touch free = ap not (none s is)
    by_test s false is touch free = ap not (sym (same s v.row touch is)) ∙ free

    of : (o : Option Stamp) → IfSome o (λ s. T s v.row) → not (option_map_or g (elim (option_map_or back o false) [ true ↦ None | false ↦ o ]) false) ≡ true → not (option_map_or h o false) ≡ true
    of None touch free = refl
    of (Some s) touch free = by_test s (back s) refl touch free

-- a test that stops before a command
abbrev pub before_command : (ℕ → Bool) → ℕ → ℕ → Bool
before_command p from k = p k && not (nat_le from k)

pub before_down : (p : ℕ → Bool) (from : ℕ) → IsDown p → IsDown (before_command p from)
before_down p from down i j low is =
    let parts = and_parts (p j) (not (nat_le from j)) is in
    let short : j < from = leb-false from j (not-true (nat_le from j) parts.1) in
    and_from (p i) (not (nat_le from i)) (down i j low parts.0) (ap not (lt-leb from i (omega arith)))

-- how far a backend saw before that which sees what it sees after writes were taken back
pub record GoneView (history : List Entry) (a c from b : ℕ) (p : ℕ → Bool) : Type 0 where
  pub passes : ℕ → Bool
  pub is : passes ≡ (λ k. elim (a == b) [ true ↦ before_command p from k | false ↦ p k ])
  pub down : IsDown passes
  pub less : (k : ℕ) → passes k ≡ true → p k ≡ true
  pub none : (s : Stamp) → is_back history a from s ≡ true → counts_at history b passes s ≡ false
  pub same : (s : Stamp) (row : Row) → Touch history s row → is_back history a from s ≡ false → counts_at (history ++ entry_of a c (events.Gone from) ∷ []) b p s ≡ counts_at history b passes s

pub gone_view : (history : List Entry) (a c from b : ℕ) (p : ℕ → Bool) → IsLawful history (entry_of a c (events.Gone from)) → Runs history → IsDown p → GoneView history a c from b p
gone_view history a c from b p lawful r down = by_owner (a == b) refl
  where
    after : List Entry
    after = history ++ entry_of a c (events.Gone from) ∷ []

    back : Stamp → Bool
    back = is_back history a from

    same : (s : Stamp) (row : Row) → Touch history s row → counts_at after b p s ≡ counts_at history b p s
    same s row touch = counts_at-same history a c (events.Gone from) b p s row lawful r refl touch

    uncommitted : (s : Stamp) → back s ≡ true → is_committed history s.xid.0 ≡ false
    uncommitted s is = r.hidden a s.xid.0 (and_parts (runs_as history a s.xid.0) (nat_le from s.command) is).0 lawful

    -- another's
    foreign' : (a == b) ≡ false → (s : Stamp) → back s ≡ true → counts_at history b p s ≡ false
    foreign' other s is =
        ap (λ t. t || (runs_as history b s.xid.0 && p s.command)) (uncommitted s is)
        ∙ ap (λ t. t && p s.command) (false_from_ne_true (runs_as history b s.xid.0) (λ runs. both_ways _ other (eq-eqb a b (r.one a b s.xid.0 (and_parts (runs_as history a s.xid.0) (nat_le from s.command) is).0 runs))))

    -- its own
    q : ℕ → Bool
    q = before_command p from

    capped : (s : Stamp) (x y z : Bool) → (y && z) ≡ false → (x || (y && p s.command)) ≡ (x || (y && (p s.command && not z)))
    capped s true y z none = refl
    capped s false false z none = refl
    capped s false true false none = sym (all (p s.command))
      where
        all : (t : Bool) → (t && true) ≡ t
        all true = refl
        all false = refl
    capped s false true true none = absurd (cc)

    cut : (s : Stamp) (t : Bool) → (t && not true) ≡ false
    cut s true = refl
    cut s false = refl

    own_back : a ≡ b → (s : Stamp) → back s ≡ true → counts_at history b q s ≡ false
    own_back one s is =
        let parts = and_parts (runs_as history a s.xid.0) (nat_le from s.command) is in
        ap (λ t. t || (runs_as history b s.xid.0 && (p s.command && not (nat_le from s.command)))) (uncommitted s is)
        ∙ ap (λ t. runs_as history b s.xid.0 && (p s.command && not t)) parts.1 ∙ ap (λ t. runs_as history b s.xid.0 && t) (cut s (p s.command)) ∙ nothing (runs_as history b s.xid.0)
      where
        nothing : (t : Bool) → (t && false) ≡ false
        nothing true = refl
        nothing false = refl

    own_same : a ≡ b → (s : Stamp) (row : Row) → Touch history s row → back s ≡ false → counts_at after b p s ≡ counts_at history b q s
    own_same one s row touch is = same s row touch ∙ capped s (is_committed history s.xid.0) (runs_as history b s.xid.0) (nat_le from s.command) (subst (λ o. (runs_as history o s.xid.0 && nat_le from s.command) ≡ false) one is)

    by_owner : (t : Bool) → (a == b) ≡ t → GoneView history a c from b p
    by_owner true is = let one = eqb-true a b is in record { passes = q; is = ap (λ t k. elim t [ true ↦ before_command p from k | false ↦ p k ]) (sym is); down = before_down p from down; less = λ k passes'. (and_parts (p k) (not (nat_le from k)) passes').0; none = own_back one; same = own_same one }
    by_owner false other = record { passes = p; is = ap (λ t k. elim t [ true ↦ before_command p from k | false ↦ p k ]) (sym other); down = down; less = λ k passes'. passes'; none = foreign' other; same = λ s row touch is. same s row touch }

apart-gone : (history : List Entry) (a c from : ℕ) → IsLawful history (entry_of a c (events.Gone from)) → Runs history → (v w : Version) → Stamped history v → Stamped history w → Apart history v w
    → not (is_back history a from v.by) ≡ true → not (is_back history a from w.by) ≡ true
    → Apart (history ++ entry_of a c (events.Gone from) ∷ []) (end_back (is_back history a from) v) (end_back (is_back history a from) w)
apart-gone history a c from lawful r v w sv sw apart keeps_v keeps_w key b p down seen also =
    let view = gone_view history a c from b p lawful r down in
    apart key b view.passes view.down
    (gone_seen (Touch history) (counts_at (history ++ entry_of a c (events.Gone from) ∷ []) b p) (counts_at history b view.passes) (is_back history a from) v view.same view.none sv.0 keeps_v seen)
    (gone_seen (Touch history) (counts_at (history ++ entry_of a c (events.Gone from) ∷ []) b p) (counts_at history b view.passes) (is_back history a from) w view.same view.none sw.0 keeps_w also)

-- what is needed of a write: commands don't fall, no key comes twice, and no version has the key of an added row
abbrev pub IsOther : Item → Version → Type 0
IsOther (forms.Add row) v = key_of v.row ≡ key_of row → ⊥
IsOther item v = ⊤

abbrev pub KeepsRel : Item → Version → Type 0
KeepsRel item v = IfSome (added_row item) (λ row. key_of v.row ≡ key_of row → main_rel v.row ≡ main_rel row)

abbrev pub KeysLawfully : List Entry → ℕ → ℕ → Event → Type 0
KeysLawfully before b c (events.Write xid changes) = AllByRecursion (λ w. w.command ≤ c) (lists_of before b) × (are_distinct_keys (flat_map changed_key changes) ≡ true) × AllByRecursion (λ item. AllByRecursion (IsOther item) (versions_of before)) changes × AllByRecursion (λ item. AllByRecursion (KeepsRel item) (versions_of before)) changes
KeysLawfully before b c event = ⊤

pub distinct_split : (item : Item) (rest : List RowKey) → are_distinct_keys (changed_key item ++ rest) ≡ true → AllByRecursion (λ k. list_any (same_key k) rest ≡ false) (changed_key item) × (are_distinct_keys rest ≡ true)
distinct_split (forms.Add row) rest is = let parts = and_parts _ (are_distinct_keys rest) is in ((not-true (list_any (same_key (key_of row)) rest) parts.0, tt), parts.1)
distinct_split (forms.Put row) rest is = let parts = and_parts _ (are_distinct_keys rest) is in ((not-true (list_any (same_key (key_of row)) rest) parts.0, tt), parts.1)
distinct_split (forms.Remove key) rest is = let parts = and_parts _ (are_distinct_keys rest) is in ((not-true (list_any (same_key key) rest) parts.0, tt), parts.1)
distinct_split (forms.Force rel) rest is = (tt, is)

none_same : (k : RowKey) (ks : List RowKey) → list_any (same_key k) ks ≡ false → AllByRecursion (λ key. k ≡ key → ⊥) ks
none_same k [] none = tt
none_same k (key ∷ ks) none = let parts = or_parts (same_key k key) (list_any (same_key k) ks) none in ((λ is. both_ways _ parts.0 (subst (λ x. same_key k x ≡ true) is (key_refl k))), none_same k ks parts.1)

pub differ_from : (k : RowKey) (items : List Item) → list_any (same_key k) (flat_map changed_key items) ≡ false → AllByRecursion (λ item. AllByRecursion (λ key. k ≡ key → ⊥) (changed_key item)) items
differ_from k [] none = tt
differ_from k (item ∷ items) none =
    let parts = or_parts (list_any (same_key k) (changed_key item)) (list_any (same_key k) (flat_map changed_key items)) (sym (list_any-append (same_key k) (changed_key item) (flat_map changed_key items)) ∙ none) in
    (none_same k (changed_key item) parts.0, differ_from k items parts.1)

pub added_key : (P : RowKey → Type 0) (item : Item) (row : Row) → added_row item ≡ Some row → AllByRecursion P (changed_key item) → P (key_of row)
added_key P (forms.Add new) row is all = let same : new ≡ row = cc in subst (λ r. P (key_of r)) same all.0
added_key P (forms.Put new) row is all = let same : new ≡ row = cc in subst (λ r. P (key_of r)) same all.0
added_key P (forms.Remove key) row is all = absurd (cc)
added_key P (forms.Force rel) row is all = absurd (cc)

section_write : (history : List Entry) (a c : ℕ) (xid : Xid) (changes : List Item) → IsLawful history (entry_of a c (events.Write xid changes)) → KeysLawfully history a c (events.Write xid changes)
    → Runs history → Touched history → Guards history → OneVersion history → Pairwise (Apart (history ++ entry_of a c (events.Write xid changes) ∷ [])) (fold (change_by history a (record { xid = xid; command = c })) (versions_of history) changes)
section_write history a c xid changes lawful keyed r touched guards one = fold_apart changes (versions_of history) keyed.1 states
    (pair-weaker (Stamped history) (Apart history) (Apart after) (λ v w sv sw apart. apart-kept history a c (events.Write xid changes) lawful r (λ x. refl) v w sv sw apart) (versions_of history) (stamped history touched guards) one)
  where
    e : Entry
    e = entry_of a c (events.Write xid changes)

    after : List Entry
    after = history ++ e ∷ []

    stamp : Stamp
    stamp = record { xid = xid; command = c }

    f : ℕ → (ℕ → Bool) → Stamp → Bool
    f = counts_at after

    well : Runs after
    well = Runs-more history e r lawful

    runs : runs_as after a xid.0 ≡ true
    runs = ap (has_xid xid.0) (running-own history e a (eq-eqb a a refl)) ∙ eq-eqb xid.0 xid.0 refl

    unseen : is_visible (running_transaction_of after a) ≡ false
    unseen = ap is_visible (running-own history e a (eq-eqb a a refl)) ∙ begun_unseen (running_transaction_of history a) lawful.0
      where
        begun_unseen : (o : Option Running) → is_visible o ≡ false → is_visible (running_by c (events.Write xid changes) o) ≡ false
        begun_unseen None is = refl
        begun_unseen (Some t) is = is

    -- where the write counts: for its backend, at its command
    counted : (b : ℕ) (p : ℕ → Bool) → f b p stamp ≡ true → (a ≡ b) × (p c ≡ true)
    counted b p is =
        let parts = and_parts (runs_as after b xid.0) (p c) (sym (ap (λ t. t || (runs_as after b xid.0 && p c)) (well.hidden a xid.0 runs unseen)) ∙ is) in
        (well.one a b xid.0 runs parts.0, parts.1)

    -- an end of a version that a change ends counts where the write does, if at all
    Uncounted : List Item → Version → Type 0
    Uncounted items v = AllByRecursion (λ item. ends history a item v ≡ true → (b : ℕ) (p : ℕ → Bool) → f b p stamp ≡ false → IfSome v.ended (λ s. f b p s ≡ false)) items

    Sees : Version → Type 0
    Sees v = (p : ℕ → Bool) → IsDown p → f a p stamp ≡ true → seen_by (f a p) v ≡ true → sees history a v ≡ true

    Differs : List Item → Version → Type 0
    Differs items v = AllByRecursion (λ item. AllByRecursion (λ key. key_of v.row ≡ key → ⊥) (changed_key item)) items

    State : List Item → Version → Type 0
    State items v = Uncounted items v × ((Sees v × AllByRecursion (λ item. IsOther item v) items) ⊎ Differs items v)

    ended_at : Version → Version
    ended_at v = record { row = v.row; by = v.by; ended = Some stamp }

    other_ended : (items : List Item) (v : Version) → AllByRecursion (λ item. IsOther item v) items → AllByRecursion (λ item. IsOther item (ended_at v)) items
    other_ended items v all = every-weaker (λ item. IsOther item v) (λ item. IsOther item (ended_at v)) (λ item o. of item o) items all
      where
        of : (item : Item) → IsOther item v → IsOther item (ended_at v)
        of (forms.Add row) o = o
        of item o = tt

    hides : (b : ℕ) (p : ℕ → Bool) (v : Version) → f b p stamp ≡ true → seen_by (f b p) (ended_at v) ≡ true → ⊥
    hides b p v counts' seen = let parts = and_parts (f b p v.by) (not (f b p stamp)) seen in both_ways _ (not-true (f b p stamp) parts.1) counts'

    row_same : (item : Item) (v : Version) → (end_by (ends history a item) stamp v).row ≡ v.row
    row_same item v = of (ends history a item v)
      where
        of : (t : Bool) → (elim t as (λ x. Version) [ true ↦ ended_at v | false ↦ v ]).row ≡ v.row
        of true = refl
        of false = refl

    state_end : (item : Item) (items : List Item) (v : Version) → State (item ∷ items) v → State items (end_by (ends history a item) stamp v)
    state_end item items v st = by_test (ends history a item v) refl
      where
        kind : ((Sees v × AllByRecursion (λ x. IsOther x v) (item ∷ items)) ⊎ Differs (item ∷ items) v) → (Sees (ended_at v) × AllByRecursion (λ x. IsOther x (ended_at v)) items) ⊎ Differs items (ended_at v)
        kind (inl old) = inl ((λ p down counts' seen. absurd (hides a p v counts' seen)), other_ended items v old.1.1)
        kind (inr new) = inr new.1

        same : ((Sees v × AllByRecursion (λ x. IsOther x v) (item ∷ items)) ⊎ Differs (item ∷ items) v) → (Sees v × AllByRecursion (λ x. IsOther x v) items) ⊎ Differs items v
        same (inl old) = inl (old.0, old.1.1)
        same (inr new) = inr new.1

        by_test : (t : Bool) → ends history a item v ≡ t → State items (elim t [ true ↦ ended_at v | false ↦ v ])
        by_test true is = (every (λ x. ends history a x (ended_at v) ≡ true → (b : ℕ) (p : ℕ → Bool) → f b p stamp ≡ false → f b p stamp ≡ false) (λ x ends' b p none. none) items, kind st.1)
        by_test false is = (st.0.1, same st.1)

    end_seen : (item : Item) (items : List Item) (v : Version) → State (item ∷ items) v → (b : ℕ) (p : ℕ → Bool) → seen_by (f b p) (end_by (ends history a item) stamp v) ≡ true → seen_by (f b p) v ≡ true
    end_seen item items v st b p seen = by_test (ends history a item v) refl seen
      where
        none_counts : (o : Option Stamp) → IfSome o (λ s. f b p s ≡ false) → not (option_map_or (f b p) o false) ≡ true
        none_counts None free = refl
        none_counts (Some s) free = ap not free

        by_test : (t : Bool) → ends history a item v ≡ t → seen_by (f b p) (elim t [ true ↦ ended_at v | false ↦ v ]) ≡ true → seen_by (f b p) v ≡ true
        by_test true is here = let parts = and_parts (f b p v.by) (not (f b p stamp)) here in and_from (f b p v.by) (not (option_map_or (f b p) v.ended false)) parts.0 (none_counts v.ended (st.0.0 is b p (not-true (f b p stamp) parts.1)))
        by_test false is here = here

    -- a row that a change adds, and what was there
    new_apart : (item : Item) (items : List Item) (row : Row) → added_row item ≡ Some row → (v : Version) → State (item ∷ items) v → Apart after (end_by (ends history a item) stamp v) (record { row = row; by = stamp; ended = None })
    new_apart item items row is v st = λ key b p down seen also. by_test (sym (ap key_of (row_same item v)) ∙ key) b p down (ends history a item v) refl seen also
      where
        not_ended : (x : Item) → added_row x ≡ Some row → key_of v.row ≡ key_of row → sees history a v ≡ true → IsOther x v → ends history a x v ≡ false → ⊥
        not_ended (forms.Add new) added key sight other none = other (key ∙ ap key_of (let same : row ≡ new = cc in same))
        not_ended (forms.Put new) added key sight other none =
            let same : row ≡ new = cc in
            both_ways _ none (and_from (same_key (key_of v.row) (key_of new)) (sees history a v) (subst (λ k. same_key (key_of v.row) k ≡ true) (key ∙ ap key_of same) (key_refl (key_of v.row))) sight)
        not_ended (forms.Remove old) added key sight other none = absurd (cc)
        not_ended (forms.Force rel) added key sight other none = absurd (cc)

        clash : key_of v.row ≡ key_of row → (b : ℕ) (p : ℕ → Bool) → IsDown p → ends history a item v ≡ false → seen_by (f b p) v ≡ true → f b p stamp ≡ true → ((Sees v × AllByRecursion (λ x. IsOther x v) (item ∷ items)) ⊎ Differs (item ∷ items) v) → ⊥
        clash key b p down none seen counts' (inr new) = added_key (λ k. key_of v.row ≡ k → ⊥) item row is new.0 key
        clash key b p down none seen counts' (inl old) =
            let own = counted b p counts' in
            not_ended item is key (old.0 p down (subst (λ o. f o p stamp ≡ true) (sym own.0) counts') (subst (λ o. seen_by (f o p) v ≡ true) (sym own.0) seen)) old.1.0 none

        by_test : key_of v.row ≡ key_of row → (b : ℕ) (p : ℕ → Bool) → IsDown p → (t : Bool) → ends history a item v ≡ t → seen_by (f b p) (elim t [ true ↦ ended_at v | false ↦ v ]) ≡ true → (f b p stamp && true) ≡ true → ⊥
        by_test key b p down true ends' seen also = hides b p v (and_parts (f b p stamp) true also).0 seen
        by_test key b p down false ends' seen also = clash key b p down ends' seen (and_parts (f b p stamp) true also).0 st.1

    fold_apart : (items : List Item) (vs : List Version) → are_distinct_keys (flat_map changed_key items) ≡ true → AllByRecursion (State items) vs → Pairwise (Apart after) vs → Pairwise (Apart after) (fold (change_by history a stamp) vs items)
    fold_apart [] vs distinct held pairs = pairs
    fold_apart (item ∷ items) vs distinct held pairs = with_new (added_row item) refl (fold_apart items)
      where
        parts : AllByRecursion (λ k. list_any (same_key k) (flat_map changed_key items) ≡ false) (changed_key item) × (are_distinct_keys (flat_map changed_key items) ≡ true)
        parts = distinct_split item (flat_map changed_key items) distinct

        change : Version → Version
        change = end_by (ends history a item) stamp

        states_old : AllByRecursion (State items) (map change vs)
        states_old = every-map (State items) change vs (every-weaker (State (item ∷ items)) (λ v. State items (change v)) (state_end item items) vs held)

        pairs_old : Pairwise (Apart after) (map change vs)
        pairs_old = pair-map (Apart after) change vs (pair-weaker (State (item ∷ items)) (Apart after) (λ v w. Apart after (change v) (change w)) (λ v w sv sw apart. both v w sv sw apart) vs held pairs)
          where
            both : (v w : Version) → State (item ∷ items) v → State (item ∷ items) w → Apart after v w → Apart after (change v) (change w)
            both v w sv sw apart key b p down seen also = apart (sym (ap key_of (row_same item v)) ∙ key ∙ ap key_of (row_same item w)) b p down (end_seen item items v sv b p seen) (end_seen item items w sw b p also)

        with_new : (o : Option Row) → added_row item ≡ o → ((ws : List Version) → are_distinct_keys (flat_map changed_key items) ≡ true → AllByRecursion (State items) ws → Pairwise (Apart after) ws → Pairwise (Apart after) (fold (change_by history a stamp) ws items))
            → Pairwise (Apart after) (fold (change_by history a stamp) (map change vs ++ version_of stamp (added_row item)) items)
        with_new None is go = subst (λ o. Pairwise (Apart after) (fold (change_by history a stamp) (map change vs ++ version_of stamp o) items)) (sym is)
            (subst (λ ws. Pairwise (Apart after) (fold (change_by history a stamp) ws items)) (sym (append-nil (map change vs))) (go (map change vs) parts.1 states_old pairs_old))
        with_new (Some row) is go = subst (λ o. Pairwise (Apart after) (fold (change_by history a stamp) (map change vs ++ version_of stamp o) items)) (sym is)
            (go (map change vs ++ new ∷ []) parts.1
            (every-append (State items) (map change vs) (new ∷ []) states_old (state_new, tt))
            (pair-push (Apart after) (map change vs) new pairs_old (every-map (λ v. Apart after v new) change vs (every-weaker (State (item ∷ items)) (λ v. Apart after (change v) new) (new_apart item items row is) vs held))))
          where
            new : Version
            new = record { row = row; by = stamp; ended = None }

            state_new : State items new
            state_new = (
              every (λ x. ends history a x new ≡ true → (b : ℕ) (p : ℕ → Bool) → f b p stamp ≡ false → ⊤) (λ x ends' b p none. tt) items,
              inr (differ_from (key_of row) items (added_key (λ k. list_any (same_key k) (flat_map changed_key items) ≡ false) item row is parts.0)),
            )

    -- the versions that are there
    uncounted_end : (v : Version) (o : Option Stamp) → IfSome o (λ s. Touch history s v.row) → (counts history a v.by && not (option_map_or (counts history a) o false)) ≡ true → IfSome o (λ s. (someone : ℕ) → runs_as history someone s.xid.0 ≡ false) → (b : ℕ) (p : ℕ → Bool) → IfSome o (λ s. f b p s ≡ false)
    uncounted_end v None touch seen none b p = tt
    uncounted_end v (Some s) touch seen none b p =
        counts_at-same history a c (events.Write xid changes) b p s v.row lawful r refl touch ∙ ap (λ t. t || (runs_as history b s.xid.0 && p s.command)) (uncommitted (is_committed history s.xid.0) refl) ∙ ap (λ t. t && p s.command) (none b)
      where
        uncommitted : (t : Bool) → is_committed history s.xid.0 ≡ t → t ≡ false
        uncommitted false was = refl
        uncommitted true was = absurd (both_ways _ (ap (λ t. not (t || runs_as history a s.xid.0)) was) (and_parts (counts history a v.by) (not (counts history a s)) seen).1)

    sees_old : (v : Version) → OfStamps (Touch history) v → Sees v
    sees_old v touch p down counts' seen = sym (seen-same (f a p) (counts history a) v (stamps-weaker (Touch history) (λ s row. f a p s ≡ counts history a s) same v touch)) ∙ seen
      where
        below : (s : Stamp) (row : Row) → Touch history s row → (t : Bool) → runs_as history a s.xid.0 ≡ t → (is_committed history s.xid.0 || (t && p s.command)) ≡ (is_committed history s.xid.0 || t)
        below s row touch' false is = refl
        below s row touch' true is =
            let low : s.command ≤ c = any_with (is_of s.command) (λ w. w.command ≤ c) (s.command ≤ c) (λ w here short. omega (arith, eqb-true w.command s.command here)) (lists_of history a) (touch'.written a is) keyed.0 in
            ap (λ t. is_committed history s.xid.0 || t) (down s.command c low (counted a p counts').1)

        same : (s : Stamp) (row : Row) → Touch history s row → f a p s ≡ counts history a s
        same s row touch' = counts_at-same history a c (events.Write xid changes) a p s row lawful r refl touch' ∙ below s row touch' (runs_as history a s.xid.0) refl

    Old : Version → Type 0
    Old v = OfStamps (Touch history) v × (AllByRecursion (λ item. ends history a item v ≡ true → IfSome v.ended (λ s. (someone : ℕ) → runs_as history someone s.xid.0 ≡ false)) changes × AllByRecursion (λ item. IsOther item v) changes)

    olds : AllByRecursion Old (versions_of history)
    olds = every-both (OfStamps (Touch history)) _ (versions_of history) touched
        (every-both (λ v. AllByRecursion (λ item. ends history a item v ≡ true → IfSome v.ended (λ s. (someone : ℕ) → runs_as history someone s.xid.0 ≡ false)) changes) (λ v. AllByRecursion (λ item. IsOther item v) changes) (versions_of history)
        (every-swap (λ item v. ends history a item v ≡ true → IfSome v.ended (λ s. (someone : ℕ) → runs_as history someone s.xid.0 ≡ false)) changes (versions_of history)
        lawful.2)
        (every-swap IsOther changes (versions_of history) keyed.2))

    states : AllByRecursion (State changes) (versions_of history)
    states = every-weaker Old (State changes) (λ v old. (
      every-weaker (λ item. ends history a item v ≡ true → IfSome v.ended (λ s. (someone : ℕ) → runs_as history someone s.xid.0 ≡ false)) (λ item. ends history a item v ≡ true → (b : ℕ) (p : ℕ → Bool) → f b p stamp ≡ false → IfSome v.ended (λ s. f b p s ≡ false))
          (λ item none is b p off. uncounted_end v v.ended old.0.1 (and_parts _ (sees history a v) is).1 (none is) b p) changes old.1.0,
      inl (sees_old v old.0, old.1.1),
    )) (versions_of history) olds

-- one more entry
apart_by : (history : List Entry) (b c : ℕ) (event : Event) → IsLawful history (entry_of b c event) → KeysLawfully history b c event → Runs history → LocksWell history → Touched history → Guards history → OneRel history → OneVersion history
    → Pairwise (Apart (history ++ entry_of b c event ∷ [])) (versions_by history b c event (versions_of history))
apart_by history b c (events.Write xid changes) lawful keyed r locks touched guards rels one = section_write history b c xid changes lawful keyed r touched guards one
apart_by history b c (events.Gone from) lawful keyed r locks touched guards rels one =
    pair-map (Apart after) (end_back back) (filter (λ v. not (back v.by)) (versions_of history)) (pair-filter (λ v w. Apart after (end_back back v) (end_back back w)) (λ v. not (back v.by)) (versions_of history)
    (pair-weaker (Stamped history) (Apart history) (λ v w. not (back v.by) ≡ true → not (back w.by) ≡ true → Apart after (end_back back v) (end_back back w)) (λ v w sv sw apart kv kw. apart-gone history b c from lawful r v w sv sw apart kv kw) (versions_of history) (stamped history touched guards) one))
  where
    after : List Entry
    after = history ++ entry_of b c (events.Gone from) ∷ []

    back : Stamp → Bool
    back = is_back history b from
apart_by history b c (events.Visible xid) lawful keyed r locks touched guards rels one =
    pair-weaker (Stamped history) (λ v w. Apart history v w × SameRel v w) (Apart (history ++ entry_of b c (events.Visible xid) ∷ [])) (λ v w sv sw both. apart-visible history b c xid lawful r locks v w sv sw both.1 both.0) (versions_of history) (stamped history touched guards)
    (pair-both (Apart history) SameRel (versions_of history) one rels)
apart_by history b c event lawful keyed r locks touched guards rels one =
    pair-weaker (Stamped history) (Apart history) (Apart (history ++ entry_of b c event ∷ [])) (λ v w sv sw apart. apart-kept history b c event lawful r (λ x. refl) v w sv sw apart) (versions_of history) (stamped history touched guards) one

pub OneVersion-more : (history : List Entry) (e : Entry) → IsLawful history e → KeysLawfully history e.backend e.command e.event → Runs history → LocksWell history → Touched history → Guards history → OneRel history → OneVersion history → OneVersion (history ++ e ∷ [])
OneVersion-more history e lawful keyed r locks touched guards rels one = subst (Pairwise (Apart (history ++ e ∷ []))) (sym (versions-more history e)) (apart_by history e.backend e.command e.event lawful keyed r locks touched guards rels one)

-- and the relations
rel_write : (history : List Entry) (a c : ℕ) (x : Xid) (items : List Item) (vs : List Version) → are_distinct_keys (flat_map changed_key items) ≡ true
    → AllByRecursion (λ v. AllByRecursion (λ item. KeepsRel item v) items ⊎ AllByRecursion (λ item. AllByRecursion (λ key. key_of v.row ≡ key → ⊥) (changed_key item)) items) vs → Pairwise SameRel vs
    → Pairwise SameRel (fold (change_by history a (record { xid = x; command = c })) vs items)
rel_write history a c x [] vs distinct held pairs = pairs
rel_write history a c x (item ∷ items) vs distinct held pairs = with_new (added_row item) refl (rel_write history a c x items)
  where
    stamp : Stamp
    stamp = record { xid = x; command = c }

    change : Version → Version
    change = end_by (ends history a item) stamp

    State : List Item → Row → Type 0
    State left row = AllByRecursion (λ i. IfSome (added_row i) (λ new. key_of row ≡ key_of new → main_rel row ≡ main_rel new)) left ⊎ AllByRecursion (λ i. AllByRecursion (λ key. key_of row ≡ key → ⊥) (changed_key i)) left

    row_same : (v : Version) → (change v).row ≡ v.row
    row_same v = of (ends history a item v)
      where
        of : (t : Bool) → (elim t as (λ y. Version) [ true ↦ record { row = v.row; by = v.by; ended = Some stamp } | false ↦ v ]).row ≡ v.row
        of true = refl
        of false = refl

    less : (v : Version) → State (item ∷ items) v.row → State items v.row
    less v (inl keeps) = inl keeps.1
    less v (inr differs) = inr differs.1

    old_states : AllByRecursion (λ v. State items v.row) (map change vs)
    old_states = every-map (λ v. State items v.row) change vs (every-weaker (λ v. State (item ∷ items) v.row) (λ v. State items (change v).row) (λ v st. subst (State items) (sym (row_same v)) (less v st)) vs held)

    old_pairs : Pairwise SameRel (map change vs)
    old_pairs = pair-map SameRel change vs (pair-weaker (λ v. ⊤) SameRel (λ v w. SameRel (change v) (change w))
        (λ v w _ _ same key. ap main_rel (row_same v) ∙ same (sym (ap key_of (row_same v)) ∙ key ∙ ap key_of (row_same w)) ∙ sym (ap main_rel (row_same w))) vs (every (λ v. ⊤) (λ v. tt) vs) pairs)

    parts : AllByRecursion (λ k. list_any (same_key k) (flat_map changed_key items) ≡ false) (changed_key item) × (are_distinct_keys (flat_map changed_key items) ≡ true)
    parts = distinct_split item (flat_map changed_key items) distinct

    meets : (row : Row) → added_row item ≡ Some row → (v : Version) → State (item ∷ items) v.row → SameRel (change v) (record { row = row; by = stamp; ended = None })
    meets row is v (inl keeps) key = ap main_rel (row_same v) ∙ subst (λ o. IfSome o (λ new. key_of v.row ≡ key_of new → main_rel v.row ≡ main_rel new)) is keeps.0 (sym (ap key_of (row_same v)) ∙ key)
    meets row is v (inr differs) key = absurd (added_key (λ k. key_of v.row ≡ k → ⊥) item row is differs.0 (sym (ap key_of (row_same v)) ∙ key))

    with_new : (o : Option Row) → added_row item ≡ o → ((ws : List Version) → are_distinct_keys (flat_map changed_key items) ≡ true → AllByRecursion (λ v. State items v.row) ws → Pairwise SameRel ws → Pairwise SameRel (fold (change_by history a stamp) ws items))
        → Pairwise SameRel (fold (change_by history a stamp) (map change vs ++ version_of stamp (added_row item)) items)
    with_new None is go = subst (λ o. Pairwise SameRel (fold (change_by history a stamp) (map change vs ++ version_of stamp o) items)) (sym is)
        (subst (λ ws. Pairwise SameRel (fold (change_by history a stamp) ws items)) (sym (append-nil (map change vs))) (go (map change vs) parts.1 old_states old_pairs))
    with_new (Some row) is go = subst (λ o. Pairwise SameRel (fold (change_by history a stamp) (map change vs ++ version_of stamp o) items)) (sym is)
        (go (map change vs ++ new ∷ []) parts.1 (every-append (λ v. State items v.row) (map change vs) (new ∷ []) old_states (inr (differ_from (key_of row) items (added_key (λ k. list_any (same_key k) (flat_map changed_key items) ≡ false) item row is parts.0)), tt))
        (pair-push SameRel (map change vs) new old_pairs (every-map (λ v. SameRel v new) change vs (every-weaker (λ v. State (item ∷ items) v.row) (λ v. SameRel (change v) new) (meets row is) vs held))))
      where
        new : Version
        new = record { row = row; by = stamp; ended = None }

rels_by : (history : List Entry) (b c : ℕ) (event : Event) → KeysLawfully history b c event → OneRel history → Pairwise SameRel (versions_by history b c event (versions_of history))
rels_by history b c (events.Write xid changes) keyed rels =
    rel_write history b c xid changes (versions_of history) keyed.1 (every-weaker (λ v. AllByRecursion (λ item. KeepsRel item v) changes) (λ v. AllByRecursion (λ item. KeepsRel item v) changes ⊎ AllByRecursion (λ item. AllByRecursion (λ key. key_of v.row ≡ key → ⊥) (changed_key item)) changes) (λ v keeps. inl keeps) (versions_of history)
    (every-swap KeepsRel changes (versions_of history) keyed.3)) rels
rels_by history b c (events.Gone from) keyed rels =
    pair-map SameRel (end_back (is_back history b from)) (filter (λ v. not (is_back history b from v.by)) (versions_of history))
    (pair-filter SameRel (λ v. not (is_back history b from v.by)) (versions_of history) (pair-weaker (λ v. ⊤) SameRel (λ v w. not (is_back history b from v.by) ≡ true → not (is_back history b from w.by) ≡ true → SameRel v w) (λ v w _ _ same kv kw. same) (versions_of history) (every (λ v. ⊤) (λ v. tt) (versions_of history)) rels))
rels_by history b c event keyed rels = rels

pub OneRel-more : (history : List Entry) (e : Entry) → KeysLawfully history e.backend e.command e.event → OneRel history → OneRel (history ++ e ∷ [])
OneRel-more history e keyed rels = subst (Pairwise SameRel) (sym (versions-more history e)) (rels_by history e.backend e.command e.event keyed rels)
