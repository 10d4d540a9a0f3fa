-- By scans: under which modes the rows that a scan asks for are changed, and that whoever holds none of these on the relation leaves its answer for others.
use Rattle.std.proofs.Common.{◌≡◌, ◌≤◌, ◌⊎◌, inl, inr, ℕ, Bool, true, false, Option, Some, None, List, [], ◌∷◌, ◌++◌, ◌==◌, ◌&&◌, refl, sym, subst}
use Rattle.std.specs.Prelude.{nat_le}
use Rattle.std.specs.List.{AllByRecursion, list_any}
use Rattle.std.specs.Option.{IfSome}
use Rattle.std.specs.Str.{bytes_eq}
use Rattle.std.proofs.lemmas.Bool.{eqb-true, both_ways, and_parts, and_from, or_cases, or_parts}
use Rattle.base_types.specs.declared.ids.Oid.{Oid}
use Rattle.base_types.specs.declared.ids.Xid.{Xid}
use Rattle.base_types.specs.declared.mode.Mode.{Mode}
use Rattle.base_types.specs.declared.mode.Mode.TheVariants.{ShareUpdateExclusive, Share, ShareRowExclusive, AccessExclusive}
use Rattle.base_types.specs.declared.row.Row.{Row}
use Rattle.base_types.specs.declared.row.Row.TheVariants as rows
use Rattle.base_types.specs.declared.scan.Purpose.{Purpose}
use Rattle.base_types.specs.declared.scan.Purpose.TheVariants as scans
use Rattle.base_types.specs.Modes.{same_mode}
use Rattle.base_types.specs.Scans.{same_oid, selects}
use Rattle.event_kinds.specs.declared.entry.Entry.{Entry}
use Rattle.event_kinds.specs.declared.entry.Event.{Event}
use Rattle.event_kinds.specs.declared.entry.Event.TheVariants as events
use Rattle.event_kinds.specs.declared.entry.Item.{Item}
use Rattle.row_visibility.specs.declared.version.Stamp.{Stamp}
use Rattle.lock_modes.specs.declared.grant.Grant.{Grant}
use Rattle.lock_modes.specs.Grants.{is_lock, holds}
use Rattle.history_model.specs.Transactions.{runs_as}
use Rattle.history_model.specs.Versions.{versions_of, added_row, old_row, ends, counts, answer_of}
use Rattle.history_model.specs.Covered.{counted_for}
use Rattle.history_model.specs.Held.{held_of, held_by}
use Rattle.history_model.specs.MayFollow.{AllowsEvent}
use Rattle.history_model.specs.Orderly.{IsOrderlyEvent}
use Rattle.history_model.specs.Sound.{MayComeNext, IsSound}
use Rattle.history_model.proofs.Prefixes.{each-keeps}
use Rattle.history_model.proofs.Reading.{versions_of-more as versions-more}
use Rattle.history_model.proofs.Every.{every-weaker, every-swap, SomeOf, some-weaker, from_some}
use Rattle.history_model.proofs.Lawful.{IsLawful}
use Rattle.history_model.proofs.Asking.{oid_eq}
use Rattle.history_model.proofs.Touched.{entry_of, OfStamps, stamps-weaker}
use Rattle.history_model.proofs.Guards.{is_exclusive, guards_in, IsHeldIn, GuardBy, GuardsBy, GuardsBy-more, GuardsLawfully, IsOfHeld, any_with}
use Rattle.history_model.proofs.EnoughModes.{mode_is, IsHeldFor, under_update, under_share, under_row, kept_by, IsKept, held_kept}
use Rattle.history_model.proofs.Seen.{OneVersion}
use Rattle.history_model.proofs.Ordered.{Ordered, Ordered-start, Ordered-more, if_some, guarded_rows, guards_lawful, ended_named, early_at, lawful_of, sound_ordered}
use Rattle.history_model.proofs.Answers.{answer-kept, counts-other}

-- what a running transaction has touched its backend keeps by locks
abbrev pub KeptRows : List Entry → Type 0
KeptRows history = AllByRecursion (OfStamps (GuardBy IsKept history)) (versions_of history)

kept_of_held : IsOfHeld IsKept
kept_of_held old new a c row kept all = every-weaker (λ k. IsHeldIn k.1 old a c k.0) (λ k. IsHeldIn k.1 new a c k.0) (λ k is. kept k.1 k.0 is) (kept_by row) all

kept_lawful : (history : List Entry) (b c : ℕ) (event : Event) → AllowsEvent history b c event → IsOrderlyEvent history b event → OneVersion history → AllByRecursion (λ g. g.backend ≡ b → g.command ≤ c) (held_of history) → GuardsLawfully history b c event → GuardsBy IsKept history b c event
kept_lawful history b c (events.Write xid items) allows orderly one early guarding =
    every-weaker (λ item. IfSome (added_row item) (For item) × IfSome (old_row history b item) (For item)) (λ item. IfSome (added_row item) (IsKept held b c) × AllByRecursion (λ v. ends history b item v ≡ true → IsKept held b c v.row) (versions_of history))
    (λ item h. (
      if_some (For item) (IsKept held b c) (held_kept held b c (old_row history b item) item) (added_row item) h.0,
      ended_named history b (IsKept held b c) item one (if_some (For item) (IsKept held b c) (held_kept held b c (old_row history b item) item) (old_row history b item) h.1),
    )) items (guarded_rows history b c xid items allows.guarded orderly.keeps early)
  where
    held : List Grant
    held = held_by b c (events.Write xid items) (held_of history)

    For : Item → Row → Type 0
    For item = IsHeldFor held b c (old_row history b item) item
kept_lawful history b c event allows orderly one early guarding = guarding

KeptRows-more : (history : List Entry) (e : Entry) → Ordered history → MayComeNext history e → KeptRows history → KeptRows (history ++ e ∷ [])
KeptRows-more history e k comes held =
    let early = early_at history e k comes.follows.life in
    GuardsBy-more IsKept kept_of_held history e (lawful_of history e k comes)
    (kept_lawful history e.backend e.command e.event comes.follows.event comes.orderly k.one early (guards_lawful history e.backend e.command e.event comes.follows.event comes.orderly k early)) k.runs k.touched held

-- it holds of each sound history
pub sound_kept : (history : List Entry) → IsSound history → KeptRows history
sound_kept history sound = (each-keeps MayComeNext (λ h. Ordered h × KeptRows h) (Ordered-start, tt) (λ before e both comes. (Ordered-more before e both.0 comes, KeptRows-more before e both.0 comes both.1)) history sound).1

none_any : {X : Type 0} (p : X → Bool) (xs : List X) → list_any p xs ≡ false → AllByRecursion (λ x. p x ≡ false) xs
none_any p [] none = tt
none_any p (x ∷ xs) none = let parts = or_parts (p x) (list_any p xs) none in (parts.0, none_any p xs parts.1)

-- no grant in a mode that isn't held
pub not_held : (test : Mode → Bool) (modes : List Mode) (held : List Grant) (a c : ℕ) (rel : Oid) → ((mode : Mode) → test mode ≡ true → list_any (same_mode mode) modes ≡ true) → list_any (holds held a rel) modes ≡ false → IsHeldIn test held a c rel → ⊥
not_held test modes held a c rel among none is = any_with (guards_in test a c rel) (λ g. AllByRecursion (λ mode. is_lock a rel mode g ≡ false) modes) ⊥ of held is
    (every-swap (λ mode g. is_lock a rel mode g ≡ false) modes held (every-weaker (λ mode. holds held a rel mode ≡ false) (λ mode. AllByRecursion (λ g. is_lock a rel mode g ≡ false) held) (λ mode free. none_any (is_lock a rel mode) held free) modes (none_any (holds held a rel) modes none)))
  where
    of : (g : Grant) → guards_in test a c rel g ≡ true → AllByRecursion (λ mode. is_lock a rel mode g ≡ false) modes → ⊥
    of g here free =
        let p = and_parts ((g.backend == a) && nat_le g.command c) (same_oid g.rel rel && test g.mode) here in
        let q = and_parts (g.backend == a) (nat_le g.command c) p.0 in
        let r = and_parts (same_oid g.rel rel) (test g.mode) p.1 in
        any_with (same_mode g.mode) (λ mode. is_lock a rel mode g ≡ false) ⊥ (λ mode same not_lock. both_ways _ not_lock (and_from ((g.backend == a) && same_oid g.rel rel) (same_mode g.mode mode) (and_from (g.backend == a) (same_oid g.rel rel) q.0 r.0) same)) modes (among g.mode r.1) free

-- whoever changes a row that the scan asks for holds one of these modes on the relation
abbrev pub IsChangedUnder : List Mode → Purpose → Oid → Type 0
IsChangedUnder modes d rel = (row : Row) → selects d row ≡ true → SomeOf (λ k. (k.0 ≡ rel) × ((mode : Mode) → k.1 mode ≡ true → list_any (same_mode mode) modes ≡ true)) (kept_by row)

-- what becomes visible leaves the answer of such a scan, where its backend holds on the relation none of these modes
pub unheld_visible : (history : List Entry) (a c : ℕ) (xid : Xid) (b : ℕ) (rel : Oid) (d : Purpose) (modes : List Mode) → IsSound history → MayComeNext history (entry_of a c (events.Visible xid)) → (a == b) ≡ false → IsChangedUnder modes d rel
    → list_any (holds (held_of history) a rel) modes ≡ false → answer_of (history ++ entry_of a c (events.Visible xid) ∷ []) b d ≡ answer_of history b d
unheld_visible history a c xid b rel d modes sound comes other under none =
    answer-kept history after b d (versions-more history (entry_of a c (events.Visible xid)))
    (every-weaker (OfStamps (GuardBy IsKept history)) (OfStamps (λ s row. selects d row ≡ true → counts after b s ≡ counts history b s)) (stamps-weaker (GuardBy IsKept history) (λ s row. selects d row ≡ true → counts after b s ≡ counts history b s) same) (versions_of history) (sound_kept history sound))
  where
    after : List Entry
    after = history ++ entry_of a c (events.Visible xid) ∷ []

    lawful : IsLawful history (entry_of a c (events.Visible xid))
    lawful = lawful_of history (entry_of a c (events.Visible xid)) (sound_ordered history sound) comes

    IsBy : Oid × (Mode → Bool) → Type 0
    IsBy k = (k.0 ≡ rel) × ((mode : Mode) → k.1 mode ≡ true → list_any (same_mode mode) modes ≡ true)

    not_kept : (s : Stamp) (row : Row) → selects d row ≡ true → IsKept (held_of history) a s.command row → ⊥
    not_kept s row is kept = from_some IsBy ⊥ (kept_by row)
        (every-weaker (λ k. IsHeldIn k.1 (held_of history) a s.command k.0) (λ k. IsBy k → ⊥)
        (λ k held by. not_held k.1 modes (held_of history) a s.command rel by.1 none (subst (λ o. IsHeldIn k.1 (held_of history) a s.command o) by.0 held)) (kept_by row) kept) (under row is)

    same : (s : Stamp) (row : Row) → GuardBy IsKept history s row → selects d row ≡ true → counts after b s ≡ counts history b s
    same s row guard is = by_xid (xid.0 == s.xid.0) refl
      where
        by_xid : (t : Bool) → (xid.0 == s.xid.0) ≡ t → counts after b s ≡ counts history b s
        by_xid true one = absurd (not_kept s row is (guard a (subst (λ x. runs_as history a x ≡ true) (eqb-true xid.0 s.xid.0 one) lawful.1)))
        by_xid false differs = counts-other history a c (events.Visible xid) b s other differs

-- the modes under which rows that a scan asks for are changed on its relation
abbrev pub modes_of : Purpose → List Mode
modes_of (scans.AttrDef rel) = AccessExclusive ∷ []
modes_of (scans.IndexRow rel) = AccessExclusive ∷ []
modes_of (scans.Index rel) = Share ∷ AccessExclusive ∷ []
modes_of (scans.Trigger rel) = ShareRowExclusive ∷ AccessExclusive ∷ []
modes_of d = ShareUpdateExclusive ∷ AccessExclusive ∷ []

-- the relation on which whoever changes a row that a scan asks for holds a lock: none for a name, and none for constraints, since a foreign key is validated by a lock of its own relation alone
abbrev pub relation_kept : Purpose → Option Oid
relation_kept (scans.RelName name) = None
relation_kept (scans.RelOid rel) = Some rel
relation_kept (scans.AttName rel name) = Some rel
relation_kept (scans.AttList rel) = Some rel
relation_kept (scans.Class rel) = Some rel
relation_kept (scans.Attribute rel) = Some rel
relation_kept (scans.AttrDef rel) = Some rel
relation_kept (scans.Constraint rel) = None
relation_kept (scans.Index rel) = Some rel
relation_kept (scans.Trigger rel) = Some rel
relation_kept (scans.IndexRow rel) = Some rel

-- each row counts for such a scan as it is
pub kept_plain : (d : Purpose) (rel : Oid) → relation_kept d ≡ Some rel → (row : Row) → counted_for d row ≡ row
kept_plain (scans.Constraint of) rel named row = absurd (cc)
kept_plain d rel named row = refl

update_among : (mode : Mode) → under_update mode ≡ true → list_any (same_mode mode) (ShareUpdateExclusive ∷ AccessExclusive ∷ []) ≡ true
update_among ShareUpdateExclusive is = refl
update_among AccessExclusive is = refl
update_among mode is = absurd (cc)

share_among : (mode : Mode) → under_share mode ≡ true → list_any (same_mode mode) (Share ∷ AccessExclusive ∷ []) ≡ true
share_among Share is = refl
share_among AccessExclusive is = refl
share_among mode is = absurd (cc)

row_among : (mode : Mode) → under_row mode ≡ true → list_any (same_mode mode) (ShareRowExclusive ∷ AccessExclusive ∷ []) ≡ true
row_among ShareRowExclusive is = refl
row_among AccessExclusive is = refl
row_among mode is = absurd (cc)

exclusive_among : (mode : Mode) → is_exclusive mode ≡ true → list_any (same_mode mode) (AccessExclusive ∷ []) ≡ true
exclusive_among AccessExclusive is = refl
exclusive_among mode is = absurd (cc)

scan_changed : (d : Purpose) (row : Row) → selects d row ≡ true → IfSome (relation_kept d) (λ rel. SomeOf (λ k. (k.0 ≡ rel) × ((mode : Mode) → k.1 mode ≡ true → list_any (same_mode mode) (modes_of d) ≡ true)) (kept_by row))
scan_changed (scans.RelName name) row is = tt
scan_changed (scans.Constraint rel) row is = tt
scan_changed (scans.RelOid rel) (rows.Class oid own kind fill) is = inl (oid_eq oid rel is, update_among)
scan_changed (scans.Class rel) (rows.Class oid own kind fill) is = inl (oid_eq oid rel is, update_among)
scan_changed (scans.AttName rel name) (rows.Att of num own col_type stat live) is = inl (oid_eq of rel (and_parts (same_oid of rel) (bytes_eq own name) is).0, update_among)
scan_changed (scans.AttList rel) (rows.Att of num own col_type stat live) is = inl (oid_eq of rel is, update_among)
scan_changed (scans.Attribute rel) (rows.Att of num own col_type stat live) is = inl (oid_eq of rel is, update_among)
scan_changed (scans.AttrDef rel) (rows.Def oid of num word) is = inl (oid_eq of rel is, exclusive_among)
scan_changed (scans.Index rel) (rows.Ind index table state nums) is = inr (inl (oid_eq table rel is, share_among))
scan_changed (scans.IndexRow rel) (rows.Ind index table state nums) is = inl (oid_eq index rel is, exclusive_among)
scan_changed (scans.Trigger rel) (rows.Trg oid of own on) is = inl (oid_eq of rel is, row_among)
scan_changed d row is = absurd (cc)

-- so it is with each scan that has such a relation
pub changed_under : (d : Purpose) (rel : Oid) → relation_kept d ≡ Some rel → IsChangedUnder (modes_of d) d rel
changed_under d rel named row is = subst (λ o. IfSome o (λ of. SomeOf (λ k. (k.0 ≡ of) × ((mode : Mode) → k.1 mode ≡ true → list_any (same_mode mode) (modes_of d) ≡ true)) (kept_by row))) named (scan_changed d row is)

among_more : (modes others : List Mode) → AllByRecursion (λ m. list_any (same_mode m) others ≡ true) modes → (mode : Mode) → list_any (same_mode mode) modes ≡ true → list_any (same_mode mode) others ≡ true
among_more [] others all mode is = absurd (cc)
among_more (m ∷ modes) others all mode is = by_place (or_cases (same_mode mode m) (list_any (same_mode mode) modes) is) (among_more modes others all.1 mode)
  where
    by_place : (same_mode mode m ≡ true) ⊎ (list_any (same_mode mode) modes ≡ true) → (list_any (same_mode mode) modes ≡ true → list_any (same_mode mode) others ≡ true) → list_any (same_mode mode) others ≡ true
    by_place (inl here) rest = subst (λ x. list_any (same_mode x) others ≡ true) (sym (mode_is mode m here)) all.0
    by_place (inr there) rest = rest there

-- and with more modes
pub changed_more : (modes others : List Mode) (d : Purpose) (rel : Oid) → AllByRecursion (λ m. list_any (same_mode m) others ≡ true) modes → IsChangedUnder modes d rel → IsChangedUnder others d rel
changed_more modes others d rel all under row is = some-weaker (λ k. (k.0 ≡ rel) × ((mode : Mode) → k.1 mode ≡ true → list_any (same_mode mode) modes ≡ true)) (λ k. (k.0 ≡ rel) × ((mode : Mode) → k.1 mode ≡ true → list_any (same_mode mode) others ≡ true))
    (λ k by. (by.0, λ mode passes. among_more modes others all mode (by.1 mode passes))) (kept_by row) (under row is)
