-- By a clear lock a backend keeps out all whose modes conflict with it: so what it has read by a usable scan of rows that the lock keeps is the scan's answer, as far as it counts; and so of columns by any clear lock, but for what a weak mode may change.
use Rattle.std.proofs.Common.{◌≡◌, ◌∙◌, inl, inr, ℕ, Bool, true, false, Some, List, [], ◌∷◌, ◌++◌, ◌==◌, ◌||◌, ◌&&◌, refl, sym, ap, subst, map, filter, cond, take, drop}
use Rattle.std.specs.List.{AllByRecursion, list_any, list_all}
use Rattle.std.specs.Option.{option_map_or}
use Rattle.std.proofs.Math.Bool.{or-true}
use Rattle.std.proofs.lemmas.Bool.{eqb-true, and_parts, and_from}
use Rattle.std.proofs.lemmas.List.{take-append-drop}
use Rattle.base_types.specs.Modes.{mode_number, conflicting_modes, conflicts, same_mode}
use Rattle.base_types.specs.Scans.{same_oid}
use Rattle.base_types.specs.Scenario.{Scenario}
use Rattle.base_types.specs.declared.mode.Mode.TheVariants.{AccessShare, RowShare, RowExclusive, ShareUpdateExclusive, Share, ShareRowExclusive, Exclusive, AccessExclusive}
use Rattle.lock_modes.specs.Grants.{holds}
use Rattle.lock_modes.specs.Own.{is_own, has_lock, cleared, clear_modes}
use Rattle.ddl_effect.specs.Plans.{Plan}
use Rattle.history_model.specs.Covered.{counted_for}
use Rattle.history_model.specs.Held.{held_of}
use Rattle.history_model.specs.Sound.{MayComeNext, IsSound}
use Rattle.history_model.specs.Prefixes.{EachEntry}
use Rattle.history_model.specs.Read.{place_read, rows_read, is_usable}
use Rattle.history_model.specs.Versions.{answer_of}
use Rattle.history_model.proofs.ColumnsKept.{IsOfColumns, by_number, columns_leave}
use Rattle.history_model.proofs.Every.{every-weaker, SomeOf, from_some}
use Rattle.history_model.proofs.FixedRows.{fixed}
use Rattle.history_model.proofs.Prefixes.{EachEntry-weaker, EachEntry-prefix}
use Rattle.cacheless.specs.Types.{Oid, Mode, Row, Purpose, OwnLock, Entry}
use Rattle.cacheless.specs.ActsDone.{LockOn, IsHeldOn}
use Rattle.cacheless.specs.Locks.{grant_of}
use Rattle.cacheless.specs.Played.{IsPlayed}
use Rattle.cacheless.specs.Plays.{Plays}
use Rattle.cacheless.specs.Session.{Session}
use Rattle.cacheless.specs.Sessions.{session_of}
use Rattle.cacheless.specs.TableWrites.{WritesColumns}
use Rattle.cacheless.proofs.Answers.ReadPlaces.{read_at_place}
use Rattle.cacheless.proofs.ColumnAnswers.{numbered_same}
use Rattle.cacheless.proofs.HeldLocks.{Follows, locks_of, locks_are_held, lock_is_held}
use Rattle.cacheless.proofs.Plans.StillUnder.{rows_leave}
use Rattle.cacheless.proofs.Plans.UnderLocks.{modes_read, KeepsRows, KeepsColumns, GoesUnder}
use Rattle.cacheless.proofs.ProtectedFields.{AreKeptOut, kept_out_read}

same_conflicts : (writer mode other : Mode) → same_mode other mode ≡ true → conflicts writer mode ≡ true → conflicts writer other ≡ true
same_conflicts writer mode other same clash = ap (λ n. list_any (λ m. n == mode_number m) (conflicting_modes writer)) (eqb-true (mode_number other) (mode_number mode) same) ∙ clash

-- where all locks are clear, a mode that conflicts with one that is held conflicts with a clear one
pub clear_conflict : (writer : Mode) (rel : Oid) (mode : Mode) (locks : List OwnLock) → conflicts writer mode ≡ true → map cleared locks ≡ locks → has_lock locks rel mode ≡ true → list_any (conflicts writer) (clear_modes locks rel) ≡ true
clear_conflict writer rel mode [] clash clear has = absurd (cc has)
clear_conflict writer rel mode (lock ∷ locks) clash clear has = by_own (is_own rel mode lock) refl has (clear_conflict writer rel mode locks clash others)
  where
    others : map cleared locks ≡ locks
    others = cc

    is_clear : lock.clear ≡ true
    is_clear = let same : cleared lock ≡ lock = cc in sym (ap (λ l. l.clear) same)

    with_lock : Bool → List Mode
    with_lock t = map (λ l. l.mode) (cond t (lock ∷ filter (λ l. l.clear && same_oid l.rel rel) locks) (filter (λ l. l.clear && same_oid l.rel rel) locks))

    more : list_any (conflicts writer) (clear_modes locks rel) ≡ true → (t : Bool) → list_any (conflicts writer) (with_lock t) ≡ true
    more later true = ap (λ u. conflicts writer lock.mode || u) later ∙ or-true (conflicts writer lock.mode)
    more later false = later

    by_own : (t : Bool) → is_own rel mode lock ≡ t → (t || has_lock locks rel mode) ≡ true → (has_lock locks rel mode ≡ true → list_any (conflicts writer) (clear_modes locks rel) ≡ true)
        → list_any (conflicts writer) (with_lock (lock.clear && same_oid lock.rel rel)) ≡ true
    by_own true own is later =
        let parts = and_parts (same_oid lock.rel rel) (same_mode lock.mode mode) own in
        ap (λ t. list_any (conflicts writer) (with_lock t)) (and_from lock.clear (same_oid lock.rel rel) is_clear parts.0)
        ∙ ap (λ t. t || list_any (conflicts writer) (clear_modes locks rel)) (same_conflicts writer mode lock.mode parts.1 clash)
    by_own false own is later = more (later is) (lock.clear && same_oid lock.rel rel)

all-weaker : {X : Type 0} (p q : X → Bool) → ((x : X) → p x ≡ true → q x ≡ true) → (xs : List X) → list_all p xs ≡ true → list_all q xs ≡ true
all-weaker p q more [] all = refl
all-weaker p q more (x ∷ xs) all = let parts = and_parts (p x) (list_all p xs) all in and_from (q x) (list_all q xs) (more x parts.0) (all-weaker p q more xs parts.1)

-- so it keeps out these modes
pub modes_kept_out : (scenario : Scenario) (history : List Entry) (b : ℕ) (s : Session) (rel : Oid) (mode : Mode) (modes : List Mode) → session_of scenario history b ≡ Some s → map cleared s.locks ≡ s.locks → has_lock s.locks rel mode ≡ true
    → list_all (λ writer. conflicts writer mode) modes ≡ true → AreKeptOut scenario history b rel modes
modes_kept_out scenario history b s rel mode modes is clear has clash =
    all-weaker (λ writer. conflicts writer mode) (λ writer. list_any (conflicts writer) (option_map_or (λ x. clear_modes x.locks rel) (session_of scenario history b) []))
    (λ writer one. ap (λ o. list_any (conflicts writer) (option_map_or (λ x. clear_modes x.locks rel) o [])) is ∙ clear_conflict writer rel mode s.locks one clear has) modes clash

-- and what was read by a usable scan of rows that it keeps is the scan's answer, as far as it counts
rows_answer : (scenario : Scenario) (history : List Entry) (b : ℕ) (s : Session) (o : LockOn) (scan : Purpose) → IsSound history → Plays scenario history → session_of scenario history b ≡ Some s → map cleared s.locks ≡ s.locks → has_lock s.locks o.rel o.mode ≡ true
    → KeepsRows scan o → is_usable history b scan ≡ true → map (counted_for scan) (answer_of history b scan) ≡ map (counted_for scan) (rows_read history b scan)
rows_answer scenario history b s o scan sound plays is clear has keeps usable =
    kept_out_read scenario history b o.rel (map (counted_for scan)) scan (modes_read scan) (rows_leave scan o.rel keeps.0) sound plays (modes_kept_out scenario history b s o.rel o.mode (modes_read scan) is clear has keeps.1) usable

all_conflict : (mode : Mode) → conflicts AccessExclusive mode ≡ true
all_conflict AccessShare = refl
all_conflict RowShare = refl
all_conflict RowExclusive = refl
all_conflict ShareUpdateExclusive = refl
all_conflict Share = refl
all_conflict ShareRowExclusive = refl
all_conflict Exclusive = refl
all_conflict AccessExclusive = refl

-- any clear lock keeps out all who change columns by more than a weak mode may
pub lock_keeps_out : (scenario : Scenario) (history : List Entry) (b : ℕ) (s : Session) (rel : Oid) (mode : Mode) → session_of scenario history b ≡ Some s → map cleared s.locks ≡ s.locks → has_lock s.locks rel mode ≡ true → AreKeptOut scenario history b rel (AccessExclusive ∷ [])
lock_keeps_out scenario history b s rel mode is clear has =
    ap (λ o. list_any (conflicts AccessExclusive) (option_map_or (λ x. clear_modes x.locks rel) o []) && true) is ∙ ap (λ t. t && true) (clear_conflict AccessExclusive rel mode s.locks (all_conflict mode) clear has)

-- so what was read of a relation's columns by a usable scan is the scan's answer, but for what a weak mode may change
pub columns_answer : (scenario : Scenario) (history : List Entry) (b : ℕ) (s : Session) (rel : Oid) (mode : Mode) (scan : Purpose) → IsSound history → EachEntry WritesColumns history → Plays scenario history → session_of scenario history b ≡ Some s → map cleared s.locks ≡ s.locks
    → has_lock s.locks rel mode ≡ true → IsOfColumns rel scan → is_usable history b scan ≡ true → map fixed (answer_of history b scan) ≡ map fixed (rows_read history b scan)
columns_answer scenario history b s rel mode scan sound columns plays is clear has of usable =
    numbered_same before history b rel scan of (EachEntry-prefix MayComeNext before rest (subst IsSound whole sound)) (EachEntry-prefix WritesColumns before rest (subst (EachEntry WritesColumns) whole columns)) sound columns (same ∙ ap (by_number rel) (sym read)) ∙ ap (map fixed) read
  where
    before : List Entry
    before = take (place_read history b scan) history

    rest : List Entry
    rest = drop (place_read history b scan) history

    whole : history ≡ before ++ rest
    whole = sym (take-append-drop (place_read history b scan) history)

    read : answer_of before b scan ≡ rows_read history b scan
    read = read_at_place history b scan

    same : by_number rel (answer_of history b scan) ≡ by_number rel (rows_read history b scan)
    same = kept_out_read scenario history b rel (by_number rel) scan (AccessExclusive ∷ []) (columns_leave rel scan of) sound plays (lock_keeps_out scenario history b s rel mode is clear has) usable

-- what a session holds the history says too
pub session_holds : (scenario : Scenario) (history : List Entry) (b : ℕ) (s : Session) → IsSound history → session_of scenario history b ≡ Some s → (rel : Oid) (mode : Mode) → holds (held_of history) b rel mode ≡ has_lock s.locks rel mode
session_holds scenario history b s sound is rel mode = lock_is_held b rel mode (held_of history) s.locks
    (locks_are_held scenario history b (EachEntry-weaker MayComeNext Follows (λ before e comes. comes.follows.life) history sound) ∙ ap (λ o. map (grant_of b) (locks_of o)) is)

-- where all locks are clear, what was read by a usable scan of rows that one of these keeps is the scan's answer, as far as it counts
pub kept_now : (scenario : Scenario) (history : List Entry) (b : ℕ) (s : Session) (locked : List LockOn) (scan : Purpose) → IsPlayed scenario history → session_of scenario history b ≡ Some s → map cleared s.locks ≡ s.locks → AllByRecursion (IsHeldOn history b) locked
    → SomeOf (KeepsRows scan) locked → is_usable history b scan ≡ true → map (counted_for scan) (answer_of history b scan) ≡ map (counted_for scan) (rows_read history b scan)
kept_now scenario history b s locked scan played is clear held some usable = from_some (KeepsRows scan) (map (counted_for scan) (answer_of history b scan) ≡ map (counted_for scan) (rows_read history b scan)) locked
    (every-weaker (IsHeldOn history b) (λ o. KeepsRows scan o → map (counted_for scan) (answer_of history b scan) ≡ map (counted_for scan) (rows_read history b scan))
    (λ o has keeps. rows_answer scenario history b s o scan played.sound played.plays is clear (sym (session_holds scenario history b s played.sound is o.rel o.mode) ∙ has) keeps usable) locked held) some

-- and what a plan goes on with from a usable scan of what one of them keeps is what it goes on with from the scan's answer
pub goes_now : (scenario : Scenario) (history : List Entry) (b : ℕ) (s : Session) (locked : List LockOn) (scan : Purpose) (rest : List Row → Plan) → IsPlayed scenario history → session_of scenario history b ≡ Some s → map cleared s.locks ≡ s.locks → AllByRecursion (IsHeldOn history b) locked
    → GoesUnder locked scan rest → is_usable history b scan ≡ true → rest (rows_read history b scan) ≡ rest (answer_of history b scan)
goes_now scenario history b s locked scan rest played is clear held (inl anyhow) usable = anyhow (rows_read history b scan) ∙ sym (anyhow (answer_of history b scan))
goes_now scenario history b s locked scan rest played is clear held (inr (inl (some, by_counted))) usable = by_counted (rows_read history b scan) ∙ ap rest (sym same) ∙ sym (by_counted (answer_of history b scan))
  where
    Same : Type 0
    Same = map (counted_for scan) (answer_of history b scan) ≡ map (counted_for scan) (rows_read history b scan)

    same : Same
    same = kept_now scenario history b s locked scan played is clear held some usable
goes_now scenario history b s locked scan rest played is clear held (inr (inr (some, by_fixed))) usable = by_fixed (rows_read history b scan) ∙ ap rest (sym same) ∙ sym (by_fixed (answer_of history b scan))
  where
    Same : Type 0
    Same = map fixed (answer_of history b scan) ≡ map fixed (rows_read history b scan)

    same : Same
    same = from_some (KeepsColumns scan) Same locked (every-weaker (IsHeldOn history b) (λ o. KeepsColumns scan o → Same)
        (λ o has of. columns_answer scenario history b s o.rel o.mode scan played.sound played.columns played.plays is clear (sym (session_holds scenario history b s played.sound is o.rel o.mode) ∙ has) of usable) locked held) some
