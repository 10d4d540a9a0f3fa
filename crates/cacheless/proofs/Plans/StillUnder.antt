-- What acts gave is so still after one more entry: what is read under a lock that keeps it stays, and so do the locks, unless the entry gives one of them back.
use Rattle.std.proofs.Common.{◌≡◌, ◌∙◌, inl, inr, ◌==◌, ℕ, Bool, true, false, not, Some, List, [], ◌∷◌, ◌++◌, refl, sym, ap, subst, map, arith}
use Rattle.std.specs.List.{AllByRecursion}
use Rattle.std.proofs.Math.Bool.{or-false}
use Rattle.base_types.specs.declared.row.Row.TheVariants as rows
use Rattle.base_types.specs.declared.scan.Purpose.TheVariants as scans
use Rattle.event_kinds.specs.declared.entry.Event.TheVariants as events
use Rattle.lock_modes.specs.declared.grant.Grant.{Grant}
use Rattle.lock_modes.specs.Grants.{is_lock, holds}
use Rattle.ddl_effect.specs.Plans.{Plan, Done, Fails, Absent, Do, Lookup, Open, Search, Read, Lock, Write}
use Rattle.history_model.specs.Covered.{counted_for}
use Rattle.history_model.specs.Held.{held_of}
use Rattle.history_model.specs.Sound.{MayComeNext, IsSound}
use Rattle.history_model.specs.Prefixes.{EachEntry}
use Rattle.history_model.specs.Versions.{answer_of}
use Rattle.history_model.proofs.Answers.{other_answers}
use Rattle.history_model.proofs.Asking.{oid_eq}
use Rattle.history_model.proofs.EnoughModes.{mode_is}
use Rattle.history_model.proofs.Every.{every-weaker, every-append, every-both, any-filter, from_some}
use Rattle.history_model.proofs.FixedRows.{fixed}
use Rattle.history_model.proofs.Granted.{lock_parts}
use Rattle.history_model.proofs.HeldRows.{changed_under, unheld_visible}
use Rattle.history_model.proofs.Locked.{held_bars_all, held_bars_exclusive, none_held, IsNoChange, IsIdle, quiet_keeps, unchanged_answers, grant_kept, seen_firm, firm_seen, firm_stays, found_first}
use Rattle.history_model.proofs.Observed.{LeavesRead}
use Rattle.history_model.proofs.Ordered.{locks_exclude}
use Rattle.history_model.proofs.Prefixes.{EachEntry-more}
use Rattle.history_model.proofs.Reached.{next_rises}
use Rattle.history_model.proofs.Reading.{held_of-more as held-more}
use Rattle.history_model.proofs.Touched.{entry_of}
use Rattle.history_model.proofs.WeakChanges.{column_apart, fixed_visible, counted_leaves}
use Rattle.cacheless.specs.Types.{Oid, Mode, AccessExclusive, Kind, Row, Purpose, Entry, Event}
use Rattle.cacheless.specs.ActsDone.{LockOn, locks_by, after_given, reached, made_first, made_in, BeginWith, IsFirstStill, AreStill, named_by, IsDrawn, IsHeldOn, WayHolds, IsOtherLock}
use Rattle.cacheless.specs.TableWrites.{WritesColumns}
use Rattle.cacheless.proofs.ColumnAnswers.{columns_stay}
use Rattle.cacheless.proofs.Plans.UnderLocks.{relation_read, modes_read, KeepsRows, KeepsColumns, GoesUnder, Footing, at_first, adds_first, FollowsUnfound, FollowsOrder, begins_unfound, follows_after}
use Rattle.cacheless.proofs.Plans.Ways.{acts}

-- an entry that may come next, after a sound history of which each write keeps the columns of tables, as it does itself
pub record MayCome (history : List Entry) (e : Entry) : Type 0 where
  pub sound : IsSound history
  pub comes : MayComeNext history e
  pub columns : EachEntry WritesColumns history
  pub keeps : WritesColumns history e

-- what becomes visible leaves the rows of a scan for others, as far as they count, where its backend holds on the scan's relation none of the modes under which they are changed
pub rows_leave : (scan : Purpose) (rel : Oid) → relation_read scan ≡ Some rel → LeavesRead (map (counted_for scan)) scan rel (modes_read scan)
rows_leave (scans.RelName name) rel named = absurd (cc named)
rows_leave (scans.Constraint of) rel named = let same : of ≡ rel = cc named in subst (λ o. LeavesRead (map (counted_for (scans.Constraint of))) (scans.Constraint of) o (modes_read (scans.Constraint of))) same (counted_leaves of)
rows_leave scan rel named = (λ given others alike. alike, λ history a c xid b sound comes other none. ap (map (counted_for scan)) (unheld_visible history a c xid b rel scan (modes_read scan) sound comes other (changed_under scan rel named) none))

-- a relation stays found, and what a lock on it keeps stays
pub record StaysOn (now later : Purpose → List Row) (o : LockOn) : Type 0 where
  pub relation : (kind : Kind) → BeginWith o.rel kind (now (scans.Class o.rel)) → BeginWith o.rel kind (later (scans.Class o.rel))
  pub kept : (scan : Purpose) → KeepsRows scan o → map (counted_for scan) (later scan) ≡ map (counted_for scan) (now scan)
  pub columns : (scan : Purpose) → KeepsColumns scan o → map fixed (later scan) ≡ map fixed (now scan)

-- what a plan goes on with from a scan stays
goes_later : (now later : Purpose → List Row) (locked : List LockOn) (scan : Purpose) (rest : List Row → Plan) (given : List Row) → AllByRecursion (StaysOn now later) locked → GoesUnder locked scan rest → rest given ≡ rest (now scan) → rest given ≡ rest (later scan)
goes_later now later locked scan rest given stay (inl anyhow) still = anyhow given ∙ sym (anyhow (later scan))
goes_later now later locked scan rest given stay (inr (inl (some, by_counted))) still = still ∙ by_counted (now scan) ∙ ap rest (sym same) ∙ sym (by_counted (later scan))
  where
    Same : Type 0
    Same = map (counted_for scan) (later scan) ≡ map (counted_for scan) (now scan)

    same : Same
    same = from_some (KeepsRows scan) Same locked (every-weaker (StaysOn now later) (λ o. KeepsRows scan o → Same) (λ o stays. stays.kept scan) locked stay) some
goes_later now later locked scan rest given stay (inr (inr (some, by_fixed))) still = still ∙ by_fixed (now scan) ∙ ap rest (sym same) ∙ sym (by_fixed (later scan))
  where
    Same : Type 0
    Same = map fixed (later scan) ≡ map fixed (now scan)

    same : Same
    same = from_some (KeepsColumns scan) Same locked (every-weaker (StaysOn now later) (λ o. KeepsColumns scan o → Same) (λ o stays. stays.columns scan) locked stay) some

-- of both parts of a list
pub every_sides : {X : Type 0} (P : X → Type 0) (xs ys : List X) → AllByRecursion P (xs ++ ys) → AllByRecursion P xs × AllByRecursion P ys
every_sides P [] ys all = (tt, all)
every_sides P (x ∷ xs) ys all = let both = every_sides P xs ys all.1 in ((all.0, both.0), both.1)

first_later : (now later : Purpose → List Row) (on : Footing) (given : List Row) (plan : Plan) → FollowsUnfound on plan → AllByRecursion (StaysOn now later) on.locked → AllByRecursion (StaysOn now later) (made_first locks_by given plan)
    → IsFirstStill now plan given → IsFirstStill later plan given
first_later now later on [] (Do (Lookup name mode) rest) follows stay new still = tt
first_later now later on (rows.Class rel own kind fill ∷ more) (Do (Lookup name mode) rest) follows stay new still = new.0.relation kind still
first_later now later on (row ∷ more) (Do (Lookup name mode) rest) follows stay new still = tt
first_later now later on given (Do (Open rel kind) rest) follows stay new still = tt
first_later now later on given (Do (Search scan) rest) follows stay new still = goes_later now later on.locked scan rest given stay follows.0 still
first_later now later on given (Do (Read scan) rest) follows stay new still = goes_later now later on.locked scan rest given stay follows.0 still
first_later now later on given (Do (Lock rel mode) rest) follows stay new still = tt
first_later now later on given (Do (Write draft) rest) follows stay new still = tt
first_later now later on given plan follows stay new still = tt

still_later : (now later : Purpose → List Row) (on : Footing) (gave : List (List Row)) (plan : Plan) → FollowsUnfound on plan → AllByRecursion (StaysOn now later) on.locked → AllByRecursion (StaysOn now later) (made_in locks_by gave plan)
    → AreStill now plan gave → AreStill later plan gave
still_later now later on [] plan follows stay new still = tt
still_later now later on (given ∷ gave) plan follows stay new still =
    let both = every_sides (StaysOn now later) (made_first locks_by given plan) (made_in locks_by gave (after_given given plan)) new in (
      first_later now later on given plan follows stay both.0 still.0,
      still_later now later (adds_first on given plan) gave (after_given given plan) (follows_after on given plan follows)
          (every-append (StaysOn now later) on.locked (made_first locks_by given plan) stay both.0) both.1 still.1,
    )

-- a plan without an act
still_over : (later : Purpose → List Row) (gave : List (List Row)) (plan : Plan) → acts plan ≡ false → AreStill later plan gave
still_over later [] plan over = tt
still_over later (given ∷ gave) (Done told) over = (tt, still_over later gave (Done told) refl)
still_over later (given ∷ gave) (Fails error) over = (tt, still_over later gave (Fails error) refl)
still_over later (given ∷ gave) (Absent name) over = (tt, still_over later gave (Absent name) refl)
still_over later (given ∷ gave) (Do act rest) over = absurd (cc over)

-- what a command's acts gave is so still later, where what each of its locks keeps stays
pub still_after : (now later : Purpose → List Row) (gave : List (List Row)) (plan : Plan) → FollowsOrder plan → AllByRecursion (StaysOn now later) (made_in locks_by gave plan) → AreStill now plan gave → AreStill later plan gave
still_after now later gave plan follows stay still = by_test (acts plan) refl
  where
    by_test : (t : Bool) → acts plan ≡ t → AreStill later plan gave
    by_test true begins = still_later now later at_first gave plan (begins_unfound plan begins follows) tt stay still
    by_test false over = still_over later gave plan over

-- one more act on the way, that gave what is so
pub still-push : (now : Purpose → List Row) (gave : List (List Row)) (given : List Row) (plan : Plan) → AreStill now plan gave → IsFirstStill now (reached gave plan) given → AreStill now plan (gave ++ given ∷ [])
still-push now [] given plan still first = (first, tt)
still-push now (g ∷ gave) given plan still first = (still.0, still-push now gave given (after_given g plan) still.1 first)

-- another's entry leaves what is read under a lock that keeps it
other_rows : (history : List Entry) (a c : ℕ) (event : Event) (b : ℕ) (o : LockOn) (scan : Purpose) → IsSound history → MayComeNext history (entry_of a c event) → (a == b) ≡ false → IsHeldOn history b o → KeepsRows scan o
    → map (counted_for scan) (answer_of (history ++ entry_of a c event ∷ []) b scan) ≡ map (counted_for scan) (answer_of history b scan)
other_rows history a c (events.Visible xid) b o scan sound comes other held keeps =
    (rows_leave scan o.rel keeps.0).1 history a c xid b sound comes other (none_held (held_of history) b a o.rel (modes_read scan) (locks_exclude history sound).agree other (held_bars_all (held_of history) b o.rel o.mode (modes_read scan) held keeps.1))
other_rows history a c event b o scan sound comes other held keeps = ap (map (counted_for scan)) (other_answers history (entry_of a c event) b scan sound comes other tt)

-- and the columns of a relation that is locked in any mode, but for what a weak mode may change
other_columns : (history : List Entry) (a c : ℕ) (event : Event) (b : ℕ) (rel : Oid) (mode : Mode) → IsSound history → MayComeNext history (entry_of a c event) → (a == b) ≡ false → holds (held_of history) b rel mode ≡ true
    → map fixed (answer_of (history ++ entry_of a c event ∷ []) b (scans.Attribute rel)) ≡ map fixed (answer_of history b (scans.Attribute rel))
other_columns history a c (events.Visible xid) b rel mode sound comes other held = fixed_visible history a c xid b rel (scans.Attribute rel) (column_apart rel) sound comes other
    (sym (or-false (holds (held_of history) a rel AccessExclusive)) ∙ none_held (held_of history) b a rel (AccessExclusive ∷ []) (locks_exclude history sound).agree other (held_bars_exclusive (held_of history) b rel mode held))
other_columns history a c event b rel mode sound comes other held = ap (map fixed) (other_answers history (entry_of a c event) b (scans.Attribute rel) sound comes other tt)

-- so what a lock keeps stays after one more entry that is no change of the backend's own
pub stays_on : (history : List Entry) (e : Entry) (b : ℕ) (o : LockOn) → MayCome history e → ((e.backend == b) ≡ true → IsNoChange e.event) → IsHeldOn history b o → StaysOn (answer_of history b) (answer_of (history ++ e ∷ []) b) o
stays_on history e b o may unchanged held = record {
  relation = λ kind begins.
      let firm = firm_stays history e b o.rel begins.name kind may.sound may.comes (held_bars_exclusive (held_of history) b o.rel o.mode held, unchanged)
      (seen_firm history b o.rel begins.name kind (found_first history b (scans.Class o.rel) o.rel begins.name kind begins.fill begins.more may.sound begins.are)) in
      let seen = firm_seen (history ++ e ∷ []) b o.rel begins.name kind firm in
      record { name = seen.0; fill = seen.1.0; more = []; are = seen.1.1 };
  kept = λ scan keeps. rows_by scan keeps (e.backend == b) refl;
  columns = λ scan of. columns_by scan of (e.backend == b) refl;
}
  where
    rows_by : (scan : Purpose) → KeepsRows scan o → (t : Bool) → (e.backend == b) ≡ t → map (counted_for scan) (answer_of (history ++ e ∷ []) b scan) ≡ map (counted_for scan) (answer_of history b scan)
    rows_by scan keeps true own = ap (map (counted_for scan)) (unchanged_answers history e b scan may.sound may.comes own (unchanged own))
    rows_by scan keeps false other = other_rows history e.backend e.command e.event b o scan may.sound may.comes other held keeps

    columns_by : (scan : Purpose) → KeepsColumns scan o → (t : Bool) → (e.backend == b) ≡ t → map fixed (answer_of (history ++ e ∷ []) b scan) ≡ map fixed (answer_of history b scan)
    columns_by scan of true own = ap (map fixed) (unchanged_answers history e b scan may.sound may.comes own (unchanged own))
    columns_by scan of false other = columns_stay history (history ++ e ∷ []) b o.rel scan of may.sound may.columns (EachEntry-more MayComeNext history e may.sound may.comes) (EachEntry-more WritesColumns history e may.columns may.keeps)
        (other_columns history e.backend e.command e.event b o.rel o.mode may.sound may.comes other held)

-- what holds on the way of a command holds still after one more entry that is no change of the backend's own, where its locks are held still
way_kept : (history : List Entry) (e : Entry) (b : ℕ) (gave : List (List Row)) (plan : Plan) → MayCome history e → ((e.backend == b) ≡ true → IsNoChange e.event) → FollowsOrder plan → WayHolds history b gave plan
    → AllByRecursion (IsHeldOn (history ++ e ∷ []) b) (made_in locks_by gave plan) → WayHolds (history ++ e ∷ []) b gave plan
way_kept history e b gave plan may unchanged follows way held = record {
  locked = held;
  drawn = every-weaker (IsDrawn history) (IsDrawn (history ++ e ∷ [])) (λ rel low. omega (arith, low, next_rises history e)) (made_in named_by gave plan) way.drawn;
  still = still_after (answer_of history b) (answer_of (history ++ e ∷ []) b) gave plan follows
      (every-weaker (IsHeldOn history b) (StaysOn (answer_of history b) (answer_of (history ++ e ∷ []) b)) (λ o is. stays_on history e b o may unchanged is) (made_in locks_by gave plan) way.locked) way.still;
}

held_stays : (history : List Entry) (e : Entry) (b : ℕ) (o : LockOn) → IsIdle b history e → IsHeldOn history b o → IsHeldOn (history ++ e ∷ []) b o
held_stays history e b o idle held = ap (λ l. holds l b o.rel o.mode) (held-more history e) ∙ grant_kept e.backend e.command e.event (held_of history) b (is_lock b o.rel o.mode) (λ g is. (lock_parts b o.rel o.mode g is).0) idle held

-- so it is after an entry that is no write, no taking back and no release of the backend's own
pub way_stays : (history : List Entry) (e : Entry) (b : ℕ) (gave : List (List Row)) (plan : Plan) → MayCome history e → IsIdle b history e → FollowsOrder plan → WayHolds history b gave plan → WayHolds (history ++ e ∷ []) b gave plan
way_stays history e b gave plan may idle follows way = way_kept history e b gave plan may (λ own. quiet_keeps e.event (idle own)) follows way
    (every-weaker (IsHeldOn history b) (IsHeldOn (history ++ e ∷ []) b) (λ o is. held_stays history e b o idle is) (made_in locks_by gave plan) way.locked)

-- another grant stays
unlocked_spares : (b : ℕ) (rel : Oid) (mode : Mode) (o : LockOn) → IsOtherLock rel mode o → (g : Grant) → is_lock b o.rel o.mode g ≡ true → not (is_lock b rel mode g) ≡ true
unlocked_spares b rel mode o other g is = by_test (is_lock b rel mode g) refl
  where
    by_test : (t : Bool) → is_lock b rel mode g ≡ t → not t ≡ true
    by_test false none = refl
    by_test true also =
        let one = lock_parts b o.rel o.mode g is in
        let two = lock_parts b rel mode g also in
        absurd (other (sym (oid_eq g.rel o.rel one.1) ∙ oid_eq g.rel rel two.1) (sym (mode_is g.mode o.mode one.2) ∙ mode_is g.mode mode two.2))

-- and after a lock that is none of the way's is given back
pub way_unlocked : (history : List Entry) (b c : ℕ) (rel : Oid) (mode : Mode) (gave : List (List Row)) (plan : Plan) → MayCome history (entry_of b c (events.Unlock rel mode)) → FollowsOrder plan → WayHolds history b gave plan
    → AllByRecursion (IsOtherLock rel mode) (made_in locks_by gave plan) → WayHolds (history ++ entry_of b c (events.Unlock rel mode) ∷ []) b gave plan
way_unlocked history b c rel mode gave plan may follows way others = way_kept history (entry_of b c (events.Unlock rel mode)) b gave plan may (λ own. tt) follows way
    (every-weaker (λ o. IsHeldOn history b o × IsOtherLock rel mode o) (IsHeldOn (history ++ entry_of b c (events.Unlock rel mode) ∷ []) b) held (made_in locks_by gave plan) (every-both (IsHeldOn history b) (IsOtherLock rel mode) (made_in locks_by gave plan) way.locked others))
  where
    held : (o : LockOn) → IsHeldOn history b o × IsOtherLock rel mode o → IsHeldOn (history ++ entry_of b c (events.Unlock rel mode) ∷ []) b o
    held o both = ap (λ l. holds l b o.rel o.mode) (held-more history (entry_of b c (events.Unlock rel mode)))
        ∙ any-filter (is_lock b o.rel o.mode) (λ g. not (is_lock b rel mode g)) (λ g is. unlocked_spares b rel mode o both.1 g is) (held_of history) both.0
