-- A backend that holds a lock which is clear is past all that others changed under locks in its way.
use Rattle.std.proofs.Common.{◌≡◌, ◌≤◌, ◌+◌, ◌∙◌, ℕ, Bool, true, false, not, Option, Some, None, List, [], ◌∷◌, ◌++◌, ◌==◌, ◌||◌, ◌&&◌, if◌then◌else◌, refl, sym, ap, subst, map, filter, length, arith}
use Rattle.std.specs.Prelude.{⊤, nat_lt}
use Rattle.std.specs.List.{AllByRecursion, flat_map}
use Rattle.std.specs.Option.{option_map}
use Rattle.std.proofs.lemmas.Bool.{eqb-true, eqb-false, eq-eqb, both_ways, ltb-false}
use Rattle.base_types.specs.Scenario.{Scenario}
use Rattle.base_types.specs.declared.command.Command.{Command}
use Rattle.base_types.specs.declared.mode.Mode.{Mode}
use Rattle.base_types.specs.Modes.{conflicts}
use Rattle.event_kinds.specs.declared.entry.Entry.{Entry}
use Rattle.event_kinds.specs.declared.entry.Event.{Event}
use Rattle.event_kinds.specs.declared.entry.Event.TheVariants as events
use Rattle.lock_modes.specs.declared.grant.Grant.{Grant}
use Rattle.lock_modes.specs.declared.own_lock.OwnLock.{OwnLock}
use Rattle.lock_modes.specs.Grants.{is_lock, stays}
use Rattle.lock_modes.specs.Own.{cleared}
use Rattle.history_model.specs.Reached.{reached_of}
use Rattle.history_model.specs.Lives.{life_of, is_alive, last_event_of}
use Rattle.history_model.specs.Transactions.{running_transaction_of, after_release, begun, is_visible}
use Rattle.txn_blocks.specs.declared.transaction.RunningTransaction.{RunningTransaction as Running}
use Rattle.history_model.specs.Log.{log_of, position_of, is_waiting, waited_by, has_waited}
use Rattle.history_model.specs.Held.{granted_by, held_by, held_of}
use Rattle.history_model.specs.MayFollow.{MayRelease}
use Rattle.history_model.specs.Sound.{MayComeNext, IsSound}
use Rattle.history_model.specs.Prefixes.{EachEntry}
use Rattle.history_model.specs.Changing.{is_empty}
use Rattle.history_model.proofs.Prefixes.{EachEntry-more, EachEntry-weaker, EachFrom-both, each-keeps}
use Rattle.history_model.proofs.Reading.{held_of-more, life_of-own, last_event_of-own, last_event_of-other, running_transaction_of-own, log_of-more, position_of-own}
use Rattle.history_model.proofs.Every.{every-weaker, every, every-append, every-filter, every-kept, every-both}
use Rattle.history_model.proofs.Waiting.{waited_of-own, waited_of-other}
use Rattle.history_model.proofs.Exclude.{Agree}
use Rattle.history_model.proofs.Touched.{entry_of}
use Rattle.history_model.proofs.Ordered.{locks_exclude}
use Rattle.history_model.proofs.Accounted.{sound_placed}
use Rattle.history_model.proofs.Granted.{granted_to, unheld}
use Rattle.history_model.proofs.Past.{IsPast, past-end, past-other, past-own, past-new}
use Rattle.cacheless.specs.declared.progress.Due.{Due}
use Rattle.cacheless.specs.declared.progress.Due.TheVariants as dues
use Rattle.cacheless.specs.Facts.{due_last, Facts, facts_of}
use Rattle.cacheless.specs.Locks.{grant_of, locks_by}
use Rattle.cacheless.specs.Session.{Session, first_of}
use Rattle.cacheless.specs.Work.{work_of}
use Rattle.cacheless.specs.Owed.{Owes, OwesLook, OwesFetch, OwesScan, owed_first_in, owed_after, owes_build_in, accepts_in}
use Rattle.cacheless.specs.Settled.{settled}
use Rattle.cacheless.specs.Sessions.{placed_at, counted, entered, commands_left, session_of}
use Rattle.cacheless.specs.Plays.{IsNext, Plays}
use Rattle.cacheless.proofs.FactsAfter.{facts_by}
use Rattle.cacheless.proofs.Reading.{session_of-own, session_of-other}
use Rattle.cacheless.proofs.Settling.{is_empty-after}
use Rattle.cacheless.proofs.HeldLocks.{is_of, locks_of, settled-locks, counted-locks, Follows, locks_are_held}
use Rattle.cacheless.proofs.Allowed.Patient.{IsNoFetch, IsPatient, patient}

-- what is known while so much is owed: nothing while a fetch is; where a look is, only if nothing waited
abbrev pub Known : List Owes → Bool → Type 0 → Type 0
Known (OwesFetch ∷ more) waited P = ⊤
Known (OwesLook ∷ more) waited P = waited ≡ false → P
Known owed waited P = P

known-weaker : (owed : List Owes) (waited : Bool) (P Q : Type 0) → (P → Q) → Known owed waited P → Known owed waited Q
known-weaker (OwesFetch ∷ more) waited P Q weaker known = tt
known-weaker (OwesLook ∷ more) waited P Q weaker known = λ none. weaker (known none)
known-weaker (OwesScan scan ∷ more) waited P Q weaker known = weaker known
known-weaker [] waited P Q weaker known = weaker known

-- after a look that says no
known-looked : (owed : List Owes) (waited : Bool) (P : Type 0) → IsNoFetch owed → waited ≡ false → Known owed waited P → P
known-looked (OwesFetch ∷ more) waited P no_fetch none known = absurd no_fetch
known-looked (OwesLook ∷ more) waited P no_fetch none known = known none
known-looked (OwesScan scan ∷ more) waited P no_fetch none known = known
known-looked [] waited P no_fetch none known = known

-- a grant of the backend, by the history after it
abbrev pub KnowsOf : List Entry → ℕ → List Owes → Bool → Grant → Type 0
KnowsOf history b owed waited g = (g.backend == b) ≡ true → Known owed waited (IsPast history b g.rel g.mode)

-- with each grant that a backend holds it is past what others changed, if it owes nothing
abbrev pub Comes : List Entry → ℕ → Type 0
Comes history b = AllByRecursion (KnowsOf history b (owed_after (due_last (last_event_of history b))) (has_waited history b)) (held_of history)

ended_all : (c from : ℕ) (r : Option Running) → option_map (λ t. t.first) r ≡ Some from → after_release from (begun c r) ≡ None
ended_all c from None is = absurd (cc)
ended_all c from (Some t) is = let same : t.first ≡ from = cc in ap (λ u. if u then None else Some t) (eq-eqb t.first from same)

no_more : (alive : Bool) (at end : ℕ) → alive ≡ true → (alive && nat_lt at end) ≡ false → end ≤ at
no_more true at end is none = ltb-false at end none
no_more false at end is none = absurd (cc)

known-from : (owed : List Owes) (waited : Bool) (P : Type 0) → P → Known owed waited P
known-from (OwesFetch ∷ more) waited P p = tt
known-from (OwesLook ∷ more) waited P p = λ none. p
known-from (OwesScan scan ∷ more) waited P p = p
known-from [] waited P p = p

-- at the log's end all is known
all_past : (history : List Entry) (b : ℕ) (owed : List Owes) (waited : Bool) (held : List Grant) → length (log_of history) ≤ position_of history b → AllByRecursion (KnowsOf history b owed waited) held
all_past history b owed waited held at = every (KnowsOf history b owed waited) (λ g mine. known-from owed waited (IsPast history b g.rel g.mode) (past-end history b g.rel g.mode at)) held

-- where nothing waits, a backend is there
not_waiting : (history : List Entry) (e : Entry) (b : ℕ) → (e.backend == b) ≡ true → is_alive (life_of (history ++ e ∷ []) b) ≡ true → is_waiting (history ++ e ∷ []) b ≡ false → length (log_of (history ++ e ∷ [])) ≤ position_of (history ++ e ∷ []) b
not_waiting history e b own alive none = no_more (is_alive (life_of (history ++ e ∷ []) b)) (position_of (history ++ e ∷ []) b) (length (log_of (history ++ e ∷ []))) alive none

-- what was held before an own entry is known after it, where nothing was owed
kept_own : (history : List Entry) (b c : ℕ) (event : Event) (held : List Grant) (waited : Bool) → IsSound history → ((from : ℕ) → event ≡ events.Release from → is_visible (running_transaction_of history b) ≡ false) → owed_after (due_last (last_event_of history b)) ≡ []
    → AllByRecursion (KnowsOf history b (owed_after (due_last (last_event_of history b))) (has_waited history b)) held → AllByRecursion (KnowsOf (history ++ entry_of b c event ∷ []) b [] waited) held
kept_own history b c event held waited sound hidden nothing known =
    every-weaker (KnowsOf history b (owed_after (due_last (last_event_of history b))) (has_waited history b)) (KnowsOf (history ++ entry_of b c event ∷ []) b [] waited)
    (λ g knows mine. past-own history (entry_of b c event) b g.rel g.mode (eq-eqb b b refl) (sound_placed history sound) hidden (subst (λ owed. Known owed (has_waited history b) (IsPast history b g.rel g.mode)) nothing (knows mine))) held known

comes_by : (history : List Entry) (b c : ℕ) (event : Event) → IsSound history → MayComeNext history (entry_of b c event) → IsPatient (owed_after (due_last (last_event_of history b))) event → Comes history b
    → AllByRecursion (KnowsOf (history ++ entry_of b c event ∷ []) b (owed_after (due_last (Some event))) (waited_by (history ++ entry_of b c event ∷ []) b event (has_waited history b))) (held_by b c event (held_of history))
comes_by history b c events.Start sound comes patient' known =
    all_past (history ++ entry_of b c events.Start ∷ []) b [] (is_waiting (history ++ entry_of b c events.Start ∷ []) b) (held_of history)
    (omega (arith, ap length (log_of-more history (entry_of b c events.Start)), position_of-own history (entry_of b c events.Start) b (eq-eqb b b refl)))
comes_by history b c (events.Look true) sound comes patient' known = every (λ g. (g.backend == b) ≡ true → ⊤) (λ g mine. tt) (held_of history)
comes_by history b c (events.Look false) sound comes patient' known =
    every-weaker (KnowsOf history b (owed_after (due_last (last_event_of history b))) (has_waited history b)) (KnowsOf (history ++ entry_of b c (events.Look false) ∷ []) b [] (has_waited history b))
    (λ g knows mine. past-own history (entry_of b c (events.Look false)) b g.rel g.mode (eq-eqb b b refl) (sound_placed history sound) (λ from release. absurd (cc))
    (known-looked (owed_after (due_last (last_event_of history b))) (has_waited history b) (IsPast history b g.rel g.mode) patient' comes.follows.event (knows mine))) (held_of history) known
comes_by history b c (events.Fetch count) sound comes patient' known = by_full (count == 32) refl
  where
    e : Entry
    e = entry_of b c (events.Fetch count)

    after : List Entry
    after = history ++ e ∷ []

    by_full : (t : Bool) → (count == 32) ≡ t → AllByRecursion (KnowsOf after b (owed_after (elim t as (λ x. Due) [ true ↦ dues.Look | false ↦ dues.Nothing ])) (is_waiting after b)) (held_of history)
    by_full true full = every (KnowsOf after b (OwesLook ∷ []) (is_waiting after b))
        (λ g mine none. past-end after b g.rel g.mode (not_waiting history e b (eq-eqb b b refl) (ap is_alive (life_of-own history e b (eq-eqb b b refl))) none)) (held_of history)
    by_full false short = all_past after b [] (is_waiting after b) (held_of history)
        (omega (arith, ap length (log_of-more history e), position_of-own history e b (eq-eqb b b refl), comes.follows.event.1, eqb-false count 32 short))
comes_by history b c (events.LockOk rel mode) sound comes patient' known =
    every (KnowsOf (history ++ entry_of b c (events.LockOk rel mode) ∷ []) b (OwesLook ∷ []) (is_waiting (history ++ entry_of b c (events.LockOk rel mode) ∷ []) b))
    (λ g mine none. past-end (history ++ entry_of b c (events.LockOk rel mode) ∷ []) b g.rel g.mode
    (not_waiting history (entry_of b c (events.LockOk rel mode)) b (eq-eqb b b refl) (ap is_alive (life_of-own history (entry_of b c (events.LockOk rel mode)) b (eq-eqb b b refl))) none)) (held_by b c (events.LockOk rel mode) (held_of history))
comes_by history b c (events.Write xid items) sound comes patient' known =
    every-append (KnowsOf after b [] (is_waiting after b)) (held_of history) (flat_map (granted_by b c) items)
    (kept_own history b c (events.Write xid items) (held_of history) (is_waiting after b) sound (λ from release. absurd (cc)) patient' known)
    (every-weaker (λ g. IsPast after b g.rel g.mode) (KnowsOf after b [] (is_waiting after b)) (λ g past mine. past) (flat_map (granted_by b c) items) (past-new history b c xid items sound comes.follows.event))
  where
    after : List Entry
    after = history ++ entry_of b c (events.Write xid items) ∷ []
comes_by history b c (events.Unlock rel mode) sound comes patient' known =
    every-kept (KnowsOf (history ++ entry_of b c (events.Unlock rel mode) ∷ []) b [] (is_waiting (history ++ entry_of b c (events.Unlock rel mode) ∷ []) b)) (λ g. not (is_lock b rel mode g)) (held_of history)
    (kept_own history b c (events.Unlock rel mode) (held_of history) (is_waiting (history ++ entry_of b c (events.Unlock rel mode) ∷ []) b) sound (λ from release. absurd (cc)) patient' known)
comes_by history b c (events.Release from) sound comes patient' known = by_visible (is_visible (running_transaction_of history b)) refl comes.follows.event.1
  where
    e : Entry
    e = entry_of b c (events.Release from)

    after : List Entry
    after = history ++ e ∷ []

    by_visible : (v : Bool) → is_visible (running_transaction_of history b) ≡ v → MayRelease v history b from → AllByRecursion (KnowsOf after b [] (is_waiting after b)) (filter (stays b from) (held_of history))
    by_visible true shown may =
        let none : running_transaction_of after b ≡ None = running_transaction_of-own history e b (eq-eqb b b refl) ∙ ended_all c from (running_transaction_of history b) may.0 in
        subst (AllByRecursion (KnowsOf after b [] (is_waiting after b))) (held_of-more history e)
        (every-weaker (λ g. (g.backend == b) ≡ true → ⊥) (KnowsOf after b [] (is_waiting after b)) (λ g not' mine. absurd (not' mine)) (held_of after) (unheld after b (EachEntry-more MayComeNext history e sound comes) none))
    by_visible false hidden may = every-filter (KnowsOf after b [] (is_waiting after b)) (stays b from) (held_of history)
        (every-weaker (KnowsOf after b [] (is_waiting after b)) (λ g. stays b from g ≡ true → KnowsOf after b [] (is_waiting after b) g) (λ g knows stays'. knows) (held_of history)
        (kept_own history b c (events.Release from) (held_of history) (is_waiting after b) sound (λ at release. hidden) patient' known))
comes_by history b c events.Stop sound comes patient' known =
    every-weaker (λ g. (g.backend == b) ≡ true → ⊥) (KnowsOf (history ++ entry_of b c events.Stop ∷ []) b [] (is_waiting (history ++ entry_of b c events.Stop ∷ []) b)) (λ g not' mine. absurd (not' mine)) (held_of history) (unheld history b sound comes.follows.event)
comes_by history b c events.FetchReset sound comes patient' known =
    all_past (history ++ entry_of b c events.FetchReset ∷ []) b [] (is_waiting (history ++ entry_of b c events.FetchReset ∷ []) b) (held_of history)
    (omega (arith, ap length (log_of-more history (entry_of b c events.FetchReset)), position_of-own history (entry_of b c events.FetchReset) b (eq-eqb b b refl)))
comes_by history b c event sound comes patient' known = kept_own history b c event (held_of history) (waited_by (history ++ entry_of b c event ∷ []) b event (has_waited history b)) sound (λ from release. absurd (cc)) patient' known

-- after an own entry
comes_own : (history : List Entry) (b c : ℕ) (event : Event) → IsSound history → MayComeNext history (entry_of b c event) → IsPatient (owed_after (due_last (last_event_of history b))) event → Comes history b → Comes (history ++ entry_of b c event ∷ []) b
comes_own history b c event sound comes patient' known =
    subst (λ held. AllByRecursion (KnowsOf after b (owed_after (due_last (last_event_of after b))) (has_waited after b)) held) (sym (held_of-more history e))
    (subst (λ last. AllByRecursion (KnowsOf after b (owed_after (due_last last)) (has_waited after b)) (held_by b c event (held_of history))) (sym (last_event_of-own history e b (eq-eqb b b refl)))
    (subst (λ waited. AllByRecursion (KnowsOf after b (owed_after (due_last (Some event))) waited) (held_by b c event (held_of history))) (sym (waited_of-own history e b (eq-eqb b b refl))) (comes_by history b c event sound comes patient' known)))
  where
    e : Entry
    e = entry_of b c event

    after : List Entry
    after = history ++ e ∷ []

-- and after another's
comes_other : (history : List Entry) (e : Entry) (b : ℕ) → (e.backend == b) ≡ false → IsSound history → Comes history b → Comes (history ++ e ∷ []) b
comes_other history e b other sound known =
    subst (λ held. AllByRecursion (KnowsOf after b (owed_after (due_last (last_event_of after b))) (has_waited after b)) held) (sym (held_of-more history e))
    (subst (λ last. AllByRecursion (KnowsOf after b (owed_after (due_last last)) (has_waited after b)) (held_by e.backend e.command e.event (held_of history))) (sym (last_event_of-other history e b other))
    (subst (λ waited. AllByRecursion (KnowsOf after b owed waited) (held_by e.backend e.command e.event (held_of history))) (sym (waited_of-other history e b other)) (of e.event)))
  where
    after : List Entry
    after = history ++ e ∷ []

    owed : List Owes
    owed = owed_after (due_last (last_event_of history b))

    On : Grant → Type 0
    On = KnowsOf after b owed (has_waited history b)

    kept : (g : Grant) → KnowsOf history b owed (has_waited history b) g × AllByRecursion (Agree g) (held_of history) → On g
    kept g both mine =
        let same : g.backend ≡ b = eqb-true g.backend b mine in
        known-weaker owed (has_waited history b) (IsPast history b g.rel g.mode) (IsPast after b g.rel g.mode)
        (λ past. subst (λ o. IsPast after o g.rel g.mode) same (past-other history e g (subst (λ o. (e.backend == o) ≡ false) (sym same) other) both.1 (subst (λ o. IsPast history o g.rel g.mode) (sym same) past))) (both.0 mine)

    old : AllByRecursion On (held_of history)
    old = every-weaker (λ g. KnowsOf history b owed (has_waited history b) g × AllByRecursion (Agree g) (held_of history)) On kept (held_of history)
        (every-both (KnowsOf history b owed (has_waited history b)) (λ g. AllByRecursion (Agree g) (held_of history)) (held_of history) known (locks_exclude history sound).agree)

    theirs : (g : Grant) → g.backend ≡ e.backend → On g
    theirs g is mine = absurd (both_ways _ other (eq-eqb e.backend b (sym is ∙ eqb-true g.backend b mine)))

    of : (event : Event) → AllByRecursion On (held_by e.backend e.command event (held_of history))
    of (events.LockOk rel mode) = every-append On (held_of history) (record { backend = e.backend; command = e.command; rel = rel; mode = mode } ∷ []) old (theirs (record { backend = e.backend; command = e.command; rel = rel; mode = mode }) refl, tt)
    of (events.Write xid items) = every-append On (held_of history) (flat_map (granted_by e.backend e.command) items) old
        (every-weaker (λ g. (g.backend ≡ e.backend) × (g.command ≡ e.command)) On (λ g at. theirs g at.0) (flat_map (granted_by e.backend e.command) items) (granted_to e.backend e.command items))
    of (events.Unlock rel mode) = every-kept On (λ g. not (is_lock e.backend rel mode g)) (held_of history) old
    of (events.Release from) = every-filter On (stays e.backend from) (held_of history) (every-weaker On (λ g. stays e.backend from g ≡ true → On g) (λ g on stays'. on) (held_of history) old)
    of event = old

every-unmap : {X Y : Type 0} (P : Y → Type 0) (f : X → Y) (xs : List X) → AllByRecursion P (map f xs) → AllByRecursion (λ x. P (f x)) xs
every-unmap P f [] all = tt
every-unmap P f (x ∷ xs) all = (all.0, every-unmap P f xs all.1)

-- what holds of all grants that are held, of the locks of a session
pub on_locks : (scenario : Scenario) (history : List Entry) (b : ℕ) (P : Grant → Type 0) → IsSound history → AllByRecursion P (held_of history) → AllByRecursion (λ lock. P (grant_of b lock)) (locks_of (session_of scenario history b))
on_locks scenario history b P sound all = every-unmap P (grant_of b) (locks_of (session_of scenario history b))
    (subst (AllByRecursion P) (locks_are_held scenario history b (EachEntry-weaker MayComeNext Follows (λ before e comes. comes.follows.life) history sound))
    (every-filter P (is_of b) (held_of history) (every-weaker P (λ g. is_of b g ≡ true → P g) (λ g p own. p) (held_of history) all)))

-- with each lock that is clear a backend is past what others changed

abbrev Cleared : Scenario → List Entry → ℕ → Type 0
Cleared scenario history b = AllByRecursion (λ lock. lock.clear ≡ true → IsPast history b lock.rel lock.mode) (locks_of (session_of scenario history b))

-- after another's entry
cleared_other : (scenario : Scenario) (history : List Entry) (e : Entry) (b : ℕ) → (e.backend == b) ≡ false → IsSound history → Cleared scenario history b → Cleared scenario (history ++ e ∷ []) b
cleared_other scenario history e b other sound was =
    subst (λ s. AllByRecursion (λ lock. lock.clear ≡ true → IsPast (history ++ e ∷ []) b lock.rel lock.mode) (locks_of s)) (sym (session_of-other scenario history e b other))
    (every-weaker (λ lock. (lock.clear ≡ true → IsPast history b lock.rel lock.mode) × AllByRecursion (Agree (grant_of b lock)) (held_of history)) (λ lock. lock.clear ≡ true → IsPast (history ++ e ∷ []) b lock.rel lock.mode)
    (λ lock both is. past-other history e (grant_of b lock) other both.1 (both.0 is)) (locks_of (session_of scenario history b))
    (every-both (λ lock. lock.clear ≡ true → IsPast history b lock.rel lock.mode) (λ lock. AllByRecursion (Agree (grant_of b lock)) (held_of history)) (locks_of (session_of scenario history b)) was
    (on_locks scenario history b (λ g. AllByRecursion (Agree g) (held_of history)) sound (locks_exclude history sound).agree)))

-- where nothing is owed, all locks are such
all_cleared : (scenario : Scenario) (history : List Entry) (b : ℕ) → IsSound history → owed_after (due_last (last_event_of history b)) ≡ [] → Comes history b → Cleared scenario history b
all_cleared scenario history b sound nothing known =
    every-weaker (λ lock. KnowsOf history b (owed_after (due_last (last_event_of history b))) (has_waited history b) (grant_of b lock)) (λ lock. lock.clear ≡ true → IsPast history b lock.rel lock.mode)
    (λ lock knows is. subst (λ owed. Known owed (has_waited history b) (IsPast history b lock.rel lock.mode)) nothing (knows (eq-eqb b b refl))) (locks_of (session_of scenario history b))
    (on_locks scenario history b (KnowsOf history b (owed_after (due_last (last_event_of history b))) (has_waited history b)) sound known)

-- while a look or a fetch is owed no lock becomes clear
owes : (facts : Facts) (command : Option Command) (s : Session) → is_empty (owed_after facts.due) ≡ false → accepts_in facts (work_of s) command ≡ true
owes facts None s owed = ap not owed
owes facts (Some command) s owed = ap (λ t. not t || owes_build_in facts (work_of s)) (is_empty-after (owed_first_in facts command (work_of s)) (owed_after facts.due) owed)

locks_owed : (facts : Facts) (commands : List Command) (at c : ℕ) (event : Event) (s : Session) → is_empty (owed_after facts.due) ≡ false → (settled facts commands (entered facts commands at c event s)).locks ≡ locks_by c event s.locks
locks_owed facts commands at c event s owed =
    settled-locks facts commands (entered facts commands at c event s)
    ∙ ap (λ t. elim t as (λ x. List OwnLock) [ true ↦ now.locks | false ↦ map cleared now.locks ]) (owes facts (first_of commands) now owed)
    ∙ counted-locks facts event (placed_at at c event s)
  where
    now : Session
    now = counted facts event (placed_at at c event s)

-- the locks that a backend had, after an own entry that is no release
kept_clear : (scenario : Scenario) (history : List Entry) (b c : ℕ) (event : Event) → IsSound history → ((from : ℕ) → event ≡ events.Release from → ⊥) → Cleared scenario history b
    → AllByRecursion (λ lock. lock.clear ≡ true → IsPast (history ++ entry_of b c event ∷ []) b lock.rel lock.mode) (locks_of (session_of scenario history b))
kept_clear scenario history b c event sound other was =
    every-weaker (λ lock. lock.clear ≡ true → IsPast history b lock.rel lock.mode) (λ lock. lock.clear ≡ true → IsPast (history ++ entry_of b c event ∷ []) b lock.rel lock.mode)
    (λ lock past is. past-own history (entry_of b c event) b lock.rel lock.mode (eq-eqb b b refl) (sound_placed history sound) (λ from release. absurd (other from release)) (past is)) (locks_of (session_of scenario history b)) was

session_owed : (Q : OwnLock → Type 0) (scenario : Scenario) (facts : Facts) (b at c : ℕ) (event : Event) → is_empty (owed_after facts.due) ≡ false → ((locks : List OwnLock) → AllByRecursion Q locks → AllByRecursion Q (locks_by c event locks))
    → (old : Option Session) → AllByRecursion Q (locks_of old) → AllByRecursion Q (locks_of (option_map (λ s. settled facts (commands_left scenario b s) (entered facts (commands_left scenario b s) at c event s)) old))
session_owed Q scenario facts b at c event owed step None all = tt
session_owed Q scenario facts b at c event owed step (Some s) all = subst (AllByRecursion Q) (sym (locks_owed facts (commands_left scenario b s) at c event s owed)) (step s.locks all)

-- after an own entry
cleared_own : (scenario : Scenario) (history : List Entry) (b c : ℕ) (event : Event) → IsSound history → IsSound (history ++ entry_of b c event ∷ []) → Comes (history ++ entry_of b c event ∷ []) b → Cleared scenario history b → Cleared scenario (history ++ entry_of b c event ∷ []) b
cleared_own scenario history b c (events.LockOk rel mode) sound after known was =
    subst (λ s. AllByRecursion Q (locks_of s)) (sym (session_of-own scenario history e b (eq-eqb b b refl)))
    (session_owed Q scenario (facts_by history b c (events.LockOk rel mode) (facts_of history b)) b (length history + 1) c (events.LockOk rel mode) refl
    (λ locks all. every-append Q locks (record { rel = rel; mode = mode; command = c; clear = false } ∷ []) all (λ is. absurd (cc), tt)) (session_of scenario history b) (kept_clear scenario history b c (events.LockOk rel mode) sound (λ from release. absurd (cc)) was))
  where
    e : Entry
    e = entry_of b c (events.LockOk rel mode)

    Q : OwnLock → Type 0
    Q lock = lock.clear ≡ true → IsPast (history ++ e ∷ []) b lock.rel lock.mode
cleared_own scenario history b c (events.Look true) sound after known was =
    subst (λ s. AllByRecursion Q (locks_of s)) (sym (session_of-own scenario history e b (eq-eqb b b refl)))
    (session_owed Q scenario (facts_by history b c (events.Look true) (facts_of history b)) b (length history + 1) c (events.Look true) refl
    (λ locks all. all) (session_of scenario history b) (kept_clear scenario history b c (events.Look true) sound (λ from release. absurd (cc)) was))
  where
    e : Entry
    e = entry_of b c (events.Look true)

    Q : OwnLock → Type 0
    Q lock = lock.clear ≡ true → IsPast (history ++ e ∷ []) b lock.rel lock.mode
cleared_own scenario history b c (events.Fetch count) sound after known was = by_full (count == 32) refl
  where
    e : Entry
    e = entry_of b c (events.Fetch count)

    Q : OwnLock → Type 0
    Q lock = lock.clear ≡ true → IsPast (history ++ e ∷ []) b lock.rel lock.mode

    owed_if : Bool → List Owes
    owed_if t = owed_after (elim t as (λ x. Due) [ true ↦ dues.Look | false ↦ dues.Nothing ])

    by_full : (t : Bool) → (count == 32) ≡ t → Cleared scenario (history ++ e ∷ []) b
    by_full true full = subst (λ s. AllByRecursion Q (locks_of s)) (sym (session_of-own scenario history e b (eq-eqb b b refl)))
        (session_owed Q scenario (facts_by history b c (events.Fetch count) (facts_of history b)) b (length history + 1) c (events.Fetch count) (ap (λ t. is_empty (owed_if t)) full)
        (λ locks all. all) (session_of scenario history b) (kept_clear scenario history b c (events.Fetch count) sound (λ from release. absurd (cc)) was))
    by_full false short = all_cleared scenario (history ++ e ∷ []) b after (ap (λ x. owed_after (due_last x)) (last_event_of-own history e b (eq-eqb b b refl)) ∙ ap owed_if short) known
cleared_own scenario history b c event sound after known was = all_cleared scenario (history ++ entry_of b c event ∷ []) b after (ap (λ x. owed_after (due_last x)) (last_event_of-own history (entry_of b c event) b (eq-eqb b b refl))) known

-- an entry that may come, and that its backend may do next
abbrev MayComeAndPlay : Scenario → List Entry → Entry → Type 0
MayComeAndPlay scenario before e = MayComeNext before e × IsNext scenario before e

record Carried (scenario : Scenario) (history : List Entry) : Type 0 where
  sound : IsSound history
  comes : (b : ℕ) → Comes history b
  cleared : (b : ℕ) → Cleared scenario history b

carried-more : (scenario : Scenario) (history : List Entry) (e : Entry) → Carried scenario history → MayComeAndPlay scenario history e → Carried scenario (history ++ e ∷ [])
carried-more scenario history e k may = record { sound = sound_after; comes = comes_after; cleared = cleared_after }
  where
    sound_after : IsSound (history ++ e ∷ [])
    sound_after = EachEntry-more MayComeNext history e k.sound may.0

    comes_after : (b : ℕ) → Comes (history ++ e ∷ []) b
    comes_after b = by_owner (e.backend == b) refl
      where
        by_owner : (t : Bool) → (e.backend == b) ≡ t → Comes (history ++ e ∷ []) b
        by_owner true own = subst (Comes (history ++ e ∷ [])) (eqb-true e.backend b own) (comes_own history e.backend e.command e.event k.sound may.0 (patient scenario history e may.1) (k.comes e.backend))
        by_owner false other = comes_other history e b other k.sound (k.comes b)

    cleared_after : (b : ℕ) → Cleared scenario (history ++ e ∷ []) b
    cleared_after b = by_owner (e.backend == b) refl
      where
        by_owner : (t : Bool) → (e.backend == b) ≡ t → Cleared scenario (history ++ e ∷ []) b
        by_owner true own = subst (Cleared scenario (history ++ e ∷ [])) (eqb-true e.backend b own) (cleared_own scenario history e.backend e.command e.event k.sound sound_after (comes_after e.backend) (k.cleared e.backend))
        by_owner false other = cleared_other scenario history e b other k.sound (k.cleared b)

-- of a sound history in which backends do what their commands say: what holds of each entry before which grants are known so holds of it
pub each_known : (scenario : Scenario) (P : List Entry → Entry → Type 0) → ((before : List Entry) (e : Entry) → IsSound before → Comes before e.backend → IsNext scenario before e → P before e) → (history : List Entry) → IsSound history → Plays scenario history → EachEntry P history
each_known scenario P of history sound plays = (each-keeps (MayComeAndPlay scenario) (λ h. Carried scenario h × EachEntry P h) (record { sound = tt; comes = λ o. tt; cleared = λ o. tt }, tt)
    (λ before e k may. (carried-more scenario before e k.0 may, EachEntry-more P before e k.1 (of before e k.0.sound (k.0.comes e.backend) may.1))) history (EachFrom-both MayComeNext (IsNext scenario) [] history sound plays)).1

-- of a sound history in which backends do what their commands say: with each lock that is clear a backend is past what visible holders of modes in its way had changed as they last let the relation go
pub clear_reached : (scenario : Scenario) (history : List Entry) (b : ℕ) → IsSound history → Plays scenario history
    → AllByRecursion (λ lock. lock.clear ≡ true → (writer : Mode) → conflicts writer lock.mode ≡ true → reached_of history lock.rel writer ≤ position_of history b) (locks_of (session_of scenario history b))
clear_reached scenario history b sound plays =
    (each-keeps (MayComeAndPlay scenario) (Carried scenario) (record { sound = tt; comes = λ o. tt; cleared = λ o. tt }) (carried-more scenario) history (EachFrom-both MayComeNext (IsNext scenario) [] history sound plays)).cleared b
