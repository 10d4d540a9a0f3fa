-- After an allowed history a backend has an allowed next entry: before its start, where a look or a fetch is owed, where no transaction is left after its last command; and in the midst of no commit and no rollback a look within the bound, a scan that is next, the lock of its next act.
use Rattle.std.proofs.Common.{◌≡◌, ◌≤◌, ◌+◌, ◌-◌, ◌∙◌, ◌⊎◌, inl, inr, ◌==◌, ◌&&◌, ℕ, Bool, true, false, Option, Some, None, List, [], ◌∷◌, ◌++◌, refl, sym, ap, subst, length, slice_get, is_none, is_some, arith}
use Rattle.std.specs.Prelude.{⊤, min}
use Rattle.std.specs.Option.{option_map}
use Rattle.std.proofs.lemmas.Bool.{eqb-true, both_ways}
use Rattle.std.proofs.lemmas.List.{length_push}
use Rattle.base_types.specs.Scenario.{IsBackend}
use Rattle.base_types.specs.declared.row.Row.TheVariants as rows
use Rattle.base_types.specs.declared.scan.Purpose.TheVariants as scans
use Rattle.event_kinds.specs.declared.entry.Event.TheVariants as events
use Rattle.lock_modes.specs.declared.grant.Grant.{Grant}
use Rattle.lock_modes.specs.Grants.{holds, first_conflict}
use Rattle.lock_modes.specs.Own.{has_lock}
use Rattle.ddl_effect.specs.Plans.{Act, Lookup, Lock, Plan, Do}
use Rattle.ddl_effect.specs.Commands.{commands_of}
use Rattle.txn_blocks.specs.declared.transaction.RunningTransaction.{RunningTransaction as Running}
use Rattle.history_model.specs.declared.life.Life.{Life}
use Rattle.history_model.specs.declared.life.Life.TheVariants.{Unstarted, Alive, Stopped}
use Rattle.history_model.specs.Drawn.{next_oid}
use Rattle.history_model.specs.Held.{held_of}
use Rattle.history_model.specs.Lapped.{is_lapped, FetchesFrom}
use Rattle.history_model.specs.MayFollow.{FollowsVisible, FollowsGone, AllowsLook, AllowsEvent, MayFollow}
use Rattle.history_model.specs.Legal.{IsAllowed as Follows}
use Rattle.history_model.specs.MayFollow.{FollowsLife}
use Rattle.history_model.specs.Lives.{life_by, life_of, last_event_of}
use Rattle.history_model.specs.Log.{log_of, position_of, is_waiting}
use Rattle.history_model.specs.Transactions.{begun, running_by, is_visible, running_transaction_of}
use Rattle.history_model.specs.Versions.{answer_of}
use Rattle.history_model.proofs.Allows.{allows_decides, legal_follows}
use Rattle.history_model.proofs.Prefixes.{EachEntry-more, EachFrom-both, each-keeps}
use Rattle.history_model.proofs.Reading.{last_event_of-own, last_event_of-other, life_of-own, life_of-other, running_transaction_of-own, running_transaction_of-other}
use Rattle.history_model.proofs.Touched.{entry_of}
use Rattle.history_model.proofs.Waiting.{not_waited}
use Rattle.cacheless.specs.Types.{Oid, Mode, Row, Purpose, Scenario, Command, Entry, Event}
use Rattle.cacheless.specs.declared.progress.Due.{Due}
use Rattle.cacheless.specs.declared.progress.Due.TheVariants as dues
use Rattle.local_caches.specs.Kept.{rows_kept}
use Rattle.cacheless.specs.Facts.{due_last, Facts, facts_of}
use Rattle.cacheless.specs.Output.{IsAllowed}
use Rattle.cacheless.specs.Work.{work_of}
use Rattle.cacheless.specs.Owed.{OwesLook, owed_after, is_quiet, owed_in, has_looked_in, is_next_in}
use Rattle.cacheless.specs.Played.{AreSpelled}
use Rattle.cacheless.specs.Plays.{may_look_in, IsLock, MayPlayIn, MayPlayAt, IsNext, Plays}
use Rattle.cacheless.specs.Schedule.{has_stopped, is_stopped, LooksTruly}
use Rattle.cacheless.specs.Session.{Session, number_of, first_of, outcome_of, is_settled}
use Rattle.cacheless.specs.Sessions.{noted, commands_left, entered, session_by, session_of}
use Rattle.cacheless.specs.Settled.{class_oid, if_locked, has_taken_no_other, has_accepted_in, looked_up_in, gives_in, acted, is_finished_in, finished_as, next_session, settled}
use Rattle.cacheless.proofs.FactsAfter.{facts_by}
use Rattle.cacheless.proofs.Allowed.AllowedHistories.{allowed_sound, plays_economical}
use Rattle.cacheless.proofs.Allowed.LooksBound.{LooksBound, BoundIn, looks_bound, owed_look_may, wanted_look_may, unfound_look_may, acted-same}
use Rattle.cacheless.proofs.Allowed.NextOnCourse.{entered_noted, noted_finished, no_start}
use Rattle.cacheless.proofs.Allowed.Patient.{nothing_owed}
use Rattle.cacheless.proofs.Plans.ClearLocks.{session_holds}
use Rattle.cacheless.proofs.Reading.{session_of-own, session_of-other}

-- a backend has an entry that may come next in an allowed history; a look says no only where nothing waits
pub record HasNext (scenario : Scenario) (history : List Entry) (b : ℕ) : Type 0 where
  pub command : ℕ
  pub event : Event
  pub truly : LooksTruly history b event
  pub allowed : IsAllowed scenario (history ++ entry_of b command event ∷ [])

-- such is one that may follow, of the queue, and next by the script
pub next_allowed : (scenario : Scenario) (history : List Entry) (b c : ℕ) (event : Event) → IsBackend scenario.backends b → IsAllowed scenario history → MayFollow history (entry_of b c event) → FetchesFrom scenario.size history b event → LooksTruly history b event → MayPlayAt scenario history b (session_of scenario history b) c event → HasNext scenario history b
next_allowed scenario history b c event number allowed follows fetches truly may = record {
  command = c;
  event = event;
  truly = truly;
  allowed = record {
    legal = EachEntry-more Follows history e allowed.legal ((allows_decides history e).1 follows);
    queue = EachEntry-more (λ before x. FetchesFrom scenario.size before x.backend x.event) history e allowed.queue fetches;
    plays = plays;
    economical = plays_economical scenario (history ++ e ∷ []) plays;
  };
}
  where
    e : Entry
    e = entry_of b c event

    plays : Plays scenario (history ++ e ∷ [])
    plays = EachEntry-more (IsNext scenario) history e allowed.plays (number, may)

-- a life that goes on, with no number of a command above this one
pub record LivesTo (life : Life) (number : ℕ) : Type 0 where
  pub last : ℕ
  pub alive : life ≡ Alive last
  pub most : last ≤ number

-- how far the life of a backend is, by its session
abbrev pub LifeIn : Life → Option Session → Type 0
LifeIn life None = life ≡ Unstarted
LifeIn life (Some s) = (life ≡ Stopped) ⊎ LivesTo life (number_of s)

-- after this event a transaction may be visible still
abbrev pub MaySend : Option Event → Type 0
MaySend (Some (events.Visible xid)) = ⊤
MaySend (Some (events.Publish count)) = ⊤
MaySend (Some (events.Release from)) = ⊤
MaySend last = ⊥

-- after this event a transaction runs
abbrev pub Runs : Option Event → Option Running → Type 0
Runs None own = ⊤
Runs (Some events.Start) own = ⊤
Runs (Some events.Stop) own = ⊤
Runs (Some (events.Release from)) own = ⊤
Runs (Some event) own = is_some own ≡ true

-- what holds of each backend of an allowed history
pub record Stands (scenario : Scenario) (history : List Entry) (b : ℕ) : Type 0 where
  pub life : LifeIn (life_of history b) (session_of scenario history b)
  pub sends : is_visible (running_transaction_of history b) ≡ true → MaySend (last_event_of history b)
  pub runs : Runs (last_event_of history b) (running_transaction_of history b)
  pub first : session_of scenario history b ≡ None → last_event_of history b ≡ None

begun_visible : (c : ℕ) (own : Option Running) → is_visible (Some (begun c own)) ≡ is_visible own
begun_visible c None = refl
begun_visible c (Some t) = refl

-- while a transaction is visible, its backend sends and releases
sends_by : (c : ℕ) (event : Event) (own : Option Running) → FollowsVisible (is_visible own) event → is_visible (running_by c event own) ≡ true → MaySend (Some event)
sends_by c (events.Visible xid) own follows visible = tt
sends_by c (events.Publish count) own follows visible = tt
sends_by c (events.Release from) own follows visible = tt
sends_by c events.Start own follows visible = absurd (cc visible)
sends_by c events.Stop own follows visible = absurd (subst (λ t. FollowsVisible t events.Stop) visible follows)
sends_by c (events.Write xid items) own follows visible = absurd (subst (λ t. FollowsVisible t (events.Write xid items)) (sym (begun_visible c own) ∙ visible) follows)
sends_by c (events.Look some_wait) own follows visible = absurd (subst (λ t. FollowsVisible t (events.Look some_wait)) (sym (begun_visible c own) ∙ visible) follows)
sends_by c (events.Fetch count) own follows visible = absurd (subst (λ t. FollowsVisible t (events.Fetch count)) (sym (begun_visible c own) ∙ visible) follows)
sends_by c events.FetchReset own follows visible = absurd (subst (λ t. FollowsVisible t events.FetchReset) (sym (begun_visible c own) ∙ visible) follows)
sends_by c (events.Scan scan rows) own follows visible = absurd (subst (λ t. FollowsVisible t (events.Scan scan rows)) (sym (begun_visible c own) ∙ visible) follows)
sends_by c (events.LockOk rel mode) own follows visible = absurd (subst (λ t. FollowsVisible t (events.LockOk rel mode)) (sym (begun_visible c own) ∙ visible) follows)
sends_by c (events.LockHeld rel mode holder held) own follows visible = absurd (subst (λ t. FollowsVisible t (events.LockHeld rel mode holder held)) (sym (begun_visible c own) ∙ visible) follows)
sends_by c (events.Unlock rel mode) own follows visible = absurd (subst (λ t. FollowsVisible t (events.Unlock rel mode)) (sym (begun_visible c own) ∙ visible) follows)
sends_by c (events.ClashRow name rel) own follows visible = absurd (subst (λ t. FollowsVisible t (events.ClashRow name rel)) (sym (begun_visible c own) ∙ visible) follows)
sends_by c (events.ClashRunning name xid) own follows visible = absurd (subst (λ t. FollowsVisible t (events.ClashRunning name xid)) (sym (begun_visible c own) ∙ visible) follows)
sends_by c (events.Gone from) own follows visible = absurd (subst (λ t. FollowsVisible t (events.Gone from)) (sym (begun_visible c own) ∙ visible) follows)
sends_by c events.Fail own follows visible = absurd (subst (λ t. FollowsVisible t events.Fail) (sym (begun_visible c own) ∙ visible) follows)

runs_by : (c : ℕ) (event : Event) (own : Option Running) → Runs (Some event) (running_by c event own)
runs_by c events.Start own = tt
runs_by c events.Stop own = tt
runs_by c (events.Release from) own = tt
runs_by c event own = refl

life_goes : (c n : ℕ) (event : Event) → c ≤ n → (life_by c event ≡ Stopped) ⊎ LivesTo (life_by c event) n
life_goes c n events.Stop low = inl refl
life_goes c n event low = inr (record { last = c; alive = refl; most = low })

-- passing over commands lowers no number
settled-more : (facts : Facts) (commands : List Command) (s : Session) → length s.finished ≤ length (settled facts commands s).finished
settled-more facts [] s = omega arith
settled-more facts (command ∷ rest) s = by_end (is_finished_in facts command (work_of now)) (settled-more facts rest next)
  where
    now : Session
    now = acted facts command s

    next : Session
    next = next_session command (first_of rest) now

    counts : length now.finished ≡ length s.finished
    counts = ap length (acted-same (λ x. x.finished) (λ act given more x. refl) facts command s)

    by_end : (t : Bool) → length next.finished ≤ length (settled facts rest next).finished → length s.finished ≤ length (elim t as (λ x. Session) [ true ↦ settled facts rest next | false ↦ now ]).finished
    by_end true more = omega (arith, more, length_push now.finished (finished_as now), counts)
    by_end false more = omega (arith, counts)

-- the life of a backend after an own entry, by its session then
life_after : (scenario : Scenario) (history : List Entry) (b c : ℕ) (event : Event) (o : Option Session) (later : Facts) (old : Life) → LifeIn old o → FollowsLife old c event → MayPlayAt scenario history b o c event → LifeIn (life_by c event) (session_by scenario later b (length history + 1) c event o)
life_after scenario history b c events.Start None later old is follows may = inr (record { last = c; alive = refl; most = omega (arith, zero_is) })
  where
    zero_is : c ≡ 0
    zero_is = subst (λ life. FollowsLife life c events.Start) is follows
life_after scenario history b c event None later old is follows may = absurd may
life_after scenario history b c events.Start (Some s) later old is follows may = absurd (no_start (next_oid history) (facts_of history b) _ s may.1)
life_after scenario history b c event (Some s) later old is follows may = life_goes c (number_of (settled later left now)) event (omega (arith, may.0, settled-more later left now, ap length (noted_is ∙ noted_finished event s)))
  where
    left : List Command
    left = commands_left scenario b s

    now : Session
    now = entered later left (length history + 1) c event s

    noted_is : now.finished ≡ (noted event s).finished
    noted_is = (entered_noted later left (length history + 1) c event s).after.finished

session_there : (scenario : Scenario) (b at c : ℕ) (event : Event) (o : Option Session) (later : Facts) (history : List Entry) → MayPlayAt scenario history b o c event → session_by scenario later b at c event o ≡ None → ⊥
session_there scenario b at c events.Start o later history may none = cc none
session_there scenario b at c event None later history may none = absurd may
session_there scenario b at c event (Some s) later history may none = cc none

stands_more : (scenario : Scenario) (history : List Entry) (e : Entry) → ((b : ℕ) → Stands scenario history b) → MayFollow history e × IsNext scenario history e → (b : ℕ) → Stands scenario (history ++ e ∷ []) b
stands_more scenario history e was may b = by_owner (e.backend == b) refl
  where
    by_owner : (t : Bool) → (e.backend == b) ≡ t → Stands scenario (history ++ e ∷ []) b
    by_owner false other = let here = was b in record {
      life = subst (λ life. LifeIn life (session_of scenario (history ++ e ∷ []) b)) (sym (life_of-other history e b other)) (subst (LifeIn (life_of history b)) (sym (session_of-other scenario history e b other)) here.life);
      sends = λ visible. subst MaySend (sym (last_event_of-other history e b other)) (here.sends (ap is_visible (sym (running_transaction_of-other history e b other)) ∙ visible));
      runs = subst (λ last. Runs last (running_transaction_of (history ++ e ∷ []) b)) (sym (last_event_of-other history e b other)) (subst (Runs (last_event_of history b)) (sym (running_transaction_of-other history e b other)) here.runs);
      first = λ none. last_event_of-other history e b other ∙ here.first (sym (session_of-other scenario history e b other) ∙ none);
    }
    by_owner true own = record {
      life = subst (λ life. LifeIn life (session_of scenario (history ++ e ∷ []) b)) (sym (life_of-own history e b own)) (subst (LifeIn (life_by e.command e.event)) (sym (session_of-own scenario history e b own))
          (life_after scenario history b e.command e.event (session_of scenario history b) later (life_of history b) here.life (subst (λ x. FollowsLife (life_of history x) e.command e.event) same may.0.life) plays));
      sends = λ visible. subst MaySend (sym (last_event_of-own history e b own)) (sends_by e.command e.event (running_transaction_of history b) (subst (λ x. FollowsVisible (is_visible (running_transaction_of history x)) e.event) same may.0.visible)
          (ap is_visible (sym (running_transaction_of-own history e b own)) ∙ visible));
      runs = subst (λ last. Runs last (running_transaction_of (history ++ e ∷ []) b)) (sym (last_event_of-own history e b own)) (subst (Runs (Some e.event)) (sym (running_transaction_of-own history e b own)) (runs_by e.command e.event (running_transaction_of history b)));
      first = λ none. absurd (session_there scenario b (length history + 1) e.command e.event (session_of scenario history b) later history plays (sym (session_of-own scenario history e b own) ∙ none));
    }
      where
        here : Stands scenario history b
        here = was b

        same : e.backend ≡ b
        same = eqb-true e.backend b own

        later : Facts
        later = facts_by history b e.command e.event (facts_of history b)

        plays : MayPlayAt scenario history b (session_of scenario history b) e.command e.event
        plays = subst (λ x. MayPlayAt scenario history x (session_of scenario history x) e.command e.event) same may.1.1

-- what holds of a backend in an allowed history
pub allowed_stands : (scenario : Scenario) (history : List Entry) → IsAllowed scenario history → (b : ℕ) → Stands scenario history b
allowed_stands scenario history allowed = each-keeps (λ before e. MayFollow before e × IsNext scenario before e) (λ h. (b : ℕ) → Stands scenario h b) (λ b. record { life = refl; sends = λ visible. absurd (cc visible); runs = tt; first = λ none. refl }) (stands_more scenario) history
    (EachFrom-both MayFollow (IsNext scenario) [] history (legal_follows history allowed.legal) allowed.plays)

-- a backend starts that hasn't
pub start_next : (scenario : Scenario) (history : List Entry) (b : ℕ) → IsBackend scenario.backends b → IsAllowed scenario history → session_of scenario history b ≡ None → HasNext scenario history b
start_next scenario history b number allowed none = next_allowed scenario history b 0 events.Start number allowed follows tt tt (subst (λ o. MayPlayAt scenario history b o 0 events.Start) (sym none) tt)
  where
    stands : Stands scenario history b
    stands = allowed_stands scenario history allowed b

    last : last_event_of history b ≡ None
    last = stands.first none

    hidden : is_visible (running_transaction_of history b) ≡ false
    hidden = by_test (is_visible (running_transaction_of history b)) refl
      where
        by_test : (t : Bool) → is_visible (running_transaction_of history b) ≡ t → t ≡ false
        by_test false is = refl
        by_test true is = absurd (subst MaySend last (stands.sends is))

    follows : MayFollow history (entry_of b 0 events.Start)
    follows = record {
      life = subst (λ life. FollowsLife life 0 events.Start) (sym (subst (LifeIn (life_of history b)) none stands.life)) refl;
      visible = subst (λ t. FollowsVisible t events.Start) (sym hidden) tt;
      gone = subst (λ l. FollowsGone l events.Start) (sym last) tt;
      event = tt;
    }

-- a backend that is alive, and in the midst of no commit and no rollback
pub record IsFree (scenario : Scenario) (history : List Entry) (b : ℕ) (s : Session) : Type 0 where
  pub number : IsBackend scenario.backends b
  pub spelled : AreSpelled scenario
  pub allowed : IsAllowed scenario history
  pub is : session_of scenario history b ≡ Some s
  pub stopped : has_stopped history b ≡ false
  pub hidden : is_visible (running_transaction_of history b) ≡ false
  pub gone : (event : Event) → FollowsGone (last_event_of history b) event

-- the event is no start
abbrev pub IsLater : Event → Type 0
IsLater events.Start = ⊥
IsLater event = ⊤

pub later_lives : (last n : ℕ) (event : Event) → IsLater event → last ≤ n → FollowsLife (Alive last) n event
later_lives last n events.Start later low = absurd later
later_lives last n event later low = low

shown : (event : Event) → FollowsVisible false event
shown event = tt

-- the life of a backend that hasn't stopped goes on with its running command
pub lives_on : (scenario : Scenario) (history : List Entry) (b : ℕ) (s : Session) (event : Event) → IsAllowed scenario history → session_of scenario history b ≡ Some s → has_stopped history b ≡ false → IsLater event → FollowsLife (life_of history b) (number_of s) event
lives_on scenario history b s event allowed is stopped later = goes (subst (LifeIn (life_of history b)) is (allowed_stands scenario history allowed b).life)
  where
    goes : (life_of history b ≡ Stopped) ⊎ LivesTo (life_of history b) (number_of s) → FollowsLife (life_of history b) (number_of s) event
    goes (inl over) = absurd (both_ways _ stopped (ap is_stopped over))
    goes (inr alive) = subst (λ x. FollowsLife x (number_of s) event) (sym alive.alive) (later_lives alive.last (number_of s) event later alive.most)

pub free_lives : (scenario : Scenario) (history : List Entry) (b : ℕ) (s : Session) (event : Event) → IsFree scenario history b s → IsLater event → FollowsLife (life_of history b) (number_of s) event
free_lives scenario history b s event free later = lives_on scenario history b s event free.allowed free.is free.stopped later

-- it makes what the history allows and its script lets come next
pub free_next : (scenario : Scenario) (history : List Entry) (b : ℕ) (s : Session) (event : Event) → IsFree scenario history b s → IsLater event → AllowsEvent history b (number_of s) event → FetchesFrom scenario.size history b event → LooksTruly history b event
    → MayPlayIn (next_oid history) (facts_of history b) (slice_get (commands_of scenario b) (length s.finished)) s event → HasNext scenario history b
free_next scenario history b s event free later allows fetches truly may = next_allowed scenario history b (number_of s) event free.number free.allowed follows fetches truly
    (subst (λ o. MayPlayAt scenario history b o (number_of s) event) (sym free.is) (refl, may))
  where
    follows : MayFollow history (entry_of b (number_of s) event)
    follows = record { life = free_lives scenario history b s event free later; visible = subst (λ t. FollowsVisible t event) (sym free.hidden) (shown event); gone = free.gone event; event = allows }

-- its looks are within their bound
bound_is : (scenario : Scenario) (history : List Entry) (b : ℕ) (s : Session) → IsFree scenario history b s → LooksBound (last_event_of history b) (slice_get (commands_of scenario b) (length s.finished)) s.left s.tally
bound_is scenario history b s free = subst (BoundIn (last_event_of history b) (commands_of scenario b)) free.is (looks_bound scenario history free.spelled free.allowed.legal free.allowed.plays b)

-- a look that may be made says whether messages wait
pub look_next : (scenario : Scenario) (history : List Entry) (b : ℕ) (s : Session) → IsFree scenario history b s
    → ((some_wait : Bool) → MayPlayIn (next_oid history) (facts_of history b) (slice_get (commands_of scenario b) (length s.finished)) s (events.Look some_wait)) → HasNext scenario history b
look_next scenario history b s free may = free_next scenario history b s (events.Look (is_waiting history b)) free tt (by_wait (is_waiting history b) refl) tt (true_look (is_waiting history b) refl) (may (is_waiting history b))
  where
    by_wait : (t : Bool) → is_waiting history b ≡ t → AllowsLook history b t
    by_wait true is = is
    by_wait false is = not_waited history b free.allowed.legal is

    true_look : (t : Bool) → is_waiting history b ≡ t → LooksTruly history b (events.Look t)
    true_look true is = tt
    true_look false is = is

-- a scan that is next gives its answer
pub scan_next : (scenario : Scenario) (history : List Entry) (b : ℕ) (s : Session) (scan : Purpose) → IsFree scenario history b s → owed_after (due_last (last_event_of history b)) ≡ [] → is_next_in scan (facts_of history b) (work_of s) ≡ true → has_looked_in (facts_of history b) (work_of s) ≡ true → HasNext scenario history b
scan_next scenario history b s scan free none next looked = free_next scenario history b s (events.Scan scan (length (answer_of history b scan))) free tt refl tt tt (by_command (slice_get (commands_of scenario b) (length s.finished)))
  where
    by_command : (o : Option Command) → MayPlayIn (next_oid history) (facts_of history b) o s (events.Scan scan (length (answer_of history b scan)))
    by_command None = (none, next, looked)
    by_command (Some command) = (none, next, looked)

-- a lock that isn't held is granted or refused
pub lock_next : (scenario : Scenario) (history : List Entry) (b : ℕ) (s : Session) (command : Command) (rel : Oid) (mode : Mode) → IsFree scenario history b s → slice_get (commands_of scenario b) (length s.finished) ≡ Some command
    → owed_in (facts_of history b) command (work_of s) ≡ [] → s.taken ≡ None → IsLock (facts_of history b) s.left rel mode → holds (held_of history) b rel mode ≡ false → HasNext scenario history b
lock_next scenario history b s command rel mode free at none untaken asks unheld = by_holder (first_conflict (held_of history) b rel mode) refl
  where
    plays : (event : Event) → MayPlayIn (next_oid history) (facts_of history b) (Some command) s event → MayPlayIn (next_oid history) (facts_of history b) (slice_get (commands_of scenario b) (length s.finished)) s event
    plays event may = subst (λ o. MayPlayIn (next_oid history) (facts_of history b) o s event) (sym at) may

    by_holder : (o : Option Grant) → first_conflict (held_of history) b rel mode ≡ o → HasNext scenario history b
    by_holder None is = free_next scenario history b s (events.LockOk rel mode) free tt (unheld, is) tt tt (plays (events.LockOk rel mode) (none, untaken, asks))
    by_holder (Some g) is = free_next scenario history b s (events.LockHeld rel mode g.backend g.mode) free tt (unheld, ap (option_map {U = ℕ × Mode} (λ h. (h.backend, h.mode))) is) tt tt (plays (events.LockHeld rel mode g.backend g.mode) (none, untaken, asks))

-- a backend that has just been granted a lock, looked or fetched is in the midst of no commit and no rollback
abbrev pub Accepts : Option Event → Type 0
Accepts (Some (events.LockOk rel mode)) = ⊤
Accepts (Some (events.Look some_wait)) = ⊤
Accepts (Some (events.Fetch count)) = ⊤
Accepts last = ⊥

owes_accepts : (last : Option Event) → (owed_after (due_last last) ≡ [] → ⊥) → Accepts last
owes_accepts (Some (events.LockOk rel mode)) owes = tt
owes_accepts (Some (events.Look some_wait)) owes = tt
owes_accepts (Some (events.Fetch count)) owes = tt
owes_accepts last owes = absurd (owes refl)

accepts_hidden : (last : Option Event) → Accepts last → MaySend last → ⊥
accepts_hidden (Some (events.LockOk rel mode)) accepts sends = sends
accepts_hidden (Some (events.Look some_wait)) accepts sends = sends
accepts_hidden (Some (events.Fetch count)) accepts sends = sends
accepts_hidden last accepts sends = absurd accepts

accepts_stands : (last : Option Event) (event : Event) → Accepts last → FollowsGone last event
accepts_stands (Some (events.LockOk rel mode)) event accepts = tt
accepts_stands (Some (events.Look some_wait)) event accepts = tt
accepts_stands (Some (events.Fetch count)) event accepts = tt
accepts_stands last event accepts = absurd accepts

accepts_runs : (last : Option Event) (own : Option Running) → Accepts last → Runs last own → is_some own ≡ true
accepts_runs (Some (events.LockOk rel mode)) own accepts runs = runs
accepts_runs (Some (events.Look some_wait)) own accepts runs = runs
accepts_runs (Some (events.Fetch count)) own accepts runs = runs
accepts_runs last own accepts runs = absurd accepts

-- what a backend owes after its last entry, a look or a fetch, may come next
pub owed_next : (scenario : Scenario) (history : List Entry) (b : ℕ) (s : Session) → AreSpelled scenario → IsBackend scenario.backends b → IsAllowed scenario history → has_stopped history b ≡ false → session_of scenario history b ≡ Some s → (owed_after (due_last (last_event_of history b)) ≡ [] → ⊥) → HasNext scenario history b
owed_next scenario history b s spelled number allowed stopped is owes = by_last (last_event_of history b) refl accepts
  where
    o : Option Command
    o = slice_get (commands_of scenario b) (length s.finished)

    stands : Stands scenario history b
    stands = allowed_stands scenario history allowed b

    accepts : Accepts (last_event_of history b)
    accepts = owes_accepts (last_event_of history b) owes

    free : IsFree scenario history b s
    free = record { number = number; spelled = spelled; allowed = allowed; is = is; stopped = stopped; hidden = by_test (is_visible (running_transaction_of history b)) refl; gone = λ event. accepts_stands (last_event_of history b) event accepts }
      where
        by_test : (t : Bool) → is_visible (running_transaction_of history b) ≡ t → t ≡ false
        by_test false here = refl
        by_test true here = absurd (accepts_hidden (last_event_of history b) accepts (stands.sends here))

    looks : owed_after (due_last (last_event_of history b)) ≡ OwesLook ∷ [] → HasNext scenario history b
    looks owed = look_next scenario history b s free (λ some_wait. by_command some_wait o)
      where
        may : may_look_in (facts_of history b) (work_of s) ≡ true
        may = owed_look_may (facts_of history b) (last_event_of history b) o s refl (bound_is scenario history b s free) owed

        by_command : (some_wait : Bool) (x : Option Command) → MayPlayIn (next_oid history) (facts_of history b) x s (events.Look some_wait)
        by_command some_wait None = (accepts_runs (last_event_of history b) (running_transaction_of history b) accepts stands.runs, may)
        by_command some_wait (Some command) = may

    fetches : last_event_of history b ≡ Some (events.Look true) → HasNext scenario history b
    fetches told = by_lapped (is_lapped scenario.size history b) refl
      where
        count : ℕ
        count = min 32 (length (log_of history) - position_of history b)

        some : (x : Option Command) → MayPlayIn (next_oid history) (facts_of history b) x s (events.Fetch count)
        some None = tt
        some (Some command) = tt

        reset : (x : Option Command) → MayPlayIn (next_oid history) (facts_of history b) x s events.FetchReset
        reset None = tt
        reset (Some command) = tt

        by_lapped : (t : Bool) → is_lapped scenario.size history b ≡ t → HasNext scenario history b
        by_lapped true lapped = free_next scenario history b s events.FetchReset free tt told lapped tt (reset o)
        by_lapped false served = free_next scenario history b s (events.Fetch count) free tt (told, refl) served tt (some o)

    by_full : (count : ℕ) (t : Bool) → (count == 32) ≡ t → last_event_of history b ≡ Some (events.Fetch count) → HasNext scenario history b
    by_full count true full at = looks (ap (λ x. owed_after (due_last x)) at ∙ ap (λ t. owed_after (elim t as (λ x. Due) [ true ↦ dues.Look | false ↦ dues.Nothing ])) full)
    by_full count false full at = absurd (owes (ap (λ x. owed_after (due_last x)) at ∙ ap (λ t. owed_after (elim t as (λ x. Due) [ true ↦ dues.Look | false ↦ dues.Nothing ])) full))

    by_last : (last : Option Event) → last_event_of history b ≡ last → Accepts last → HasNext scenario history b
    by_last (Some (events.LockOk rel mode)) at accepted = looks (ap (λ x. owed_after (due_last x)) at)
    by_last (Some (events.Look true)) at accepted = fetches at
    by_last (Some (events.Look false)) at accepted = absurd (owes (ap (λ x. owed_after (due_last x)) at))
    by_last (Some (events.Fetch count)) at accepted = by_full count (count == 32) refl at
    by_last last at accepted = absurd accepted

-- after its last command a backend stops where no transaction runs
pub stop_next : (scenario : Scenario) (history : List Entry) (b : ℕ) (s : Session) → AreSpelled scenario → IsBackend scenario.backends b → IsAllowed scenario history → has_stopped history b ≡ false → session_of scenario history b ≡ Some s
    → slice_get (commands_of scenario b) (length s.finished) ≡ None → running_transaction_of history b ≡ None → HasNext scenario history b
stop_next scenario history b s spelled number allowed stopped is past none = free_next scenario history b s events.Stop free tt none tt tt (subst (λ o. MayPlayIn (next_oid history) (facts_of history b) o s events.Stop) (sym past) none)
  where
    standing : (last : Option Event) (own : Option Running) → own ≡ None → Runs last own → (event : Event) → FollowsGone last event
    standing (Some (events.Gone from)) own without runs event = absurd (both_ways _ (ap is_some without) runs)
    standing last own without runs event = tt

    free : IsFree scenario history b s
    free = record {
      number = number;
      spelled = spelled;
      allowed = allowed;
      is = is;
      stopped = stopped;
      hidden = ap is_visible none;
      gone = standing (last_event_of history b) (running_transaction_of history b) none (allowed_stands scenario history allowed b).runs;
    }

-- a scan that is next comes, or the look for it
pub lacking_next : (scenario : Scenario) (history : List Entry) (b : ℕ) (s : Session) (command : Command) (scan : Purpose) → IsFree scenario history b s → slice_get (commands_of scenario b) (length s.finished) ≡ Some command → owed_after (due_last (last_event_of history b)) ≡ [] → is_next_in scan (facts_of history b) (work_of s) ≡ true → HasNext scenario history b
lacking_next scenario history b s command scan free at none next = by_looked (has_looked_in (facts_of history b) (work_of s)) refl
  where
    by_looked : (t : Bool) → has_looked_in (facts_of history b) (work_of s) ≡ t → HasNext scenario history b
    by_looked true looked = scan_next scenario history b s scan free none next looked
    by_looked false wants = look_next scenario history b s free (λ some_wait. subst (λ o. MayPlayIn (next_oid history) (facts_of history b) o s (events.Look some_wait)) (sym at)
        (wanted_look_may (facts_of history b) (last_event_of history b) (slice_get (commands_of scenario b) (length s.finished)) s (bound_is scenario history b s free) none wants))

-- a lookup that found no relation looks, unless it has accepted what it waits for
pub unfound_next : (scenario : Scenario) (history : List Entry) (b : ℕ) (s : Session) (command : Command) → IsFree scenario history b s → slice_get (commands_of scenario b) (length s.finished) ≡ Some command → owed_after (due_last (last_event_of history b)) ≡ [] → is_settled (outcome_of s.left) ≡ false
    → s.taken ≡ None → has_accepted_in (facts_of history b) (work_of s) ≡ false → HasNext scenario history b
unfound_next scenario history b s command free at none going untaken waits = look_next scenario history b s free (λ some_wait. subst (λ o. MayPlayIn (next_oid history) (facts_of history b) o s (events.Look some_wait)) (sym at) may)
  where
    facts : Facts
    facts = facts_of history b

    bound : LooksBound (last_event_of history b) (Some command) s.left s.tally
    bound = subst (λ o. LooksBound (last_event_of history b) o s.left s.tally) at (bound_is scenario history b s free)

    by_tests : (quiet looked : Bool) → is_quiet facts.due ≡ quiet → has_looked_in facts (work_of s) ≡ looked → may_look_in facts (work_of s) ≡ true
    by_tests false looked is wants = unfound_look_may facts (last_event_of history b) command s refl bound none going is
    by_tests true false is wants = wanted_look_may facts (last_event_of history b) (Some command) s bound none wants
    by_tests true true is wants = absurd (both_ways _ waits (ap (λ o. is_none o && is_quiet facts.due && has_looked_in facts (work_of s)) untaken ∙ ap (λ t. t && has_looked_in facts (work_of s)) is ∙ wants))

    may : may_look_in facts (work_of s) ≡ true
    may = by_tests (is_quiet facts.due) (has_looked_in facts (work_of s)) refl refl

-- the act asks for a lock
abbrev pub IsAsked : Act → Type 0
IsAsked (Lookup name mode) = ⊤
IsAsked (Lock rel mode) = ⊤
IsAsked act = ⊥

-- a lookup or a lock that is to be made comes next, where nothing is owed and no lock is newly taken: the lock of the relation, or where none is found a look
pub asking_next : (scenario : Scenario) (history : List Entry) (b : ℕ) (s : Session) (command : Command) (act : Act) (rest : List Row → Plan) → IsFree scenario history b s → slice_get (commands_of scenario b) (length s.finished) ≡ Some command → owed_in (facts_of history b) command (work_of s) ≡ []
    → s.left ≡ Do act rest → IsAsked act → s.taken ≡ None → gives_in (facts_of history b) (work_of s) act ≡ None → HasNext scenario history b
asking_next scenario history b s command act rest free at none left asks untaken stuck = by_act act left asks stuck
  where
    facts : Facts
    facts = facts_of history b

    held : (rel : Oid) (mode : Mode) → holds (held_of history) b rel mode ≡ has_lock s.locks rel mode
    held rel mode = session_holds scenario history b s (allowed_sound scenario history free.spelled free.allowed) free.is rel mode

    unlocked : (t : Bool) (given : List Row) → if_locked t given ≡ None → t ≡ false
    unlocked false given is = refl
    unlocked true given is = absurd (cc is)

    alone : (t : Bool) → (t && true) ≡ t
    alone true = refl
    alone false = refl

    locks : (rel : Oid) (mode : Mode) → IsLock facts s.left rel mode → has_lock s.locks rel mode ≡ false → HasNext scenario history b
    locks rel mode is free_lock = lock_next scenario history b s command rel mode free at none untaken is (held rel mode ∙ free_lock)

    looks_up : (name : List ℕ) (mode : Mode) (given : List Row) → rows_kept facts.kept (scans.RelName name) ≡ given → s.left ≡ Do (Lookup name mode) rest → looked_up_in facts (work_of s) mode given ≡ None → HasNext scenario history b
    looks_up name mode (rows.Class oid own kind fill ∷ more) gave here is = locks oid mode (subst (λ p. IsLock facts p oid mode) (sym here) (ap class_oid gave, refl))
        (sym (alone (has_lock s.locks oid mode)) ∙ sym (ap (λ t. has_lock s.locks oid mode && has_taken_no_other t oid) untaken) ∙ unlocked _ _ is)
    looks_up name mode given gave here is = unfound_next scenario history b s command free at (nothing_owed facts command s none) (ap (λ p. is_settled (outcome_of p)) here) untaken (unlocked _ _ is)

    by_act : (a : Act) → s.left ≡ Do a rest → IsAsked a → gives_in facts (work_of s) a ≡ None → HasNext scenario history b
    by_act (Lookup name mode) here asked is = looks_up name mode (rows_kept facts.kept (scans.RelName name)) refl here is
    by_act (Lock rel mode) here asked is = locks rel mode (subst (λ p. IsLock facts p rel mode) (sym here) (refl, refl)) (unlocked _ _ is)
    by_act a here asked is = absurd asked
