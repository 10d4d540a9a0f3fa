-- The next entry of a history leaves each backend on its course.
use Rattle.std.proofs.Common.{◌≡◌, ◌+◌, ◌∙◌, ℕ, Bool, true, false, Option, Some, None, List, [], ◌∷◌, ◌++◌, ◌==◌, refl, sym, ap, subst, map, length, drop, slice_get, arith}
use Rattle.std.proofs.lemmas.Bool.{eqb-true, eq-eqb, both_ways}
use Rattle.base_types.specs.declared.scan.Purpose.TheVariants as scans
use Rattle.event_kinds.specs.declared.entry.Event.TheVariants as events
use Rattle.lock_modes.specs.Own.{cleared}
use Rattle.ddl_effect.specs.Plans.{Write, Plan, Absent, Do}
use Rattle.txn_blocks.specs.Blocks.{no_block}
use Rattle.ddl_effect.specs.Commands.{commands_of}
use Rattle.history_model.specs.Drawn.{next_oid}
use Rattle.history_model.specs.Transactions.{has_written}
use Rattle.history_model.proofs.Reading.{last_event_of-other, rows_read-other}
use Rattle.history_model.proofs.Touched.{entry_of}
use Rattle.cacheless.specs.Types.{OwnLock, Scenario, Command, Entry, Event}
use Rattle.cacheless.specs.Facts.{Facts, facts_of}
use Rattle.cacheless.specs.OnCourse.{is_over, TellsAlone, IsOnCourse, CourseOf, AllOnCourse, ClearUnlessOwed, EntersCourse, AreOfKinds}
use Rattle.cacheless.proofs.Allowed.KindsHeld.{kinds_later, noted_kinds}
use Rattle.cacheless.specs.Work.{work_of}
use Rattle.cacheless.specs.Owed.{accepts_in}
use Rattle.cacheless.specs.Played.{IsPlayed}
use Rattle.cacheless.specs.Plays.{MayPlayIn, IsStart, MayPlayAt, IsNext}
use Rattle.cacheless.specs.Session.{Session, number_of, first_of, none_open, at_command}
use Rattle.cacheless.specs.Sessions.{written, resumed, noted, placed_at, counted, accepted, commands_left, entered, session_by, session_of}
use Rattle.cacheless.specs.Settled.{settled}
use Rattle.cacheless.proofs.HeldLocks.{settled-locks}
use Rattle.cacheless.proofs.Allowed.OwnEntries.{IsNoted, own_follows, OwnEntry}
use Rattle.cacheless.proofs.Allowed.Releases.{release_finishes, alone_stays}
use Rattle.cacheless.proofs.Reading.{facts_of-own, facts_of-other, session_of-own, session_of-other}
use Rattle.cacheless.proofs.Allowed.SettledCourse.{first_left, begins_on_course, settled_on_course}
use Rattle.cacheless.proofs.Allowed.StaysOnCourse.{has_written-quiet, has_written-other, has_written-earlier, MayCome, follows-more}

-- a full fetch is counted in the tally alone
pub counted_tally : (facts : Facts) (event : Event) (s : Session) → counted facts event s ≡ record s { tally = (counted facts event s).tally }
counted_tally facts (events.Fetch count) s = refl
counted_tally facts event s = refl

-- the session after an own entry, before its silent acts, is that which the entry left
pub entered_noted : (facts : Facts) (left : List Command) (at c : ℕ) (event : Event) (s : Session) → IsNoted (noted event s) (entered facts left at c event s)
entered_noted facts left at c event s = record {
  after = record {
    left = ap (λ x. x.left) same;
    refused = ap (λ x. x.refused) same;
    opens = ap (λ x. x.opens) same;
    opened = ap (λ x. x.opened) same;
    found = ap (λ x. x.found) same;
    sought = ap (λ x. x.sought) same;
    finished = ap (λ x. x.finished) same;
    blocks = ap (λ x. x.blocks) same;
    taken = ap (λ x. x.taken) same;
  };
  ended = ap (λ x. x.ended) same;
}
  where
    same : counted facts event (placed_at at c event s) ≡ record (placed_at at c event s) { tally = (counted facts event (placed_at at c event s)).tally }
    same = counted_tally facts event (placed_at at c event s)

cleared_twice : (locks : List OwnLock) → map cleared (map cleared locks) ≡ map cleared locks
cleared_twice [] = refl
cleared_twice (lock ∷ locks) = ap (λ l. cleared lock ∷ l) (cleared_twice locks)

-- where its accept of messages is over its locks are clear
pub accepted_clear : (facts : Facts) (command : Option Command) (s : Session) → ClearUnlessOwed facts command (accepted facts command s)
accepted_clear facts command s = λ owes. by_test (accepts_in facts (work_of s) command) (same command ∙ owes)
  where
    same : (o : Option Command) → accepts_in facts (work_of s) o ≡ accepts_in facts (work_of (accepted facts command s)) o
    same None = refl
    same (Some c) = refl

    locks_if : Bool → List OwnLock
    locks_if t = elim t as (λ x. List OwnLock) [ true ↦ s.locks | false ↦ map cleared s.locks ]

    by_test : (t : Bool) → t ≡ false → map cleared (locks_if t) ≡ locks_if t
    by_test true over = absurd (cc over)
    by_test false over = cleared_twice s.locks

written_finished : (plan : Plan) (s : Session) → (written plan s).finished ≡ s.finished
written_finished (Do (Write draft) rest) s = refl
written_finished plan s = refl

resumed_finished : (plan : Plan) (s : Session) → (resumed plan s).finished ≡ s.finished
resumed_finished (Absent name) s = refl
resumed_finished plan s = refl

-- an event finishes no command
pub noted_finished : (event : Event) (s : Session) → (noted event s).finished ≡ s.finished
noted_finished (events.Write xid items) s = written_finished s.left s
noted_finished (events.Fetch count) s = resumed_finished s.left s
noted_finished events.FetchReset s = resumed_finished s.left s
noted_finished event s = refl

-- another's entry leaves a backend on its course
pub other_stays : (scenario : Scenario) (history : List Entry) (e : Entry) (b : ℕ) (o : Option Session) → MayCome history e → (e.backend == b) ≡ false → CourseOf scenario history b o → CourseOf scenario (history ++ e ∷ []) b o
other_stays scenario history e b None may other none = λ c. has_written-other history e b c other ∙ none c
other_stays scenario history e b (Some s) may other course = record {
  follows = λ command at. follows-more history e b s s command may (λ own. absurd (both_ways _ other own)) (λ c. has_written-other history e b c other) (λ name. rows_read-other history e b (scans.RelName name) other)
      (λ over. ap (λ last. is_over last s) (last_event_of-other history e b other) ∙ over) (record { left = refl; refused = refl; opens = refl; opened = refl; found = refl; sought = refl; finished = refl; blocks = refl; taken = refl }) refl (course.follows command at);
  going = λ command at over. let alone = course.going command at over in record { told = alone.told; plan = alone.plan; left = alone.left; alone = alone.alone; unwritten = has_written-other history e b (number_of s) other ∙ alone.unwritten };
  later = λ c after. has_written-other history e b c other ∙ course.later c after;
  clear = subst (λ facts. ClearUnlessOwed facts (slice_get (commands_of scenario b) (length s.finished)) s) (sym (facts_of-other history e b other)) course.clear;
  kinds = kinds_later history e s.opens s.opened may.comes course.kinds;
}

-- the entry of a backend and a command after a history
abbrev pub with_entry : List Entry → ℕ → ℕ → Event → List Entry
with_entry history b c event = history ++ entry_of b c event ∷ []

-- the session after an own entry, by the facts then
abbrev pub session_then : Scenario → List Entry → ℕ → ℕ → Event → Option Session → Option Session
session_then scenario history b c event old = session_by scenario (facts_of (with_entry history b c event) b) b (length history + 1) c event old

-- it is the session of the history with the entry
pub session_is : (scenario : Scenario) (history : List Entry) (b c : ℕ) (event : Event) → session_of scenario (with_entry history b c event) b ≡ session_then scenario history b c event (session_of scenario history b)
session_is scenario history b c event = session_of-own scenario history (entry_of b c event) b (eq-eqb b b refl)
    ∙ ap (λ facts. session_by scenario facts b (length history + 1) c event (session_of scenario history b)) (sym (facts_of-own history (entry_of b c event) b (eq-eqb b b refl)))

-- a backend starts on its course
pub starts_on_course : (scenario : Scenario) (history : List Entry) (b c : ℕ) (event : Event) → IsPlayed scenario (with_entry history b c event) → session_of scenario (with_entry history b c event) b ≡ session_then scenario history b c event None → IsStart event
    → ((n : ℕ) → has_written history b n ≡ false) → CourseOf scenario (with_entry history b c event) b (session_then scenario history b c event None)
starts_on_course scenario history b c events.Start played is start none =
    settled_on_course scenario new b commands first (record { played = played; session = settled (facts_of new b) commands first; is = is; holds = settled-locks (facts_of new b) commands first }) refl
    (begins_on_course scenario new b no_block none_open [] [] (length history + 1) commands refl (λ n after. has_written-quiet history (entry_of b c events.Start) b n refl ∙ none n) refl tt)
  where
    new : List Entry
    new = with_entry history b c events.Start

    commands : List Command
    commands = commands_of scenario b

    first : Session
    first = at_command no_block none_open [] [] (length history + 1) (first_of commands)
starts_on_course scenario history b c event played is start none = absurd start

-- the session that an own entry leaves, before it goes on
pub enters_on_course : (scenario : Scenario) (history : List Entry) (b : ℕ) (event : Event) (s : Session) → MayCome history (entry_of b (number_of s) event)
    → MayPlayIn (next_oid history) (facts_of history b) (slice_get (commands_of scenario b) (length s.finished)) s event → IsOnCourse scenario history b s
    → EntersCourse scenario (with_entry history b (number_of s) event) b (entered (facts_of (with_entry history b (number_of s) event) b) (commands_left scenario b s) (length history + 1) (number_of s) event s)
enters_on_course scenario history b event s may plays course = record {
  follows = λ command here. own_follows history b s later command event (own command (now_at command here)) noted_is;
  ends = λ command here over. release_finishes history b s command event (own command (now_at command here)) (facts_of-own history (entry_of b (number_of s) event) b (eq-eqb b b refl)) later noted_is over;
  later = λ n after. has_written-earlier history (entry_of b (number_of s) event) b n (omega (arith, after, counts)) (course.later n (omega (arith, after, counts)));
  clear = subst (λ o. ClearUnlessOwed new_facts o later) (first_left (commands_of scenario b) (length s.finished) ∙ ap (slice_get (commands_of scenario b)) (sym counts)) (accepted_clear new_facts (first_of left) (counted new_facts event (placed_at (length history + 1) (number_of s) event s)));
  kinds = kinds;
}
  where
    new_facts : Facts
    new_facts = facts_of (with_entry history b (number_of s) event) b

    left : List Command
    left = commands_left scenario b s

    later : Session
    later = entered (facts_of (with_entry history b (number_of s) event) b) left (length history + 1) (number_of s) event s

    noted_is : IsNoted (noted event s) later
    noted_is = entered_noted (facts_of (with_entry history b (number_of s) event) b) left (length history + 1) (number_of s) event s

    counts : length later.finished ≡ length s.finished
    counts = ap length (noted_is.after.finished ∙ noted_finished event s)

    new : List Entry
    new = with_entry history b (number_of s) event

    kinds : AreOfKinds new later.opens later.opened
    kinds = subst (λ o. AreOfKinds new o later.opened) (sym noted_is.after.opens) (subst (AreOfKinds new (noted event s).opens) (sym noted_is.after.opened)
        (noted_kinds new event s (kinds_later history (entry_of b (number_of s) event) s.opens s.opened may.comes course.kinds)))

    now_at : (command : Command) → slice_get (commands_of scenario b) (length later.finished) ≡ Some command → slice_get (commands_of scenario b) (length s.finished) ≡ Some command
    now_at command here = ap (slice_get (commands_of scenario b)) (sym counts) ∙ here

    own : (command : Command) → slice_get (commands_of scenario b) (length s.finished) ≡ Some command → OwnEntry history b s command event
    own command at = record { may = may; plays = subst (λ o. MayPlayIn (next_oid history) (facts_of history b) o s event) at plays; follows = course.follows command at; going = course.going command at }

-- after its release a command that goes on tells of no scan, whichever its next entry is
pub alone_on_course : (scenario : Scenario) (history : List Entry) (b : ℕ) (event : Event) (s : Session) → MayCome history (entry_of b (number_of s) event)
    → MayPlayIn (next_oid history) (facts_of history b) (slice_get (commands_of scenario b) (length s.finished)) s event → IsOnCourse scenario history b s → (command : Command) → slice_get (commands_of scenario b) (length s.finished) ≡ Some command → s.ended ≡ true
    → TellsAlone (with_entry history b (number_of s) event) b (entered (facts_of (with_entry history b (number_of s) event) b) (commands_left scenario b s) (length history + 1) (number_of s) event s) command
alone_on_course scenario history b event s may plays course command at over = alone_stays history b s later command event
    (record { may = may; plays = subst (λ o. MayPlayIn (next_oid history) (facts_of history b) o s event) at plays; follows = course.follows command at; going = course.going command at })
    (entered_noted (facts_of (with_entry history b (number_of s) event) b) (commands_left scenario b s) (length history + 1) (number_of s) event s) over
  where
    later : Session
    later = entered (facts_of (with_entry history b (number_of s) event) b) (commands_left scenario b s) (length history + 1) (number_of s) event s

-- no session starts
pub no_start : (next : ℕ) (facts : Facts) (command : Option Command) (s : Session) → MayPlayIn next facts command s events.Start → ⊥
no_start next facts None s may = may
no_start next facts (Some command) s may = may

-- a backend that has started goes on so
pub goes_on_course : (scenario : Scenario) (history : List Entry) (b : ℕ) (event : Event) (s : Session) → IsPlayed scenario (with_entry history b (number_of s) event) → MayCome history (entry_of b (number_of s) event)
    → session_of scenario (with_entry history b (number_of s) event) b ≡ session_then scenario history b (number_of s) event (Some s) → MayPlayIn (next_oid history) (facts_of history b) (slice_get (commands_of scenario b) (length s.finished)) s event
    → IsOnCourse scenario history b s → CourseOf scenario (with_entry history b (number_of s) event) b (session_then scenario history b (number_of s) event (Some s))
goes_on_course scenario history b events.Start s played may is plays course = absurd (no_start (next_oid history) (facts_of history b) _ s plays)
goes_on_course scenario history b event s played may is plays course =
    settled_on_course scenario new b left later (record { played = played; session = settled (facts_of new b) left later; is = is; holds = settled-locks (facts_of new b) left later })
    (ap (λ l. drop (length l) (commands_of scenario b)) (sym (noted_is.after.finished ∙ noted_finished event s)))
    (enters_on_course scenario history b event s may plays course)
  where
    new : List Entry
    new = with_entry history b (number_of s) event

    left : List Command
    left = commands_left scenario b s

    later : Session
    later = entered (facts_of new b) left (length history + 1) (number_of s) event s

    noted_is : IsNoted (noted event s) later
    noted_is = entered_noted (facts_of new b) left (length history + 1) (number_of s) event s

-- an own entry leaves a backend on its course
own_stays : (scenario : Scenario) (history : List Entry) (b c : ℕ) (event : Event) (o : Option Session) → IsPlayed scenario (with_entry history b c event) → MayCome history (entry_of b c event)
    → session_of scenario (with_entry history b c event) b ≡ session_then scenario history b c event o → MayPlayAt scenario history b o c event → CourseOf scenario history b o
    → CourseOf scenario (with_entry history b c event) b (session_then scenario history b c event o)
own_stays scenario history b c event None played may is plays course = starts_on_course scenario history b c event played is plays course
own_stays scenario history b c event (Some s) played may is plays course =
    subst (λ n. IsPlayed scenario (with_entry history b n event) → MayCome history (entry_of b n event) → session_of scenario (with_entry history b n event) b ≡ session_then scenario history b n event (Some s)
    → CourseOf scenario (with_entry history b n event) b (session_then scenario history b n event (Some s))) (sym plays.0)
    (λ played' may' is'. goes_on_course scenario history b event s played' may' is' plays.1 course) played may is

-- so each backend stays on its course
pub all_stay : (scenario : Scenario) (history : List Entry) (e : Entry) → IsPlayed scenario (history ++ e ∷ []) → MayCome history e → IsNext scenario history e → AllOnCourse scenario history → AllOnCourse scenario (history ++ e ∷ [])
all_stay scenario history e played may next courses b = by_owner (e.backend == b) refl
  where
    by_owner : (t : Bool) → (e.backend == b) ≡ t → CourseOf scenario (history ++ e ∷ []) b (session_of scenario (history ++ e ∷ []) b)
    by_owner true own = subst (λ o. CourseOf scenario (history ++ e ∷ []) o (session_of scenario (history ++ e ∷ []) o)) (eqb-true e.backend b own) (
        subst (CourseOf scenario (history ++ e ∷ []) e.backend) (sym (session_is scenario history e.backend e.command e.event))
        (own_stays scenario history e.backend e.command e.event (session_of scenario history e.backend) played may (session_is scenario history e.backend e.command e.event) next.1 (courses e.backend)))
    by_owner false other = subst (CourseOf scenario (history ++ e ∷ []) b) (sym (session_of-other scenario history e b other)) (other_stays scenario history e b (session_of scenario history b) may other (courses b))
