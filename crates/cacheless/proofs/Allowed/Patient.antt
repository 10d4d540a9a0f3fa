-- A backend does nothing else while it owes a look or a fetch.
use Rattle.std.proofs.Common.{◌≡◌, ℕ, true, Option, Some, None, List, [], ◌∷◌, ◌++◌}
use Rattle.std.specs.Prelude.{⊤}
use Rattle.base_types.specs.Scenario.{Scenario}
use Rattle.base_types.specs.declared.command.Command.{Command}
use Rattle.event_kinds.specs.declared.entry.Entry.{Entry}
use Rattle.event_kinds.specs.declared.entry.Event.{Event}
use Rattle.event_kinds.specs.declared.entry.Event.TheVariants as events
use Rattle.history_model.specs.Lives.{last_event_of}
use Rattle.history_model.specs.Drawn.{next_oid}
use Rattle.cacheless.specs.declared.progress.Due.{Due}
use Rattle.cacheless.specs.declared.progress.Due.TheVariants as dues
use Rattle.cacheless.specs.Facts.{due_last, Facts, facts_of}
use Rattle.cacheless.specs.Session.{Session}
use Rattle.cacheless.specs.Work.{work_of}
use Rattle.cacheless.specs.Owed.{Owes, OwesFetch, owed_after, owed_in}
use Rattle.cacheless.specs.Ends.{End, Ends, Commits, TakesBack, end_in}
use Rattle.cacheless.specs.Plays.{may_look_in, owed_at_end, MayPlay, MayPlayLast, MayPlayIn, IsStart, MayPlayAt, IsNext}
use Rattle.cacheless.specs.Sessions.{session_of}

-- no fetch is owed
abbrev pub IsNoFetch : List Owes → Type 0
IsNoFetch (OwesFetch ∷ more) = ⊥
IsNoFetch owed = ⊤

-- by what is owed after the last event: a look where no fetch is owed, and all but a start, a fetch and a stop where nothing is
abbrev pub IsPatient : List Owes → Event → Type 0
IsPatient owed events.Start = ⊤
IsPatient owed (events.Look some_wait) = IsNoFetch owed
IsPatient owed (events.Fetch count) = ⊤
IsPatient owed events.FetchReset = ⊤
IsPatient owed events.Stop = ⊤
IsPatient owed event = owed ≡ []

left_empty : {X : Type 0} (xs ys : List X) → xs ++ ys ≡ [] → xs ≡ []
left_empty [] ys none = λ i. []
left_empty (x ∷ xs) ys none = absurd (cc)

right_empty : {X : Type 0} (xs ys : List X) → xs ++ ys ≡ [] → ys ≡ []
right_empty [] ys none = none
right_empty (x ∷ xs) ys none = absurd (cc)

pub nothing_owed : (facts : Facts) (command : Command) (s : Session) → owed_in facts command (work_of s) ≡ [] → owed_after facts.due ≡ []
nothing_owed facts command s none = right_empty _ (owed_after facts.due) (left_empty _ _ none)

at_end : (facts : Facts) (command : Command) (s : Session) → owed_at_end facts command s ≡ [] → owed_after facts.due ≡ []
at_end facts command s none = by_end (end_in facts command (work_of s)) none
  where
    by_end : (end : End) → (elim end as (λ x. List Owes) [ TakesBack from ↦ owed_after facts.due | other ↦ owed_in facts command (work_of s) ]) ≡ [] → owed_after facts.due ≡ []
    by_end (TakesBack from) h = h
    by_end Ends h = nothing_owed facts command s h
    by_end (Commits first) h = nothing_owed facts command s h

look_allowed : (facts : Facts) (s : Session) → may_look_in facts (work_of s) ≡ true → IsNoFetch (owed_after facts.due)
look_allowed facts s may = by_due facts.due may
  where
    by_due : (due : Due) → may_look_in (record facts { due = due }) (work_of s) ≡ true → IsNoFetch (owed_after due)
    by_due dues.Fetch h = absurd (cc)
    by_due due h = tt

in_command : (next : ℕ) (facts : Facts) (command : Command) (s : Session) (event : Event) → MayPlay next facts command s event → IsPatient (owed_after facts.due) event
in_command next facts command s (events.Look some_wait) may = look_allowed facts s may
in_command next facts command s (events.Fetch count) may = tt
in_command next facts command s events.FetchReset may = tt
in_command next facts command s (events.Scan scan count) may = may.0
in_command next facts command s (events.LockOk rel mode) may = nothing_owed facts command s may.0
in_command next facts command s (events.LockHeld rel mode holder held) may = nothing_owed facts command s may.0
in_command next facts command s (events.Unlock rel mode) may = nothing_owed facts command s may.0
in_command next facts command s (events.Write xid items) may = nothing_owed facts command s may.0
in_command next facts command s (events.ClashRow name rel) may = nothing_owed facts command s may.0
in_command next facts command s (events.ClashRunning name xid) may = nothing_owed facts command s may.0
in_command next facts command s (events.Visible xid) may = at_end facts command s may.0
in_command next facts command s (events.Publish count) may = at_end facts command s may.0
in_command next facts command s (events.Gone from) may = at_end facts command s may.0
in_command next facts command s (events.Release from) may = at_end facts command s may.0
in_command next facts command s event may = absurd may

after_all : (facts : Facts) (s : Session) (event : Event) → MayPlayLast facts s event → IsPatient (owed_after facts.due) event
after_all facts s (events.Look some_wait) may = look_allowed facts s may.1
after_all facts s (events.Fetch count) may = tt
after_all facts s events.FetchReset may = tt
after_all facts s (events.Scan scan count) may = may.0
after_all facts s (events.Gone from) may = may.0
after_all facts s (events.Release from) may = may.0
after_all facts s events.Stop may = tt
after_all facts s event may = absurd may

at_start : (owed : List Owes) (event : Event) → IsStart event → IsPatient owed event
at_start owed events.Start is = tt
at_start owed event is = absurd is

-- what backends do next that follow their commands
pub patient : (scenario : Scenario) (history : List Entry) (e : Entry) → IsNext scenario history e → IsPatient (owed_after (due_last (last_event_of history e.backend))) e.event
patient scenario history e next = by_session (session_of scenario history e.backend) next.1
  where
    facts : Facts
    facts = facts_of history e.backend

    by_command : (s : Session) (command : Option Command) → MayPlayIn (next_oid history) facts command s e.event → IsPatient (owed_after facts.due) e.event
    by_command s None may = after_all facts s e.event may
    by_command s (Some command) may = in_command (next_oid history) facts command s e.event may

    by_session : (s : Option Session) → MayPlayAt scenario history e.backend s e.command e.event → IsPatient (owed_after facts.due) e.event
    by_session None may = at_start (owed_after facts.due) e.event may
    by_session (Some s) may = by_command s _ may.1
