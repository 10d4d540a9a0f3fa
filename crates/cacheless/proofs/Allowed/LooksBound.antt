-- In an allowed history a look that is owed may be made, and so may the look for a scan, and that of a lookup that found no relation.
use Rattle.std.proofs.Common.{◌≡◌, ◌≤◌, ◌+◌, ◌*◌, ◌∙◌, ◌⊎◌, inl, inr, ◌==◌, ℕ, Bool, true, false, Option, Some, None, List, [], ◌∷◌, ◌++◌, refl, sym, ap, subst, length, drop, slice_get, arith}
use Rattle.std.specs.Prelude.{⊤, nat_le}
use Rattle.std.specs.Option.{option_map_or}
use Rattle.std.proofs.lemmas.Bool.{eqb-true, le-leb, leb-true, ltb-false, both_ways}
use Rattle.std.proofs.lemmas.List.{length_push}
use Rattle.event_kinds.specs.declared.entry.Event.TheVariants as events
use Rattle.ddl_effect.specs.Plans.{Act, Lookup, Open, Search, Read, Lock, Write, Plan, Done, Fails, Absent, Do}
use Rattle.ddl_effect.specs.Commands.{commands_of}
use Rattle.txn_blocks.specs.Blocks.{no_block}
use Rattle.txn_blocks.specs.declared.transaction.RunningTransaction.{RunningTransaction as Running}
use Rattle.history_model.specs.Drawn.{next_oid}
use Rattle.history_model.specs.MayFollow.{MayFollow}
use Rattle.history_model.specs.Legal.{IsLegal}
use Rattle.history_model.specs.Lives.{last_event_of}
use Rattle.history_model.specs.Changing.{is_empty}
use Rattle.history_model.proofs.Allows.{legal_follows}
use Rattle.history_model.proofs.Prefixes.{EachFrom-both, each-keeps}
use Rattle.history_model.proofs.Reading.{last_event_of-own, last_event_of-other}
use Rattle.cacheless.specs.Types.{Row, Item, Scenario, Command, Entry, Event}
use Rattle.cacheless.specs.Facts.{Facts, due_last, facts_of}
use Rattle.cacheless.specs.OnCourse.{FollowsPlan, AllOnCourse, CourseOf}
use Rattle.cacheless.specs.Owed.{Owes, OwesLook, OwesFetch, OwesScan, owed_after, is_quiet, owed_first_in, counts_full, started_in, has_looked_in}
use Rattle.cacheless.specs.Played.{AreSpelled, IsPlayed}
use Rattle.cacheless.specs.Plays.{may_look_in, IsWrite, MayPlay, MayPlayLast, MayPlayIn, MayPlayAt, IsNext, Plays}
use Rattle.cacheless.specs.Session.{Session, Tally, number_of, first_of, none_open, at_command, outcome_of, is_settled}
use Rattle.cacheless.specs.Sessions.{noted, placed_at, counted, written, commands_left, entered, session_by, session_of}
use Rattle.cacheless.specs.Work.{work_of}
use Rattle.cacheless.specs.Settled.{done_here, act_done, acted_on, acted, is_finished_in, finished_as, next_session, settled}
use Rattle.cacheless.proofs.FactsAfter.{facts_by}
use Rattle.cacheless.proofs.Allowed.AllowedHistories.{played_more, played_start}
use Rattle.cacheless.proofs.Allowed.NextOnCourse.{entered_noted, noted_finished, no_start}
use Rattle.cacheless.proofs.Allowed.OwnEntries.{IsNoted, ends_out}
use Rattle.cacheless.proofs.Allowed.Patient.{IsNoFetch}
use Rattle.cacheless.proofs.Allowed.SettledCourse.{first_left, rest_left}
use Rattle.cacheless.proofs.Plans.SilentActs.{on_its_way, its_place}
use Rattle.cacheless.proofs.Reading.{session_of-own, session_of-other}
use Rattle.cacheless.proofs.Settling.{acted-out}

-- how many looks a command earned by what it did
abbrev pub earned : Tally → ℕ
earned t = t.scans + t.grants + t.unlocks + 2 * t.fetches

-- the command has come out, or there is none left
abbrev pub is_out : Option Command → Plan → Bool
is_out None plan = true
is_out (Some command) plan = is_settled (outcome_of plan)

-- after this event a command's looks are within their bound: after one that earns a look there is room for one more, and after any other that is no look it has made none, or is out
abbrev pub BoundAfter : Option Event → Bool → Tally → Type 0
BoundAfter (Some (events.Look some_wait)) out t = t.looks ≤ earned t + 3
BoundAfter (Some (events.LockOk rel mode)) out t = t.looks ≤ earned t + 2
BoundAfter (Some (events.Unlock rel mode)) out t = t.looks ≤ earned t + 2
BoundAfter (Some (events.Scan scan rows)) out t = t.looks ≤ earned t + 2
BoundAfter (Some (events.Fetch count)) out t = t.looks ≤ earned t + 2
BoundAfter (Some events.FetchReset) out t = t.looks ≤ earned t + 2
BoundAfter last out t = (t.looks ≡ 0) ⊎ ((t.looks ≤ earned t + 3) × (out ≡ true))

-- so it is of the running command, if there is one, with this plan left; a full fetch is a fetch
pub record LooksBound (last : Option Event) (o : Option Command) (plan : Plan) (t : Tally) : Type 0 where
  pub bound : BoundAfter last (is_out o plan) t
  pub full : t.full ≤ t.fetches

-- a command that has made no look
none_made : (last : Option Event) (out : Bool) (t : Tally) → t.looks ≡ 0 → BoundAfter last out t
none_made (Some (events.Look some_wait)) out t none = omega (arith, none)
none_made (Some (events.LockOk rel mode)) out t none = omega (arith, none)
none_made (Some (events.Unlock rel mode)) out t none = omega (arith, none)
none_made (Some (events.Scan scan rows)) out t none = omega (arith, none)
none_made (Some (events.Fetch count)) out t none = omega (arith, none)
none_made (Some events.FetchReset) out t none = omega (arith, none)
none_made last out t none = inl none

-- whatever came last
pub at_most : (last : Option Event) (out : Bool) (t : Tally) → BoundAfter last out t → t.looks ≤ earned t + 3
at_most (Some (events.Look some_wait)) out t bound = bound
at_most (Some (events.LockOk rel mode)) out t bound = omega (arith, bound)
at_most (Some (events.Unlock rel mode)) out t bound = omega (arith, bound)
at_most (Some (events.Scan scan rows)) out t bound = omega (arith, bound)
at_most (Some (events.Fetch count)) out t bound = omega (arith, bound)
at_most (Some events.FetchReset) out t bound = omega (arith, bound)
at_most last out t (inl none) = omega (arith, none)
at_most last out t (inr most) = most.0

-- whether it comes out by then, where it wasn't out
bound_on : (last : Option Event) (out other : Bool) (t : Tally) → out ≡ false → BoundAfter last out t → BoundAfter last other t
bound_on (Some (events.Look some_wait)) out other t going bound = bound
bound_on (Some (events.LockOk rel mode)) out other t going bound = bound
bound_on (Some (events.Unlock rel mode)) out other t going bound = bound
bound_on (Some (events.Scan scan rows)) out other t going bound = bound
bound_on (Some (events.Fetch count)) out other t going bound = bound
bound_on (Some events.FetchReset) out other t going bound = bound
bound_on last out other t going (inl none) = inl none
bound_on last out other t going (inr is) = absurd (both_ways _ going is.1)

-- a look that may be made has room
look_room : (facts : Facts) (s : Session) → may_look_in facts (work_of s) ≡ true → s.tally.looks + 1 ≤ earned s.tally + 3
look_room facts s may = by_owed (owed_after facts.due) may
  where
    by_owed : (l : List Owes) → elim l [ OwesFetch ∷ owed ↦ false | owed ↦ nat_le (s.tally.looks + 1) (s.tally.scans + s.tally.grants + s.tally.unlocks + 2 * s.tally.fetches + 3) ] ≡ true → s.tally.looks + 1 ≤ earned s.tally + 3
    by_owed [] is = leb-true _ _ is
    by_owed (OwesFetch ∷ owed) is = absurd (cc is)
    by_owed (OwesLook ∷ owed) is = leb-true _ _ is
    by_owed (OwesScan scan ∷ owed) is = leb-true _ _ is

-- what acts without entries leave
acted_on-same : {X : Type 0} (get : Session → X) → ((act : Act) (given : List Row) (rest : Plan) (s : Session) → get (act_done act given rest s) ≡ get s) → (facts : Facts) (p : Plan) (s : Session) → get (acted_on facts p s) ≡ get s
acted_on-same get same facts (Done told) s = refl
acted_on-same get same facts (Fails error) s = refl
acted_on-same get same facts (Absent name) s = refl
acted_on-same get same facts (Do act rest) s = by_given (done_here facts s act (Do act rest)) (λ given. acted_on-same get same facts (rest given) (act_done act given (rest given) s) ∙ same act given (rest given) s)
  where
    by_given : (o : Option (List Row)) → ((given : List Row) → get (acted_on facts (rest given) (act_done act given (rest given) s)) ≡ get s)
        → get (elim o as (λ x. Session) [ None ↦ s | Some given ↦ acted_on facts (rest given) (act_done act given (rest given) s) ]) ≡ get s
    by_given None more = refl
    by_given (Some given) more = more given

pub acted-same : {X : Type 0} (get : Session → X) → ((act : Act) (given : List Row) (rest : Plan) (s : Session) → get (act_done act given rest s) ≡ get s) → (facts : Facts) (command : Command) (s : Session) → get (acted facts command s) ≡ get s
acted-same get same facts command s = by_free (is_empty (owed_first_in facts command (work_of s) ++ owed_after facts.due))
  where
    by_free : (free : Bool) → get (elim free as (λ x. Session) [ true ↦ acted_on facts s.left s | false ↦ s ]) ≡ get s
    by_free true = acted_on-same get same facts s.left s
    by_free false = refl

-- acts without entries keep the bound
acted-bound : (facts : Facts) (last : Option Event) (command : Command) (s : Session) → LooksBound last (Some command) s.left s.tally → LooksBound last (Some command) (acted facts command s).left (acted facts command s).tally
acted-bound facts last command s fits = by_out (is_settled (outcome_of s.left)) refl
  where
    now : Session
    now = acted facts command s

    by_out : (t : Bool) → is_settled (outcome_of s.left) ≡ t → LooksBound last (Some command) now.left now.tally
    by_out true out = subst (λ (x : Session). LooksBound last (Some command) x.left x.tally) (sym (acted-out facts command s out)) fits
    by_out false going = subst (λ (t : Tally). LooksBound last (Some command) now.left t) (sym (acted-same (λ x. x.tally) (λ act given rest x. refl) facts command s))
        (record { bound = bound_on last (is_settled (outcome_of s.left)) (is_settled (outcome_of now.left)) s.tally going fits.bound; full = fits.full })

-- the bound of a session among these commands
abbrev pub BoundOf : Option Event → List Command → Session → Type 0
BoundOf last all s = LooksBound last (slice_get all (length s.finished)) s.left s.tally

-- passing to the next command keeps it: that has made no look
settled-bound : (facts : Facts) (last : Option Event) (all commands : List Command) (s : Session) → commands ≡ drop (length s.finished) all → LooksBound last (first_of commands) s.left s.tally → BoundOf last all (settled facts commands s)
settled-bound facts last all [] s are fits = subst (λ o. LooksBound last o s.left s.tally) (ap first_of are ∙ first_left all (length s.finished)) fits
settled-bound facts last all (command ∷ rest) s are fits = by_end (is_finished_in facts command (work_of now)) (settled-bound facts last all rest next rest_is (record { bound = none_made last (is_out (first_of rest) next.left) next.tally refl; full = omega arith }))
  where
    now : Session
    now = acted facts command s

    next : Session
    next = next_session command (first_of rest) now

    counts : length now.finished ≡ length s.finished
    counts = ap length (acted-same (λ x. x.finished) (λ act given more x. refl) facts command s)

    rest_is : rest ≡ drop (length next.finished) all
    rest_is = rest_left all (length s.finished) command rest are ∙ ap (λ n. drop n all) (sym (length_push now.finished (finished_as now) ∙ ap (λ n. n + 1) counts))

    here : BoundOf last all now
    here = subst (λ o. LooksBound last o now.left now.tally) (ap first_of are ∙ first_left all (length s.finished) ∙ ap (slice_get all) (sym counts)) (acted-bound facts last command s fits)

    by_end : (t : Bool) → BoundOf last all (settled facts rest next) → BoundOf last all (elim t as (λ x. Session) [ true ↦ settled facts rest next | false ↦ now ])
    by_end true more = more
    by_end false more = here

-- after its write a command has come out
out_written : (history : List Entry) (b : ℕ) (s : Session) (command : Command) (next : ℕ) (items : List Item) → FollowsPlan history b s command → IsWrite next s.left items → is_settled (outcome_of (written s.left s).left) ≡ true
out_written history b s command next items follows writes = by_plan s.left refl writes
  where
    by_plan : (p : Plan) → s.left ≡ p → IsWrite next p items → is_settled (outcome_of (written p s).left) ≡ true
    by_plan (Do (Write draft) rest) at are = ap (λ p. is_settled (outcome_of p)) ((its_place history b s command (Write draft) rest (on_its_way history b s command (Write draft) rest follows at) at).0 [])
    by_plan (Do (Lookup name mode) rest) at are = absurd are
    by_plan (Do (Open rel kind) rest) at are = absurd are
    by_plan (Do (Search scan) rest) at are = absurd are
    by_plan (Do (Read scan) rest) at are = absurd are
    by_plan (Do (Lock rel mode) rest) at are = absurd are
    by_plan (Done told) at are = absurd are
    by_plan (Fails error) at are = absurd are
    by_plan (Absent name) at are = absurd are

-- a fetch of 32 messages may count for a look of its own
counted-bound : (facts : Facts) (count : ℕ) (s : Session) (o : Option Command) (plan : Plan) → LooksBound (Some (events.Fetch count)) o plan s.tally → s.tally.full + 1 ≤ s.tally.fetches → LooksBound (Some (events.Fetch count)) o plan (counted facts (events.Fetch count) s).tally
counted-bound facts count s o plan fits low = by_test (counts_full count facts (work_of s))
  where
    by_test : (t : Bool) → LooksBound (Some (events.Fetch count)) o plan (elim t as (λ x. Tally) [ true ↦ record s.tally { full = s.tally.full + 1 } | false ↦ s.tally ])
    by_test true = record { bound = fits.bound; full = low }
    by_test false = fits

-- the event is one after which the command is out
abbrev OutAfter : Event → Bool → Type 0
OutAfter (events.Look some_wait) out = ⊤
OutAfter (events.LockOk rel mode) out = ⊤
OutAfter (events.Unlock rel mode) out = ⊤
OutAfter (events.Scan scan rows) out = ⊤
OutAfter (events.Fetch count) out = ⊤
OutAfter events.FetchReset out = ⊤
OutAfter event out = out ≡ true

-- a look is within the bound
abbrev LooksWithin : Event → Tally → Type 0
LooksWithin (events.Look some_wait) t = t.looks + 1 ≤ earned t + 3
LooksWithin event t = ⊤

-- an event keeps the bound
event-bound : (facts : Facts) (last : Option Event) (o : Option Command) (s : Session) (at c : ℕ) (event : Event) (plan : Plan) → LooksBound last o s.left s.tally → LooksWithin event s.tally → OutAfter event (is_out o plan) → LooksBound (Some event) o plan (counted facts event (placed_at at c event s)).tally
event-bound facts last o s at c (events.Look some_wait) plan fits looks out = record { bound = omega (arith, looks); full = fits.full }
event-bound facts last o s at c (events.LockOk rel mode) plan fits looks out = record { bound = omega (arith, at_most last (is_out o s.left) s.tally fits.bound); full = fits.full }
event-bound facts last o s at c (events.Unlock rel mode) plan fits looks out = record { bound = omega (arith, at_most last (is_out o s.left) s.tally fits.bound); full = fits.full }
event-bound facts last o s at c (events.Scan scan rows) plan fits looks out = record { bound = omega (arith, at_most last (is_out o s.left) s.tally fits.bound); full = fits.full }
event-bound facts last o s at c (events.Fetch count) plan fits looks out = counted-bound facts count (placed_at at c (events.Fetch count) s) o plan (record { bound = omega (arith, at_most last (is_out o s.left) s.tally fits.bound); full = omega (arith, fits.full) }) (omega (arith, fits.full))
event-bound facts last o s at c events.FetchReset plan fits looks out = record { bound = omega (arith, at_most last (is_out o s.left) s.tally fits.bound); full = omega (arith, fits.full) }
event-bound facts last o s at c event plan fits looks out = record { bound = inr (at_most last (is_out o s.left) s.tally fits.bound, out); full = fits.full }

-- what may come in a command
command_out : (history : List Entry) (b : ℕ) (s : Session) (command : Command) (event : Event) → FollowsPlan history b s command → MayPlay (next_oid history) (facts_of history b) command s event → LooksWithin event s.tally × OutAfter event (is_settled (outcome_of (noted event s).left))
command_out history b s command (events.Look some_wait) follows may = (look_room (facts_of history b) s may, tt)
command_out history b s command (events.Fetch count) follows may = (tt, tt)
command_out history b s command events.FetchReset follows may = (tt, tt)
command_out history b s command (events.Scan scan rows) follows may = (tt, tt)
command_out history b s command (events.LockOk rel mode) follows may = (tt, tt)
command_out history b s command (events.Unlock rel mode) follows may = (tt, tt)
command_out history b s command (events.LockHeld rel mode holder held) follows may = (tt, refl)
command_out history b s command (events.ClashRow name rel) follows may = (tt, refl)
command_out history b s command (events.ClashRunning name xid) follows may = (tt, refl)
command_out history b s command (events.Write xid items) follows may = (tt, out_written history b s command (next_oid history) items follows may.1)
command_out history b s command (events.Visible xid) follows may = (tt, ends_out (facts_of history b) command s (events.Visible xid) may.1)
command_out history b s command (events.Publish count) follows may = (tt, ends_out (facts_of history b) command s (events.Publish count) may.1)
command_out history b s command (events.Gone from) follows may = (tt, ends_out (facts_of history b) command s (events.Gone from) may.1)
command_out history b s command (events.Release from) follows may = (tt, ends_out (facts_of history b) command s (events.Release from) may.1)
command_out history b s command event follows may = absurd may

-- and after the last one
last_out : (facts : Facts) (s : Session) (event : Event) → MayPlayLast facts s event → LooksWithin event s.tally × OutAfter event true
last_out facts s (events.Look some_wait) may = (look_room facts s may.1, tt)
last_out facts s (events.Fetch count) may = (tt, tt)
last_out facts s events.FetchReset may = (tt, tt)
last_out facts s (events.Scan scan rows) may = (tt, tt)
last_out facts s (events.Gone from) may = (tt, refl)
last_out facts s (events.Release from) may = (tt, refl)
last_out facts s events.Stop may = (tt, refl)
last_out facts s event may = absurd may

-- of a backend that has started, by its last event
abbrev pub BoundIn : Option Event → List Command → Option Session → Type 0
BoundIn last all None = ⊤
BoundIn last all (Some s) = BoundOf last all s

-- an own entry keeps the bound
goes-bound : (scenario : Scenario) (history : List Entry) (b c : ℕ) (event : Event) (s : Session) → MayPlayIn (next_oid history) (facts_of history b) (slice_get (commands_of scenario b) (length s.finished)) s event → CourseOf scenario history b (Some s)
    → BoundOf (last_event_of history b) (commands_of scenario b) s → (later : Facts) → BoundOf (Some event) (commands_of scenario b) (settled later (commands_left scenario b s) (entered later (commands_left scenario b s) (length history + 1) c event s))
goes-bound scenario history b c event s may course fits later =
    settled-bound later (Some event) all left now (ap (λ n. drop n all) (sym counts)) (subst (λ o. LooksBound (Some event) o now.left now.tally) (sym (first_left all (length s.finished)))
    (event-bound later (last_event_of history b) o s (length history + 1) c event now.left fits comes.0 (subst (λ p. OutAfter event (is_out o p)) (sym noted_is.after.left) comes.1)))
  where
    all : List Command
    all = commands_of scenario b

    left : List Command
    left = commands_left scenario b s

    o : Option Command
    o = slice_get all (length s.finished)

    now : Session
    now = entered later left (length history + 1) c event s

    noted_is : IsNoted (noted event s) now
    noted_is = entered_noted later left (length history + 1) c event s

    counts : length now.finished ≡ length s.finished
    counts = ap length (noted_is.after.finished ∙ noted_finished event s)

    comes : LooksWithin event s.tally × OutAfter event (is_out o (noted event s).left)
    comes = by_command o refl may
      where
        by_command : (x : Option Command) → o ≡ x → MayPlayIn (next_oid history) (facts_of history b) x s event → LooksWithin event s.tally × OutAfter event (is_out x (noted event s).left)
        by_command None at plays = last_out (facts_of history b) s event plays
        by_command (Some command) at plays = command_out history b s command event (course.follows command at) plays

-- an own entry keeps the bound, by the facts after it
own-bound : (scenario : Scenario) (history : List Entry) (b c : ℕ) (event : Event) (o : Option Session) → MayPlayAt scenario history b o c event → CourseOf scenario history b o → BoundIn (last_event_of history b) (commands_of scenario b) o
    → (later : Facts) → BoundIn (Some event) (commands_of scenario b) (session_by scenario later b (length history + 1) c event o)
own-bound scenario history b c events.Start None may course fits later =
    settled-bound later (Some events.Start) (commands_of scenario b) (commands_of scenario b) first refl (record { bound = none_made (Some events.Start) (is_out (first_of (commands_of scenario b)) first.left) first.tally refl; full = omega arith })
  where
    first : Session
    first = at_command no_block none_open [] [] (length history + 1) (first_of (commands_of scenario b))
own-bound scenario history b c event None may course fits later = absurd may
own-bound scenario history b c events.Start (Some s) may course fits later = absurd (no_start (next_oid history) (facts_of history b) _ s may.1)
own-bound scenario history b c event (Some s) may course fits later = goes-bound scenario history b c event s may.1 course fits later

-- what is kept from entry to entry
record Bounded (scenario : Scenario) (history : List Entry) : Type 0 where
  played : IsPlayed scenario history
  courses : AllOnCourse scenario history
  looks : (b : ℕ) → BoundIn (last_event_of history b) (commands_of scenario b) (session_of scenario history b)

bounded_more : (scenario : Scenario) (history : List Entry) (e : Entry) → Bounded scenario history → MayFollow history e × IsNext scenario history e → Bounded scenario (history ++ e ∷ [])
bounded_more scenario history e was may = record { played = more.0; courses = more.1; looks = λ b. by_owner b (e.backend == b) refl }
  where
    more : IsPlayed scenario (history ++ e ∷ []) × AllOnCourse scenario (history ++ e ∷ [])
    more = played_more scenario history e was.played was.courses may.0 may.1

    by_owner : (b : ℕ) (t : Bool) → (e.backend == b) ≡ t → BoundIn (last_event_of (history ++ e ∷ []) b) (commands_of scenario b) (session_of scenario (history ++ e ∷ []) b)
    by_owner b false other = subst (λ last. BoundIn last (commands_of scenario b) (session_of scenario (history ++ e ∷ []) b)) (sym (last_event_of-other history e b other))
        (subst (BoundIn (last_event_of history b) (commands_of scenario b)) (sym (session_of-other scenario history e b other)) (was.looks b))
    by_owner b true own = subst (λ last. BoundIn last (commands_of scenario b) (session_of scenario (history ++ e ∷ []) b)) (sym (last_event_of-own history e b own))
        (subst (BoundIn (Some e.event) (commands_of scenario b)) (sym (session_of-own scenario history e b own))
        (own-bound scenario history b e.command e.event (session_of scenario history b) (subst (λ x. MayPlayAt scenario history x (session_of scenario history x) e.command e.event) same may.1.1) (was.courses b) (was.looks b) (facts_by history b e.command e.event (facts_of history b))))
      where
        same : e.backend ≡ b
        same = eqb-true e.backend b own

-- in a legal history in which backends do what their commands say the looks of each command that runs are within their bound
pub looks_bound : (scenario : Scenario) (history : List Entry) → AreSpelled scenario → IsLegal history → Plays scenario history → (b : ℕ) → BoundIn (last_event_of history b) (commands_of scenario b) (session_of scenario history b)
looks_bound scenario history spelled legal plays = (each-keeps (λ before e. MayFollow before e × IsNext scenario before e) (Bounded scenario)
    (let start = played_start scenario spelled in record { played = start.0; courses = start.1; looks = λ b. tt }) (bounded_more scenario) history
    (EachFrom-both MayFollow (IsNext scenario) [] history (legal_follows history legal) plays)).looks

-- a look may be made where there is room and no fetch is owed
pub look_may : (facts : Facts) (s : Session) → IsNoFetch (owed_after facts.due) → s.tally.looks + 1 ≤ earned s.tally + 3 → may_look_in facts (work_of s) ≡ true
look_may facts s free low = by_owed (owed_after facts.due) free
  where
    by_owed : (l : List Owes) → IsNoFetch l → elim l [ OwesFetch ∷ owed ↦ false | owed ↦ nat_le (s.tally.looks + 1) (s.tally.scans + s.tally.grants + s.tally.unlocks + 2 * s.tally.fetches + 3) ] ≡ true
    by_owed [] is = le-leb _ _ low
    by_owed (OwesFetch ∷ owed) is = absurd is
    by_owed (OwesLook ∷ owed) is = le-leb _ _ low
    by_owed (OwesScan scan ∷ owed) is = le-leb _ _ low

-- a look that is owed after a grant or a full fetch may be made
pub owed_look_may : (facts : Facts) (last : Option Event) (o : Option Command) (s : Session) → facts.due ≡ due_last last → LooksBound last o s.left s.tally → owed_after (due_last last) ≡ OwesLook ∷ [] → may_look_in facts (work_of s) ≡ true
owed_look_may facts last o s is fits owes = look_may facts s (subst IsNoFetch (sym (ap owed_after is ∙ owes)) tt) (by_last last fits.bound owes)
  where
    by_last : (last : Option Event) → BoundAfter last (is_out o s.left) s.tally → owed_after (due_last last) ≡ OwesLook ∷ [] → s.tally.looks + 1 ≤ earned s.tally + 3
    by_last (Some (events.LockOk rel mode)) bound is = omega (arith, bound)
    by_last (Some (events.Fetch count)) bound is = omega (arith, bound)
    by_last (Some (events.Look true)) bound is = absurd (cc is)
    by_last last bound is = absurd (cc is)

-- a transaction starts in a command once
started_most : (number : ℕ) (facts : Facts) → started_in number facts ≤ 1
started_most number facts = by_own facts.running
  where
    one : (t : Bool) → elim t as (λ x. ℕ) [ true ↦ 1 | false ↦ 0 ] ≤ 1
    one true = omega arith
    one false = omega arith

    by_own : (own : Option Running) → option_map_or (λ t. elim (t.first == number) as (λ x. ℕ) [ true ↦ 1 | false ↦ 0 ]) own 0 ≤ 1
    by_own None = omega arith
    by_own (Some t) = one (t.first == number)

-- where a scan or an answer wants one look more, that may be made
pub wanted_look_may : (facts : Facts) (last : Option Event) (o : Option Command) (s : Session) → LooksBound last o s.left s.tally → owed_after facts.due ≡ [] → has_looked_in facts (work_of s) ≡ false → may_look_in facts (work_of s) ≡ true
wanted_look_may facts last o s fits free wants = look_may facts s (subst IsNoFetch (sym free) tt)
    (omega (arith, ltb-false _ _ wants, fits.full, started_most (number_of s) facts))

-- a lookup that found no relation, and whose last entry is no look that said no, may look
pub unfound_look_may : (facts : Facts) (last : Option Event) (command : Command) (s : Session) → facts.due ≡ due_last last → LooksBound last (Some command) s.left s.tally → owed_after (due_last last) ≡ [] → is_settled (outcome_of s.left) ≡ false → is_quiet (due_last last) ≡ false → may_look_in facts (work_of s) ≡ true
unfound_look_may facts last command s is fits free going waits = look_may facts s (subst IsNoFetch (sym (ap owed_after is ∙ free)) tt) (by_last last fits.bound free waits)
  where
    by_other : (s.tally.looks ≡ 0) ⊎ ((s.tally.looks ≤ earned s.tally + 3) × (is_settled (outcome_of s.left) ≡ true)) → s.tally.looks + 1 ≤ earned s.tally + 3
    by_other (inl none) = omega (arith, none)
    by_other (inr out) = absurd (both_ways _ going out.1)

    by_last : (last : Option Event) → BoundAfter last (is_settled (outcome_of s.left)) s.tally → owed_after (due_last last) ≡ [] → is_quiet (due_last last) ≡ false → s.tally.looks + 1 ≤ earned s.tally + 3
    by_last (Some (events.Look true)) bound is quiet = absurd (cc is)
    by_last (Some (events.Look false)) bound is quiet = absurd (cc quiet)
    by_last (Some (events.LockOk rel mode)) bound is quiet = omega (arith, bound)
    by_last (Some (events.Unlock rel mode)) bound is quiet = omega (arith, bound)
    by_last (Some (events.Scan scan rows)) bound is quiet = omega (arith, bound)
    by_last (Some (events.Fetch count)) bound is quiet = omega (arith, bound)
    by_last (Some events.FetchReset) bound is quiet = omega (arith, bound)
    by_last last bound is quiet = by_other bound
