-- After an allowed history a command that runs isn't finished, and its next act isn't done without an entry.
use Rattle.std.proofs.Common.{◌≡◌, ◌+◌, ◌∙◌, ℕ, Bool, true, false, Option, Some, None, List, [], ◌∷◌, ◌++◌, refl, sym, ap, subst, length, drop, slice_get}
use Rattle.std.specs.Prelude.{⊤}
use Rattle.std.proofs.lemmas.Bool.{both_ways}
use Rattle.std.proofs.lemmas.List.{length_push}
use Rattle.event_kinds.specs.declared.entry.Event.TheVariants as events
use Rattle.ddl_effect.specs.Plans.{Plan, Done, Fails, Absent, Do}
use Rattle.ddl_effect.specs.Commands.{commands_of}
use Rattle.txn_blocks.specs.Blocks.{no_block}
use Rattle.history_model.specs.Changing.{is_empty}
use Rattle.history_model.specs.Drawn.{next_oid}
use Rattle.cacheless.specs.Types.{Row, Scenario, Command, Entry, Event}
use Rattle.cacheless.specs.Facts.{Facts, facts_of}
use Rattle.cacheless.specs.Output.{IsAllowed}
use Rattle.cacheless.specs.Work.{work_of}
use Rattle.cacheless.specs.Owed.{owed_first_in, owed_after}
use Rattle.cacheless.specs.Played.{AreSpelled}
use Rattle.cacheless.specs.Plays.{MayPlayAt}
use Rattle.cacheless.specs.Session.{Session, first_of, none_open, at_command}
use Rattle.cacheless.specs.Sessions.{commands_left, entered, session_by, session_of}
use Rattle.cacheless.specs.Settled.{act_done, done_here, acted_on, acted, is_finished_in, finished_as, next_session, settled}
use Rattle.cacheless.proofs.Allowed.AlongAllowed.{Fact, holds_along}
use Rattle.cacheless.proofs.Allowed.LooksBound.{acted-same}
use Rattle.cacheless.proofs.Allowed.NextOnCourse.{entered_noted, noted_finished, no_start}
use Rattle.cacheless.proofs.Allowed.SettledCourse.{first_left, rest_left}

-- no act of the plan that is left is done without an entry
abbrev pub IsStuck : Facts → Session → Plan → Type 0
IsStuck facts s (Do act rest) = done_here facts s act (Do act rest) ≡ None
IsStuck facts s plan = ⊤

-- a command waits for an entry: it isn't finished, and where no look and no fetch is owed its next act isn't done without one
pub record WaitsForEntry (facts : Facts) (command : Command) (s : Session) : Type 0 where
  pub unfinished : is_finished_in facts command (work_of s) ≡ false
  pub stuck : owed_first_in facts command (work_of s) ++ owed_after facts.due ≡ [] → IsStuck facts s s.left

acted_on-stuck : (facts : Facts) (p : Plan) (s : Session) → s.left ≡ p → IsStuck facts (acted_on facts p s) (acted_on facts p s).left
acted_on-stuck facts (Done told) s at = subst (IsStuck facts s) (sym at) tt
acted_on-stuck facts (Fails error) s at = subst (IsStuck facts s) (sym at) tt
acted_on-stuck facts (Absent name) s at = subst (IsStuck facts s) (sym at) tt
acted_on-stuck facts (Do act rest) s at = by_done (done_here facts s act (Do act rest)) refl (λ given. acted_on-stuck facts (rest given) (act_done act given (rest given) s) refl)
  where
    by_done : (o : Option (List Row)) → done_here facts s act (Do act rest) ≡ o → ((given : List Row) → IsStuck facts (acted_on facts (rest given) (act_done act given (rest given) s)) (acted_on facts (rest given) (act_done act given (rest given) s)).left)
        → let now = elim o as (λ x. Session) [ None ↦ s | Some given ↦ acted_on facts (rest given) (act_done act given (rest given) s) ] in IsStuck facts now now.left
    by_done None none more = subst (IsStuck facts s) (sym at) none
    by_done (Some given) is more = more given

acted-stuck : (facts : Facts) (command : Command) (s : Session) → owed_first_in facts command (work_of (acted facts command s)) ++ owed_after facts.due ≡ [] → IsStuck facts (acted facts command s) (acted facts command s).left
acted-stuck facts command s free = by_free (is_empty (owed_first_in facts command (work_of s) ++ owed_after facts.due)) refl
  where
    same : owed_first_in facts command (work_of (acted facts command s)) ≡ owed_first_in facts command (work_of s)
    same = acted-same (λ x. owed_first_in facts command (work_of x)) (λ act given rest x. refl) facts command s

    by_free : (t : Bool) → is_empty (owed_first_in facts command (work_of s) ++ owed_after facts.due) ≡ t → let now = elim t as (λ x. Session) [ true ↦ acted_on facts s.left s | false ↦ s ] in IsStuck facts now now.left
    by_free true is = acted_on-stuck facts s.left s refl
    by_free false owes = absurd (both_ways _ owes (ap is_empty (sym (ap (λ l. l ++ owed_after facts.due) same) ∙ free)))

-- so it is of the running command among these
abbrev pub WaitsAmong : Facts → List Command → Session → Type 0
WaitsAmong facts all s = (command : Command) → slice_get all (length s.finished) ≡ Some command → WaitsForEntry facts command s

settled-waits : (facts : Facts) (all commands : List Command) (s : Session) → commands ≡ drop (length s.finished) all → WaitsAmong facts all (settled facts commands s)
settled-waits facts all [] s are = λ command at. absurd (let none : None ≡ Some command = ap first_of are ∙ first_left all (length s.finished) ∙ at in cc none)
settled-waits facts all (command ∷ rest) s are = by_end (is_finished_in facts command (work_of now)) refl (settled-waits facts all rest next rest_is)
  where
    now : Session
    now = acted facts command s

    next : Session
    next = next_session command (first_of rest) now

    counts : length now.finished ≡ length s.finished
    counts = ap length (acted-same (λ x. x.finished) (λ act given more x. refl) facts command s)

    rest_is : rest ≡ drop (length next.finished) all
    rest_is = rest_left all (length s.finished) command rest are ∙ ap (λ n. drop n all) (sym (length_push now.finished (finished_as now) ∙ ap (λ n. n + 1) counts))

    at_now : Some command ≡ slice_get all (length now.finished)
    at_now = ap first_of are ∙ first_left all (length s.finished) ∙ ap (slice_get all) (sym counts)

    here : is_finished_in facts command (work_of now) ≡ false → WaitsAmong facts all now
    here going c at = subst (λ x. WaitsForEntry facts x now) (let both : Some command ≡ Some c = at_now ∙ at in cc both) (record { unfinished = going; stuck = acted-stuck facts command s })

    by_end : (t : Bool) → is_finished_in facts command (work_of now) ≡ t → WaitsAmong facts all (settled facts rest next) → WaitsAmong facts all (elim t as (λ x. Session) [ true ↦ settled facts rest next | false ↦ now ])
    by_end true over more = more
    by_end false going more = here going

-- of a backend that has started
abbrev pub WaitsIn : Scenario → Fact
WaitsIn scenario b facts None = ⊤
WaitsIn scenario b facts (Some s) = WaitsAmong facts (commands_of scenario b) s

goes-waits : (scenario : Scenario) (b at c : ℕ) (event : Event) (s : Session) (later : Facts) → WaitsAmong later (commands_of scenario b) (settled later (commands_left scenario b s) (entered later (commands_left scenario b s) at c event s))
goes-waits scenario b at c event s later = settled-waits later (commands_of scenario b) (commands_left scenario b s) (entered later (commands_left scenario b s) at c event s)
    (ap (λ l. drop (length l) (commands_of scenario b)) (sym ((entered_noted later (commands_left scenario b s) at c event s).after.finished ∙ noted_finished event s)))

pub own-waits : (scenario : Scenario) (history : List Entry) (b at c : ℕ) (event : Event) (o : Option Session) (later : Facts) → MayPlayAt scenario history b o c event → WaitsIn scenario b later (session_by scenario later b at c event o)
own-waits scenario history b at c events.Start None later may = settled-waits later (commands_of scenario b) (commands_of scenario b) (at_command no_block none_open [] [] at (first_of (commands_of scenario b))) refl
own-waits scenario history b at c event None later may = absurd may
own-waits scenario history b at c events.Start (Some s) later may = absurd (no_start (next_oid history) (facts_of history b) _ s may.1)
own-waits scenario history b at c event (Some s) later may = goes-waits scenario b at c event s later

-- after an allowed history the running command waits for an entry
pub allowed_waits : (scenario : Scenario) (history : List Entry) (b : ℕ) → AreSpelled scenario → IsAllowed scenario history → WaitsIn scenario b (facts_of history b) (session_of scenario history b)
allowed_waits scenario history b spelled allowed = holds_along scenario (WaitsIn scenario) (λ b. tt)
    (λ h b c event played course follows may was. own-waits scenario h b (length h + 1) c event (session_of scenario h b) _ may) history spelled allowed b
