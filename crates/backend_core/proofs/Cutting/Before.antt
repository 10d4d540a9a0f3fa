-- The session of a backend is the same in each script that ends with a command which it hasn't finished.
use Rattle.std.proofs.Common.{◌≡◌, ◌<◌, ◌∙◌, ◌==◌, ◌+◌, ◌&&◌, ◌++◌, ℕ, Bool, true, false, Option, Some, None, List, [], ◌∷◌, refl, sym, ap, subst, length, take, drop, slice_get, arith}
use Rattle.std.proofs.lemmas.Bool.{eq-eqb, and_parts}
use Rattle.std.proofs.lemmas.List.{length_push}
use Rattle.base_types.specs.Scenario.{IsBackend}
use Rattle.event_kinds.specs.declared.entry.Event.TheVariants as events
use Rattle.ddl_effect.specs.Commands.{commands_of}
use Rattle.txn_blocks.specs.Blocks.{no_block}
use Rattle.history_model.specs.Drawn.{next_oid}
use Rattle.cacheless.specs.Facts.{Facts, facts_of}
use Rattle.cacheless.specs.Holds.{Holds, Rests, HasEntered, HasStarted, HasActed, HasPassed, entry_of, with_own}
use Rattle.cacheless.specs.Work.{work_of}
use Rattle.cacheless.specs.Plays.{MayPlayIn}
use Rattle.cacheless.specs.Session.{Session, first_of, none_open, at_command, outcome_of, is_settled}
use Rattle.cacheless.specs.Sessions.{placed_at, counted, accepted, entered, commands_left, session_by, session_of}
use Rattle.cacheless.specs.Settled.{act_done, acted, is_finished_in, finished_as, next_session, settled}
use Rattle.cacheless.specs.State.{Rest, session_at}
use Rattle.cacheless.proofs.FactsAfter.{facts_by}
use Rattle.cacheless.proofs.CommandEnds.{left_none}
use Rattle.cacheless.proofs.Reading.{facts_of-own, facts_of-other, session_of-own, session_of-other}
use Rattle.cacheless.proofs.Resting.{first_left, left_command, settled_at_rest}
use Rattle.cacheless.proofs.Settling.{settled-act, settled-finish, acted-out}
use Rattle.backend_core.specs.Types.{Command, Scenario, Entry, Event, Progress}
use Rattle.backend_core.specs.Cuts.{HoldsBefore}
use Rattle.backend_core.specs.Halts.{begins_at}
use Rattle.backend_core.proofs.Cutting.Parts.{acted-finished, settled_grows, not_start}
use Rattle.backend_core.proofs.Cutting.Scripts.{slice_get_cut, slice_get_end}

-- a command that waits for an entry waits for it whatever commands come after it
waits_on : (facts : Facts) (command : Command) (rest more : List Command) (s : Session) → settled facts (command ∷ rest) s ≡ s → settled facts (command ∷ more) s ≡ s
waits_on facts command rest more s same = by_end (is_finished_in facts command (work_of now)) same
  where
    now : Session
    now = acted facts command s

    counts : length now.finished ≡ length s.finished
    counts = ap length (acted-finished facts s _)

    by_end : (t : Bool) → elim t as (λ x. Session) [ true ↦ settled facts rest (next_session command (first_of rest) now) | false ↦ now ] ≡ s
        → elim t as (λ x. Session) [ true ↦ settled facts more (next_session command (first_of more) now) | false ↦ now ] ≡ s
    by_end true is = absurd (omega (arith, counts, length_push now.finished (finished_as now), settled_grows facts rest (next_session command (first_of rest) now), ap (λ x. length x.finished) is))
    by_end false is = is

-- where nothing is done without an entry, nothing is by the commands up to a later one
rests_before : (scenario : Scenario) (seen : List Entry) (s : Progress) (rests : Rests scenario seen s) (m : ℕ) → s.finished < m → settled (facts_of seen s.id) (drop s.finished (take m s.commands)) (session_at s rests.holds.rest) ≡ session_at s rests.holds.rest
rests_before scenario seen s rests m less = by_command (slice_get s.commands s.finished) refl
  where
    facts : Facts
    facts = facts_of seen s.id

    session : Session
    session = session_at s rests.holds.rest

    by_command : (o : Option Command) → slice_get s.commands s.finished ≡ o → settled facts (drop s.finished (take m s.commands)) session ≡ session
    by_command None at = ap (λ l. settled facts l session) (left_none (take m s.commands) s.finished (slice_get_cut m s.finished s.commands less ∙ at))
    by_command (Some command) at = ap (λ l. settled facts l session) (left_command (record s { commands = take m s.commands }) command (slice_get_cut m s.finished s.commands less ∙ at))
        ∙ waits_on facts command (drop (s.finished + 1) s.commands) (drop (s.finished + 1) (take m s.commands)) session (ap (λ l. settled facts l session) (sym (left_command s command at)) ∙ settled_at_rest scenario seen s rests)

-- any event but a start
goes_by : (part : Scenario) (facts : Facts) (b at c : ℕ) (event : Event) (s : Session) → (event ≡ events.Start → ⊥) → session_by part facts b at c event (Some s) ≡ Some (settled facts (commands_left part b s) (entered facts (commands_left part b s) at c event s))
goes_by part facts b at c events.Start s other = absurd (other refl)
goes_by part facts b at c event s other = refl

-- after its own entry
pub before_own : (scenario : Scenario) (old : List Entry) (was now : Progress) (event : Event) (rests : Rests scenario old was) → HoldsBefore old was rests.holds.rest
    → MayPlayIn (next_oid old) (facts_of old was.id) (slice_get was.commands was.finished) (session_at was rests.holds.rest) event → (goes : HasEntered scenario old was event rests now) → HoldsBefore (with_own old was event) now goes.holds.rest
before_own scenario old was now event rests before plays goes part m number less is =
    ap (session_of part new) goes.moves.id
    ∙ session_of-own part old e was.id own
    ∙ ap (session_by part after was.id (length old + 1) (was.finished + 1) event) (before part m (subst (IsBackend part.backends) goes.moves.id number) small same ∙ ap Some (rests_before scenario old was rests m small))
    ∙ goes_by part after was.id (length old + 1) (was.finished + 1) event session (λ start. not_start (next_oid old) (facts_of old was.id) (slice_get was.commands was.finished) session (subst (MayPlayIn (next_oid old) (facts_of old was.id) (slice_get was.commands was.finished) session) start plays))
    ∙ ap (λ l. Some (settled after l (entered after l (length old + 1) (was.finished + 1) event session))) lists
    ∙ ap (λ o. Some (settled after left (accepted after o (counted after event (placed_at (length old + 1) (was.finished + 1) event session))))) firsts
    ∙ ap (λ f. Some (settled f left (entered f (drop was.finished was.commands) (length old + 1) (was.finished + 1) event session))) (sym (facts_of-own old e was.id own))
    ∙ ap (λ s. Some (settled (facts_of new was.id) left s)) (sym goes.session)
    ∙ (λ i. Some (settled (facts_of new (sym goes.moves.id i)) (drop (sym goes.moves.finished i) (take m (sym goes.moves.commands i))) (session_at now goes.holds.rest)))
  where
    e : Entry
    e = entry_of was.id (was.finished + 1) event

    new : List Entry
    new = with_own old was event

    own : (e.backend == was.id) ≡ true
    own = eq-eqb was.id was.id refl

    after : Facts
    after = facts_by old was.id (was.finished + 1) event (facts_of old was.id)

    session : Session
    session = session_at was rests.holds.rest

    left : List Command
    left = drop was.finished (take m was.commands)

    small : was.finished < m
    small = omega (arith, less, goes.moves.finished)

    same : commands_of part was.id ≡ take m was.commands
    same = ap (commands_of part) (sym goes.moves.id) ∙ is ∙ ap (take m) goes.moves.commands

    lists : commands_left part was.id session ≡ left
    lists = ap (λ n. drop n (commands_of part was.id)) rests.holds.count ∙ ap (drop was.finished) same

    firsts : first_of left ≡ first_of (drop was.finished was.commands)
    firsts = first_left (take m was.commands) was.finished ∙ slice_get_cut m was.finished was.commands small ∙ sym (first_left was.commands was.finished)

-- from its start on, in each script
starts_so : (scenario : Scenario) (old : List Entry) (was now : Progress) (started : HasStarted scenario old was now) (part : Scenario) (commands : List Command) → commands_of part now.id ≡ commands
    → session_of part (old ++ entry_of was.id 0 events.Start ∷ []) now.id ≡ Some (settled (facts_of (old ++ entry_of was.id 0 events.Start ∷ []) now.id) commands (at_command no_block none_open [] [] (length old + 1) (first_of commands)))
starts_so scenario old was now started part commands is =
    ap (session_of part new) started.moves.id
    ∙ session_of-own part old e was.id own
    ∙ ap (λ l. Some (settled (facts_by old was.id 0 events.Start (facts_of old was.id)) l (at_command no_block none_open [] [] (length old + 1) (first_of l)))) (ap (commands_of part) (sym started.moves.id) ∙ is)
    ∙ ap (λ f. Some (settled f commands (at_command no_block none_open [] [] (length old + 1) (first_of commands)))) (sym (facts_of-own old e was.id own) ∙ ap (facts_of new) (sym started.moves.id))
  where
    e : Entry
    e = entry_of was.id 0 events.Start

    new : List Entry
    new = old ++ e ∷ []

    own : (e.backend == was.id) ≡ true
    own = eq-eqb was.id was.id refl

pub before_start : (scenario : Scenario) (old : List Entry) (was now : Progress) (started : HasStarted scenario old was now) → was.finished ≡ 0 → HoldsBefore (old ++ entry_of was.id 0 events.Start ∷ []) now started.holds.rest
before_start scenario old was now started none part m number less is =
    starts_so scenario old was now started part (take m now.commands) is
    ∙ ap (λ o. Some (settled facts (take m now.commands) (at_command no_block none_open [] [] (length old + 1) o)))
    (first_left (take m now.commands) 0 ∙ slice_get_cut m 0 now.commands (omega (arith, less)) ∙ ap (λ l. slice_get l 0) started.moves.commands)
    ∙ ap (λ s. Some (settled facts (take m now.commands) s)) (sym started.session)
    ∙ ap (λ n. Some (settled facts (drop n (take m now.commands)) (session_at now started.holds.rest))) (sym (started.moves.finished ∙ none))
  where
    facts : Facts
    facts = facts_of (old ++ entry_of was.id 0 events.Start ∷ []) now.id

-- and where a script ends right there
pub ends_start : (scenario : Scenario) (old : List Entry) (was now : Progress) (started : HasStarted scenario old was now) → was.finished ≡ 0 → (part : Scenario) → commands_of part now.id ≡ take now.finished now.commands
    → session_of part (old ++ entry_of was.id 0 events.Start ∷ []) now.id ≡ Some (begins_at now started.holds.rest None)
ends_start scenario old was now started none part is =
    starts_so scenario old was now started part [] (is ∙ ap (λ n. take n now.commands) (started.moves.finished ∙ none))
    ∙ ap (λ s. Some (at_command s.blocks s.opens s.finished s.locks s.last None)) (sym started.session)

-- with another's entry
pub before-other : (seen : List Entry) (e : Entry) (s : Progress) (rest : Rest) → (e.backend == s.id) ≡ false → HoldsBefore seen s rest → HoldsBefore (seen ++ e ∷ []) s rest
before-other seen e s rest other before part m number less is =
    session_of-other part seen e s.id other ∙ before part m number less is ∙ ap (λ f. Some (settled f (drop s.finished (take m s.commands)) (session_at s rest))) (sym (facts_of-other seen e s.id other))

-- with an act that is done without an entry
pub before_act : (scenario : Scenario) (seen : List Entry) (was now : Progress) (held : Holds scenario seen was) (acted : HasActed scenario seen was held now) → HoldsBefore seen was held.rest → HoldsBefore seen now acted.holds.rest
before_act scenario seen was now held acted before part m number less is =
    ap (session_of part seen) acted.moves.id
    ∙ before part m (subst (IsBackend part.backends) acted.moves.id number) small (ap (commands_of part) (sym acted.moves.id) ∙ is ∙ ap (take m) acted.moves.commands)
    ∙ ap (λ l. Some (settled facts l session)) left
    ∙ ap Some (settled-act facts acted.command (drop (was.finished + 1) (take m was.commands)) session acted.act acted.further acted.given acted.left acted.free acted.gives)
    ∙ ap (λ l. Some (settled facts l (act_done acted.act acted.given (acted.further acted.given) session))) (sym left)
    ∙ ap (λ s. Some (settled facts (drop was.finished (take m was.commands)) s)) (sym acted.session)
    ∙ (λ i. Some (settled (facts_of seen (sym acted.moves.id i)) (drop (sym acted.moves.finished i) (take m (sym acted.moves.commands i))) (session_at now acted.holds.rest)))
  where
    facts : Facts
    facts = facts_of seen was.id

    session : Session
    session = session_at was held.rest

    small : was.finished < m
    small = omega (arith, less, acted.moves.finished)

    left : drop was.finished (take m was.commands) ≡ acted.command ∷ drop (was.finished + 1) (take m was.commands)
    left = left_command (record was { commands = take m was.commands }) acted.command (slice_get_cut m was.finished was.commands small ∙ acted.at)

-- where a command is passed over, in each script that has it
passes_so : (scenario : Scenario) (seen : List Entry) (was now : Progress) (held : Holds scenario seen was) (passed : HasPassed scenario seen was held now) → HoldsBefore seen was held.rest → (part : Scenario) (m : ℕ) → IsBackend part.backends now.id → was.finished < m → commands_of part now.id ≡ take m was.commands
    → session_of part seen now.id ≡ Some (settled (facts_of seen was.id) (drop (was.finished + 1) (take m was.commands)) (next_session passed.command (slice_get (take m was.commands) (was.finished + 1)) (session_at was held.rest)))
passes_so scenario seen was now held passed before part m number less is =
    ap (session_of part seen) passed.id
    ∙ before part m (subst (IsBackend part.backends) passed.id number) less (ap (commands_of part) (sym passed.id) ∙ is)
    ∙ ap (λ l. Some (settled facts l session)) (left_command (record was { commands = take m was.commands }) passed.command (slice_get_cut m was.finished was.commands less ∙ passed.at))
    ∙ ap Some (settled-finish facts passed.command rest session (acted-out facts passed.command session out) passed.over)
    ∙ ap (λ o. Some (settled facts rest (next_session passed.command o session))) (first_left (take m was.commands) (was.finished + 1))
  where
    facts : Facts
    facts = facts_of seen was.id

    session : Session
    session = session_at was held.rest

    rest : List Command
    rest = drop (was.finished + 1) (take m was.commands)

    out : is_settled (outcome_of session.left) ≡ true
    out = (and_parts (is_settled (outcome_of session.left)) _ (and_parts (is_settled (outcome_of session.left) && _) _ passed.over).0).0

pub before_pass : (scenario : Scenario) (seen : List Entry) (was now : Progress) (held : Holds scenario seen was) (passed : HasPassed scenario seen was held now) → HoldsBefore seen was held.rest → HoldsBefore seen now passed.holds.rest
before_pass scenario seen was now held passed before part m number less is =
    passes_so scenario seen was now held passed before part m number (omega (arith, less, passed.finished)) (is ∙ ap (take m) passed.commands)
    ∙ ap (λ o. Some (settled facts rest (next_session passed.command o session))) (slice_get_cut m (was.finished + 1) was.commands (omega (arith, less, passed.finished)))
    ∙ ap (λ s. Some (settled facts rest s)) (sym passed.session)
    ∙ (λ i. Some (settled (facts_of seen (sym passed.id i)) (drop (sym passed.finished i) (take m (sym passed.commands i))) (session_at now passed.holds.rest)))
  where
    facts : Facts
    facts = facts_of seen was.id

    session : Session
    session = session_at was held.rest

    rest : List Command
    rest = drop (was.finished + 1) (take m was.commands)

-- and where a script ends with it
pub ends_pass : (scenario : Scenario) (seen : List Entry) (was now : Progress) (held : Holds scenario seen was) (passed : HasPassed scenario seen was held now) → HoldsBefore seen was held.rest → (part : Scenario) → IsBackend part.backends now.id → commands_of part now.id ≡ take now.finished now.commands
    → session_of part seen now.id ≡ Some (begins_at now passed.holds.rest None)
ends_pass scenario seen was now held passed before part number is =
    passes_so scenario seen was now held passed before part (was.finished + 1) number (omega arith) (is ∙ (λ i. take (passed.finished i) (passed.commands i)))
    ∙ ap (λ l. Some (settled facts l (next_session passed.command (slice_get cut_short (was.finished + 1)) session))) none_left
    ∙ ap (λ o. Some (next_session passed.command o session)) (slice_get_end (was.finished + 1) was.commands)
    ∙ ap (λ s. Some (at_command s.blocks s.opens s.finished s.locks s.last None)) (sym passed.session)
  where
    facts : Facts
    facts = facts_of seen was.id

    session : Session
    session = session_at was held.rest

    cut_short : List Command
    cut_short = take (was.finished + 1) was.commands

    none_left : drop (was.finished + 1) cut_short ≡ []
    none_left = left_none cut_short (was.finished + 1) (slice_get_end (was.finished + 1) was.commands)
