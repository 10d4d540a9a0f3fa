-- What a session has to tell, after an entry of its own.
use Rattle.std.proofs.Common.{◌≡◌, ◌≢◌, ◌+◌, ◌∙◌, ◌==◌, inl, inr, ◌∷◌, ◌++◌, [], ℕ, Bool, true, false, Option, Some, None, List, refl, sym, ap, subst, length, drop, slice_get, is_some, arith}
use Rattle.std.proofs.lemmas.Bool.{eq-eqb, both_ways}
use Rattle.std.proofs.lemmas.List.{length_push}
use Rattle.std.specs.Option.{option_map_or}
use Rattle.event_kinds.specs.declared.entry.Event.TheVariants as events
use Rattle.txn_blocks.specs.Blocks.{no_block}
use Rattle.ddl_effect.specs.Commands.{commands_of}
use Rattle.history_model.specs.Drawn.{next_oid}
use Rattle.history_model.specs.Legal.{IsLegal}
use Rattle.history_model.specs.MayFollow.{MayFollow}
use Rattle.history_model.specs.Lives.{last_event_of}
use Rattle.history_model.proofs.Reading.{last_event_of-own}
use Rattle.cacheless.specs.Answering.{KeepsAbsent}
use Rattle.cacheless.specs.Facts.{Facts, facts_of}
use Rattle.cacheless.specs.Holds.{HasEntered, HasStarted, entry_of, with_own}
use Rattle.cacheless.specs.Judged.{ArePlaced}
use Rattle.cacheless.specs.Lines.{line_of, lines_from, lines_of_backend}
use Rattle.cacheless.specs.OnCourse.{is_absent, is_over, IsOnCourse, CourseOf, AllOnCourse, EntersCourse, TellsAlone, TellsStill}
use Rattle.cacheless.specs.Played.{AreSpelled, IsPlayed}
use Rattle.cacheless.specs.Plays.{Plays, MayPlayIn, MayPlayAt, IsNext, IsEnd}
use Rattle.cacheless.specs.Session.{Session, number_of, outcome_of, is_settled, first_of, none_open, at_command}
use Rattle.cacheless.specs.Sessions.{noted, ends_command, placed_at, commands_left, entered, session_of}
use Rattle.cacheless.specs.Settled.{finished_as, settled}
use Rattle.cacheless.specs.Silently.{is_to_answer}
use Rattle.cacheless.specs.State.{session_at}
use Rattle.cacheless.specs.Telling.{AreLines, TellsNow, AnswerFits, IsJudgedHere, IsOnItsEnd}
use Rattle.cacheless.proofs.Allowed.AllowedHistories.{played_more, plays_on_course}
use Rattle.cacheless.proofs.Allowed.NextKeeps.{KeepsAllBy, next_keeps}
use Rattle.cacheless.proofs.Allowed.NextOnCourse.{counted_tally, entered_noted, noted_finished, enters_on_course, alone_on_course, with_entry}
use Rattle.cacheless.proofs.Allowed.OwnEntries.{IsNoted}
use Rattle.cacheless.proofs.Allowed.SettledCourse.{begins_on_course}
use Rattle.cacheless.proofs.Allowed.StaysOnCourse.{MayCome, has_written-quiet}
use Rattle.cacheless.proofs.Answers.JudgedLines.{session_placed, finished_lines-more, judged_here, judged_still, line_stays}
use Rattle.cacheless.proofs.CommandEnds.{left_none}
use Rattle.cacheless.proofs.Entries.EnteredLooks.{not_absent}
use Rattle.cacheless.proofs.Reading.{facts_of-own}
use Rattle.cacheless.proofs.Resting.{first_left, settled_at_rest}
use Rattle.cacheless.specs.Awaiting.{HasNoEntry, AwaitsEntry, AnswersNow, answer_after}
use Rattle.cacheless.specs.Types.{Command, Scenario, Entry, Event, Line}
use Rattle.cacheless.specs.declared.progress.Progress.{Progress}
use Rattle.cacheless.proofs.EndEntries.{end_answers, gone_on, plan_left, release_left}
use Rattle.cacheless.proofs.OwnPlaces.{keeps_none}

-- the session of a backend that waits
abbrev pub waiting : {scenario : Scenario} {seen : List Entry} {s : Progress} {lines : List Line} → AwaitsEntry scenario seen s lines → Session
waiting {s = s} waits = session_at s waits.rests.holds.rest

-- it is that of the history
pub waiting_is : (scenario : Scenario) (seen : List Entry) (s : Progress) (lines : List Line) (waits : AwaitsEntry scenario seen s lines) → session_of scenario seen s.id ≡ Some (waiting waits)
waiting_is scenario seen s lines waits = waits.rests.holds.is ∙ ap Some (settled_at_rest scenario seen s waits.rests)

-- the running command is that of the session
pub at_session : (scenario : Scenario) (seen : List Entry) (s : Progress) (lines : List Line) (waits : AwaitsEntry scenario seen s lines) → slice_get (commands_of scenario s.id) (length (waiting waits).finished) ≡ slice_get s.commands s.finished
at_session scenario seen s lines waits = ap (slice_get (commands_of scenario s.id)) waits.rests.holds.count ∙ ap (λ l. slice_get l s.finished) (sym waits.rests.holds.commands)

-- an entry that may come next in the session is next in the history
pub own_next : (scenario : Scenario) (seen : List Entry) (s : Progress) (event : Event) (lines : List Line) (waits : AwaitsEntry scenario seen s lines) → MayPlayIn (next_oid seen) (facts_of seen s.id) (slice_get s.commands s.finished) (waiting waits) event
    → IsNext scenario seen (entry_of s.id (s.finished + 1) event)
own_next scenario seen s event lines waits may = (
  waits.rests.holds.number,
  subst (λ o. MayPlayAt scenario seen s.id o (s.finished + 1) event) (sym (waiting_is scenario seen s lines waits)) (
    ap (λ n. n + 1) (sym waits.rests.holds.count),
    subst (λ o. MayPlayIn (next_oid seen) (facts_of seen s.id) o (waiting waits) event) (sym (at_session scenario seen s lines waits)) may,
  ),
)

-- what becomes of the answer: an entry of an end keeps that of the command, if one runs, and after any other there is none
data KeepsAnswer (was now : Progress) (event : Event) : Type 0 where
  AtEnd : ends_command event ≡ true → ((command : Command) → slice_get was.commands was.finished ≡ Some command → is_some was.answer ≡ true) → now.answer ≡ was.answer → KeepsAnswer was now event
  Inside : ends_command event ≡ false → now.answer ≡ None → KeepsAnswer was now event

-- an entry inside a command leaves whether its release is made, and takes nothing back
pub inside_stands : (event : Event) (s later : Session) → ends_command event ≡ false → later.ended ≡ (noted event s).ended → s.ended ≡ false → is_over (Some event) later ≡ false
inside_stands (events.Visible xid) s later is same going = absurd (cc)
inside_stands (events.Publish count) s later is same going = absurd (cc)
inside_stands (events.Release from) s later is same going = absurd (cc)
inside_stands (events.Gone from) s later is same going = absurd (cc)
inside_stands event s later is same going = same ∙ release_left event s is ∙ going

-- the last entry of a session is its own
pub entered_last : (facts : Facts) (left : List Command) (at c : ℕ) (event : Event) (s : Session) → (entered facts left at c event s).last ≡ at
entered_last facts left at c event s = ap (λ x. x.last) (counted_tally facts event (placed_at at c event s))

-- an entry of an end comes once its command is answered
keeps_answer : (scenario : Scenario) (seen : List Entry) (was now : Progress) (event : Event) (lines : List Line) (waits : AwaitsEntry scenario seen was lines) → AllOnCourse scenario seen
    → MayPlayIn (next_oid seen) (facts_of seen was.id) (slice_get was.commands was.finished) (waiting waits) event → event ≢ events.Stop → now.answer ≡ answer_after event was.answer → KeepsAnswer was now event
keeps_answer scenario seen was now event lines waits courses may stays answer = by_event event may stays answer
  where
    s : Session
    s = waiting waits

    on : IsOnCourse scenario seen was.id s
    on = subst (CourseOf scenario seen was.id) (waiting_is scenario seen was lines waits) (courses was.id)

    answered : (x : Event) → ((command : Command) → slice_get was.commands was.finished ≡ Some command → IsEnd (facts_of seen was.id) command s x) → (command : Command) → slice_get was.commands was.finished ≡ Some command → is_some was.answer ≡ true
    answered x ends command at = waits.answered (
        ap (λ o. elim o as (λ y. Bool) [ Some c ↦ is_to_answer c was | None ↦ false ]) at
        ∙ end_answers (facts_of seen was.id) command was waits.rests.holds.rest x waits.rests.holds.facts (on.follows command (at_session scenario seen was lines waits ∙ at)).plain (ends command at))

    in_command : (x : Event) → MayPlayIn (next_oid seen) (facts_of seen was.id) (slice_get was.commands was.finished) s x → (command : Command) → slice_get was.commands was.finished ≡ Some command → MayPlayIn (next_oid seen) (facts_of seen was.id) (Some command) s x
    in_command x plays command at = subst (λ o. MayPlayIn (next_oid seen) (facts_of seen was.id) o s x) at plays

    by_event : (x : Event) → MayPlayIn (next_oid seen) (facts_of seen was.id) (slice_get was.commands was.finished) s x → x ≢ events.Stop → now.answer ≡ answer_after x was.answer → KeepsAnswer was now x
    by_event (events.Visible xid) plays on same = AtEnd refl (answered (events.Visible xid) (in_command (events.Visible xid) plays)) same
    by_event (events.Publish count) plays on same = AtEnd refl (answered (events.Publish count) (in_command (events.Publish count) plays)) same
    by_event (events.Gone from) plays on same = AtEnd refl (answered (events.Gone from) (in_command (events.Gone from) plays)) same
    by_event (events.Release from) plays on same = AtEnd refl (answered (events.Release from) (in_command (events.Release from) plays)) same
    by_event events.Stop plays on same = absurd (on refl)
    by_event x plays on same = Inside refl same

-- after an entry that may come next, but for its stop, it tells what it has to, and its lines stay
pub own_tells : (scenario : Scenario) (seen : List Entry) (was now : Progress) (event : Event) (lines : List Line) (waits : AwaitsEntry scenario seen was lines) → AreSpelled scenario → IsLegal seen → Plays scenario seen
    → MayFollow seen (entry_of was.id (was.finished + 1) event) → MayPlayIn (next_oid seen) (facts_of seen was.id) (slice_get was.commands was.finished) (session_at was waits.rests.holds.rest) event → event ≢ events.Stop
    → (goes : HasEntered scenario seen was event waits.rests now) → now.answer ≡ answer_after event was.answer
    → TellsNow scenario (with_own seen was event) now goes.holds × AreLines scenario (with_own seen was event) now (session_at now goes.holds.rest) lines
own_tells scenario seen was now event lines waits spelled legal plays follows may stays goes answer = (
  record {
    played = longer.0;
    course = subst (λ k. EntersCourse scenario (seen ++ e ∷ []) k later) (sym goes.moves.id) course;
    tells = record { answer = answers keeps; out = comes_out keeps };
    here = λ command at none. judged keeps command at none;
    last = omega (arith, length_push seen e, ap (λ (x : Session). x.last) goes.session, entered_last facts left (length seen + 1) (was.finished + 1) event s);
    back = λ from command gone at. subst (λ k. IsOnItsEnd (facts_of (seen ++ e ∷ []) k) command later) (sym goes.moves.id) (subst (IsOnItsEnd facts command) (sym goes.session)
        (gone_on (next_oid seen) (facts_of seen b) facts command s left (length seen + 1) (was.finished + 1) from event (is_gone from gone) (subst (λ o. MayPlayIn (next_oid seen) (facts_of seen b) o s event) (sym same_command ∙ at) may) (ap (λ f. f.running) (facts_of-own seen e b own))));
  },
  lines_are,
)
  where
    b : ℕ
    b = was.id

    e : Entry
    e = entry_of was.id (was.finished + 1) event

    own : (e.backend == b) ≡ true
    own = eq-eqb b b refl

    s : Session
    s = waiting waits

    later : Session
    later = session_at now goes.holds.rest

    facts : Facts
    facts = facts_of (with_own seen was event) was.id

    left : List Command
    left = drop was.finished was.commands

    before : IsPlayed scenario seen × AllOnCourse scenario seen
    before = plays_on_course scenario seen spelled legal plays

    next : IsNext scenario seen e
    next = own_next scenario seen was event lines waits may

    longer : IsPlayed scenario (seen ++ e ∷ []) × AllOnCourse scenario (seen ++ e ∷ [])
    longer = played_more scenario seen e before.0 before.1 follows next

    kept : KeepsAllBy seen b event
    kept = next_keeps scenario seen e before.0 before.1 next

    comes : MayCome seen e
    comes = record { sound = before.0.sound; comes = record { follows = follows; orderly = kept.orderly }; columns = before.0.columns; keeps = kept.columns }

    keeps : KeepsAnswer was now event
    keeps = keeps_answer scenario seen was now event lines waits before.1 may stays answer

    noted_is : IsNoted (noted event s) (entered facts left (length seen + 1) (was.finished + 1) event s)
    noted_is = entered_noted facts left (length seen + 1) (was.finished + 1) event s

    at_command_is : slice_get (commands_of scenario b) (length s.finished) ≡ slice_get was.commands was.finished
    at_command_is = at_session scenario seen was lines waits

    same_command : slice_get now.commands now.finished ≡ slice_get was.commands was.finished
    same_command = ap (λ l. slice_get l now.finished) goes.moves.commands ∙ ap (slice_get was.commands) goes.moves.finished

    on : IsOnCourse scenario seen b s
    on = subst (CourseOf scenario seen b) (waiting_is scenario seen was lines waits) (before.1 b)

    course : EntersCourse scenario (seen ++ e ∷ []) b later
    course = subst (EntersCourse scenario (seen ++ e ∷ []) b) (sym goes.session)
        (subst (λ l. EntersCourse scenario (seen ++ e ∷ []) b (entered facts l (length seen + 1) (was.finished + 1) event s)) (ap (λ n. drop n (commands_of scenario b)) waits.rests.holds.count ∙ ap (drop was.finished) (sym waits.rests.holds.commands))
        (subst (λ n. MayCome seen (entry_of b n event) → EntersCourse scenario (with_entry seen b n event) b (entered (facts_of (with_entry seen b n event) b) (commands_left scenario b s) (length seen + 1) n event s)) (ap (λ n. n + 1) waits.rests.holds.count)
        (λ m. enters_on_course scenario seen b event s m (subst (λ o. MayPlayIn (next_oid seen) (facts_of seen b) o s event) (sym at_command_is) may) on) comes))

    -- after its release it tells of no scan
    alone : (command : Command) → slice_get (commands_of scenario b) (length s.finished) ≡ Some command → s.ended ≡ true → TellsAlone (seen ++ e ∷ []) b later command
    alone command at over = subst (λ x. TellsAlone (seen ++ e ∷ []) b x command) (sym goes.session)
        (subst (λ l. TellsAlone (seen ++ e ∷ []) b (entered facts l (length seen + 1) (was.finished + 1) event s) command) (ap (λ n. drop n (commands_of scenario b)) waits.rests.holds.count ∙ ap (drop was.finished) (sym waits.rests.holds.commands))
        (subst (λ n. MayCome seen (entry_of b n event) → TellsAlone (with_entry seen b n event) b (entered (facts_of (with_entry seen b n event) b) (commands_left scenario b s) (length seen + 1) n event s) command) (ap (λ n. n + 1) waits.rests.holds.count)
        (λ m. alone_on_course scenario seen b event s m (subst (λ o. MayPlayIn (next_oid seen) (facts_of seen b) o s event) (sym at_command_is) may) on command at over) comes))

    finished_same : later.finished ≡ s.finished
    finished_same = ap (λ (x : Session). x.finished) goes.session ∙ noted_is.after.finished ∙ noted_finished event s

    number_same : number_of later ≡ number_of s
    number_same = ap (λ l. length l + 1) finished_same

    placed : ArePlaced (length seen) s
    placed = session_placed scenario seen b s (waiting_is scenario seen was lines waits)

    lines_are : lines ≡ lines_from scenario (seen ++ e ∷ []) now.id 1 later.finished now.commands
    lines_are = waits.lines_are ∙ ap (lines_from scenario seen b 1 s.finished) waits.rests.holds.commands ∙ sym (finished_lines-more scenario seen e b s (waiting_is scenario seen was lines waits))
        ∙ ap (lines_from scenario (seen ++ e ∷ []) b 1 s.finished) (sym waits.rests.holds.commands)
        ∙ (λ i. lines_from scenario (seen ++ e ∷ []) (sym goes.moves.id i) 1 (sym finished_same i) (sym goes.moves.commands i))

    -- the last entry is this one
    is_gone : (from : ℕ) → last_event_of (seen ++ e ∷ []) now.id ≡ Some (events.Gone from) → event ≡ events.Gone from
    is_gone from gone = let both : Some event ≡ Some (events.Gone from) = sym (last_event_of-own seen e b own) ∙ ap (last_event_of (seen ++ e ∷ [])) (sym goes.moves.id) ∙ gone in cc both

    answers : KeepsAnswer was now event → AnswerFits scenario (seen ++ e ∷ []) now later
    answers (Inside inside none) text command told at = absurd (let both : None ≡ Some text = sym none ∙ told in cc both)
    answers (AtEnd ends some same) text command told at =
        (λ i. record { backend = goes.moves.id i; command = number_same i; text = text })
        ∙ waits.tells.answer text command (sym same ∙ told) (sym same_command ∙ at)
        ∙ sym (line_stays scenario seen e b (number_of s) s later command placed.judged (ap finished_as goes.session ∙ judged_still facts left (length seen + 1) (was.finished + 1) event s ends))
        ∙ (λ i. line_of scenario (seen ++ e ∷ []) (sym goes.moves.id i) (sym number_same i) (finished_as later) command)

    comes_out : KeepsAnswer was now event → is_some now.answer ≡ true → is_settled (outcome_of later.left) ≡ true
    comes_out (Inside inside none) some = absurd (both_ways _ (ap (λ o. is_some o) none) some)
    comes_out (AtEnd ends has_one same) some = ap (λ p. is_settled (outcome_of p)) (ap (λ (x : Session). x.left) goes.session ∙ noted_is.after.left ∙ plan_left event s ends) ∙ waits.tells.out (ap (λ o. is_some o) (sym same) ∙ some)

    judged : KeepsAnswer was now event → (command : Command) → slice_get now.commands now.finished ≡ Some command → is_some now.answer ≡ false → IsJudgedHere (seen ++ e ∷ []) now.id later command
    judged (AtEnd ends some same) command at none = absurd (both_ways _ none (ap (λ o. is_some o) same ∙ some command (sym same_command ∙ at)))
    judged (Inside inside none) command at _ = record {
      judged = omega (arith, length_push seen e, ap (λ (x : Session). x.judged) goes.session, judged_here facts left (length seen + 1) (was.finished + 1) event s inside);
      stands = subst (λ k. TellsStill (seen ++ e ∷ []) k later command) (sym goes.moves.id) (by_ended s.ended refl);
    }
      where
        by_ended : (t : Bool) → s.ended ≡ t → TellsStill (seen ++ e ∷ []) b later command
        by_ended false going = inl (ap (λ o. is_over o later) (last_event_of-own seen e b own) ∙ inside_stands event s later inside (ap (λ (x : Session). x.ended) goes.session ∙ noted_is.ended) going)
        by_ended true over = inr (alone command (at_command_is ∙ sym same_command ∙ at) over)

-- so after it the session answers
pub own_answers : (scenario : Scenario) (seen : List Entry) (was now : Progress) (event : Event) (lines : List Line) (waits : AwaitsEntry scenario seen was lines) → AreSpelled scenario → IsLegal seen → Plays scenario seen
    → MayFollow seen (entry_of was.id (was.finished + 1) event) → MayPlayIn (next_oid seen) (facts_of seen was.id) (slice_get was.commands was.finished) (session_at was waits.rests.holds.rest) event → event ≢ events.Stop
    → HasEntered scenario seen was event waits.rests now → now.answer ≡ answer_after event was.answer → KeepsAbsent (with_own seen was event) now → AnswersNow scenario (with_own seen was event) now lines
own_answers scenario seen was now event lines waits spelled legal plays follows may stays goes answer absent = record { holds = goes.holds; absent = absent; tells = told.0; lines_are = told.1 }
  where
    told : TellsNow scenario (with_own seen was event) now goes.holds × AreLines scenario (with_own seen was event) now (session_at now goes.holds.rest) lines
    told = own_tells scenario seen was now event lines waits spelled legal plays follows may stays goes answer

-- after its stop its lines are those of its backend
pub stop_lines : (scenario : Scenario) (seen : List Entry) (was now : Progress) (lines : List Line) (waits : AwaitsEntry scenario seen was lines)
    → MayPlayIn (next_oid seen) (facts_of seen was.id) (slice_get was.commands was.finished) (session_at was waits.rests.holds.rest) events.Stop
    → HasEntered scenario seen was events.Stop waits.rests now → lines ≡ lines_of_backend scenario (with_own seen was events.Stop) now.id
stop_lines scenario seen was now lines waits may goes = by_command (slice_get was.commands was.finished) refl may
  where
    b : ℕ
    b = was.id

    e : Entry
    e = entry_of was.id (was.finished + 1) events.Stop

    s : Session
    s = waiting waits

    later : Session
    later = session_at now goes.holds.rest

    past : slice_get was.commands was.finished ≡ None → slice_get now.commands now.finished ≡ None
    past none = ap (λ l. slice_get l now.finished) goes.moves.commands ∙ ap (slice_get was.commands) goes.moves.finished ∙ none

    finished_same : later.finished ≡ s.finished
    finished_same = ap (λ (x : Session). x.finished) goes.session

    session_is : slice_get was.commands was.finished ≡ None → session_of scenario (seen ++ e ∷ []) now.id ≡ Some later
    session_is none = goes.holds.is ∙ ap (λ l. Some (settled (facts_of (seen ++ e ∷ []) now.id) l later)) (left_none now.commands now.finished (past none))

    by_command : (o : Option Command) → slice_get was.commands was.finished ≡ o → MayPlayIn (next_oid seen) (facts_of seen was.id) o s events.Stop → lines ≡ lines_of_backend scenario (seen ++ e ∷ []) now.id
    by_command (Some command) at plays = absurd plays
    by_command None at plays = waits.lines_are ∙ ap (lines_from scenario seen b 1 s.finished) waits.rests.holds.commands ∙ sym (finished_lines-more scenario seen e b s (waiting_is scenario seen was lines waits))
        ∙ (λ i. lines_from scenario (seen ++ e ∷ []) (sym goes.moves.id i) 1 (sym finished_same i) (commands_of scenario (sym goes.moves.id i)))
        ∙ sym (ap (λ o. lines_from scenario (seen ++ e ∷ []) now.id 1 (option_map_or (λ (x : Session). x.finished) o []) (commands_of scenario now.id)) (session_is at))

-- after its start
unfoldable pub start_answers : (scenario : Scenario) (seen : List Entry) (was now : Progress) → HasNoEntry scenario seen was → AreSpelled scenario → IsLegal seen → Plays scenario seen → MayFollow seen (entry_of was.id 0 events.Start)
    → HasStarted scenario seen was now → now.answer ≡ was.answer → AnswersNow scenario (seen ++ entry_of was.id 0 events.Start ∷ []) now []
start_answers scenario seen was now before spelled legal plays follows started answer = record {
  holds = started.holds;
  absent = keeps_none (seen ++ e ∷ []) now (ap is_absent (ap (λ (s : Session). s.left) started.session) ∙ not_absent no_block none_open (slice_get was.commands 0));
  tells = record {
    played = longer.0;
    course = subst (λ k. EntersCourse scenario (seen ++ e ∷ []) k (session_at now started.holds.rest)) (sym started.moves.id) (subst (EntersCourse scenario (seen ++ e ∷ []) b) (sym (started.session ∙ ap (at_command no_block none_open [] [] (length seen + 1)) first_is))
        (begins_on_course scenario (seen ++ e ∷ []) b no_block none_open [] [] (length seen + 1) (commands_of scenario b) refl (λ n after. has_written-quiet seen e b n refl ∙ before.unwritten n) refl tt));
    tells = record {
      answer = λ text command told at. absurd (let both : None ≡ Some text = sym (answer ∙ before.waits.new.answer) ∙ told in cc both);
      out = λ some. absurd (both_ways _ (ap (λ o. is_some o) (answer ∙ before.waits.new.answer)) some);
    };
    here = λ command at none. record {
      judged = omega (arith, length_push seen e, ap (λ (s : Session). s.judged) started.session);
      stands = inl ((λ i. is_over (last_event_of (seen ++ e ∷ []) (started.moves.id i)) (started.session i)) ∙ ap (λ o. is_over o (at_command no_block none_open [] [] (length seen + 1) (slice_get was.commands 0))) (last_event_of-own seen e b own));
    };
    last = omega (arith, length_push seen e, ap (λ (s : Session). s.last) started.session);
    back = λ from command gone at. absurd (let both : Some events.Start ≡ Some (events.Gone from) = sym (last_event_of-own seen e b own) ∙ ap (last_event_of (seen ++ e ∷ [])) (sym started.moves.id) ∙ gone in cc both);
  };
  lines_are = sym (ap (λ l. lines_from scenario (seen ++ e ∷ []) now.id 1 l now.commands) (ap (λ (s : Session). s.finished) started.session));
}
  where
    b : ℕ
    b = was.id

    e : Entry
    e = entry_of was.id 0 events.Start

    own : (e.backend == b) ≡ true
    own = eq-eqb b b refl

    first_is : slice_get was.commands 0 ≡ first_of (commands_of scenario b)
    first_is = sym (first_left was.commands 0) ∙ ap first_of before.waits.commands

    earlier : IsPlayed scenario seen × AllOnCourse scenario seen
    earlier = plays_on_course scenario seen spelled legal plays

    longer : IsPlayed scenario (seen ++ e ∷ []) × AllOnCourse scenario (seen ++ e ∷ [])
    longer = played_more scenario seen e earlier.0 earlier.1 follows (before.waits.number, subst (λ o. MayPlayAt scenario seen b o 0 events.Start) (sym before.session) tt)
