-- What a backend answers without an entry is what the history says.
use Rattle.std.proofs.Common.{◌≡◌, ◌≤◌, ◌+◌, ◌∙◌, ◌&&◌, ◌||◌, inl, inr, ℕ, Bool, true, false, not, Option, Some, None, List, [], ◌∷◌, ◌++◌, refl, sym, ap, subst, length, drop, slice_get, is_some, is_none, unwrap_or, arith}
use Rattle.std.specs.Option.{option_map}
use Rattle.std.proofs.Math.Bool.{or-true}
use Rattle.std.proofs.lemmas.Bool.{both_ways, and_parts}
use Rattle.ddl_effect.specs.Commands.{commands_of}
use Rattle.base_types.specs.declared.scan.Purpose.TheVariants as scans
use Rattle.event_kinds.specs.declared.entry.Event.TheVariants as events
use Rattle.ddl_effect.specs.Plans.{Plan, Act, Done, Absent, Do, Lookup, Open, Search, Read, Lock, Write}
use Rattle.ddl_effect.specs.Stages.{plan_at, told_of}
use Rattle.txn_blocks.specs.Blocks.{Blocks}
use Rattle.history_model.specs.Lives.{last_event_of}
use Rattle.cacheless.specs.Types.{Mode, Row, Command, Scenario, Entry, Event, Line}
use Rattle.cacheless.specs.declared.progress.Progress.{Progress}
use Rattle.cacheless.specs.Answering.{IsToldText, IsWhole, KeepsAbsent}
use Rattle.cacheless.specs.Facts.{Facts, facts_of}
use Rattle.cacheless.specs.Holds.{FactsFit, Holds, HasActed, HasPassed}
use Rattle.cacheless.specs.Lines.{line_of, lines_from}
use Rattle.cacheless.specs.OnCourse.{is_absent, is_over, OnItsWay, EntersCourse, TellsStill}
use Rattle.cacheless.specs.Session.{Session, number_of, first_of, outcome_of, is_settled}
use Rattle.cacheless.specs.Owed.{act_owed}
use Rattle.cacheless.specs.Settled.{act_done, blocks_after, opens_after, finished_as, next_session}
use Rattle.cacheless.specs.May.{has_failed}
use Rattle.cacheless.specs.Silently.{acts_on, is_finished_at, is_to_answer, is_to_answer_at, Answers, Finishes, IsSettled, HasAnswered, IsLineOf}
use Rattle.cacheless.specs.State.{kept_at, is_kept, is_out, Rest, session_at, owes_nothing, facts_at, work_at}
use Rattle.cacheless.specs.Telling.{AreLines, IsJudgedHere, TellsNow, HasGoneOn}
use Rattle.cacheless.specs.Told.{tells_of_scans}
use Rattle.cacheless.proofs.Plans.AfterActs.{IsUnfound, after_lookup, after_opening, after_lock, after_search, after_reading}
use Rattle.cacheless.proofs.Plans.SilentActs.{on_its_way, its_place, IsDoneHere, is_done_here}
use Rattle.cacheless.proofs.Entries.EnteredLooks.{not_absent}
use Rattle.cacheless.proofs.Tests.{both_true}
use Rattle.cacheless.proofs.Resting.{first_left, left_command, cond_none}
use Rattle.cacheless.proofs.Allowed.SettledCourse.{act_enters, finish_enters}
use Rattle.cacheless.proofs.Answers.JudgedLines.{lines-push}
use Rattle.cacheless.proofs.Answers.KeptTells.{session_held, told_now}
use Rattle.cacheless.specs.Ends.{end_left_in}

-- a command that is to be answered is, where none is left
answered_if : (s : Progress) (command : Command) → (is_none s.answer && is_to_answer command s) ≡ false → is_to_answer command s ≡ true → is_some s.answer ≡ true
answered_if s command none asked = by_answer s.answer (sym (ap (λ t. is_none s.answer && t) asked) ∙ none)
  where
    by_answer : (o : Option (List ℕ)) → (is_none o && true) ≡ false → is_some o ≡ true
    by_answer None is = absurd (cc is)
    by_answer (Some text) is = refl

answered_at_rest : (s : Progress) (command : Command) → slice_get s.commands s.finished ≡ Some command → (is_none s.answer && is_to_answer command s) ≡ false → is_to_answer_at s ≡ true → is_some s.answer ≡ true
answered_at_rest s command at none asked = answered_if s command none (sym (ap (λ o. elim o as (λ x. Bool) [ Some c ↦ is_to_answer c s | None ↦ false ]) at) ∙ asked)

-- a command that is finished is to be answered
finished_asks : (s : Progress) (command : Command) → is_finished_at command s ≡ true → is_to_answer command s ≡ true
finished_asks s command finished = both_true (is_out s) (has_failed s || not (tells_of_scans (told_of (plan_at s.opens s.exec))) || owes_nothing command s) (and_parts (is_out s) _ parts.0).0
    (ap (λ t. has_failed s || not (tells_of_scans (told_of (plan_at s.opens s.exec))) || t) parts.1 ∙ or-true (has_failed s || not (tells_of_scans (told_of (plan_at s.opens s.exec)))))
  where
    parts : ((is_out s && (is_none (end_left_in (facts_at s) command (work_at s)))) ≡ true) × (owes_nothing command s ≡ true)
    parts = and_parts (is_out s && (is_none (end_left_in (facts_at s) command (work_at s)))) (owes_nothing command s) finished

-- so it passes over a command that is finished
pub finishes : (s : Progress) (command : Command) → slice_get s.commands s.finished ≡ Some command → (is_none s.answer && is_to_answer command s) ≡ false → is_finished_at command s ≡ true → Finishes s
finishes s command at none finished = record { command = command; at = at; finished = finished; answered = answered_if s command none (finished_asks s command finished) }

-- and rests where there is nothing to do
pub settled_now : (s : Progress) (command : Command) → slice_get s.commands s.finished ≡ Some command → acts_on command s ≡ false → (is_none s.answer && is_to_answer command s) ≡ false → is_finished_at command s ≡ false → IsSettled s
settled_now s command at stays none going = record {
  still = λ other here. subst (λ c. (acts_on c s ≡ false) × (is_finished_at c s ≡ false)) (let both : Some command ≡ Some other = sym at ∙ here in cc both) (stays, going);
  answered = answered_at_rest s command at none;
}

-- where the test for `None` is true it is `None`
pub not_some : {X : Type 0} (o : Option X) → is_none o ≡ true → o ≡ None
not_some None is = refl
not_some (Some x) is = absurd (cc is)

-- nothing is done after the last command
pub settled_after_all : (s : Progress) → slice_get s.commands s.finished ≡ None → IsSettled s
settled_after_all s none = record {
  still = λ command here. let both : None ≡ Some command = sym none ∙ here in absurd (cc both);
  answered = λ asked. let never : false ≡ true = sym (ap (λ (o : Option Command). elim o as (λ x. Bool) [ Some command ↦ is_to_answer command s | None ↦ false ]) none) ∙ asked in absurd (cc never);
}

-- the running command is that of the session
at_finished : (scenario : Scenario) (seen : List Entry) (s : Progress) (holds : Holds scenario seen s) → slice_get (commands_of scenario s.id) (length (session_at s holds.rest).finished) ≡ slice_get s.commands s.finished
at_finished scenario seen s holds = ap (slice_get (commands_of scenario s.id)) holds.count ∙ ap (λ l. slice_get l s.finished) (sym holds.commands)

-- the last entry is over as it was
over_same : (last : Option Event) (s later : Session) → later.ended ≡ s.ended → is_over last later ≡ is_over last s
over_same (Some (events.Gone from)) s later same = refl
over_same last s later same = same

-- a lookup that is done has its scan kept
lookup_kept : (facts : Facts) (s : Progress) (name : List ℕ) (mode : Mode) (rest : List Row → Plan) → FactsFit facts s → act_owed facts (Do (Lookup name mode) rest) ≡ [] → is_kept (kept_at s) (scans.RelName name) ≡ true
lookup_kept facts s name mode rest fits owed = sym (ap (λ f. is_kept f.kept (scans.RelName name)) fits) ∙ cond_none (is_kept facts.kept (scans.RelName name)) (scans.RelName name) owed

-- where an act left that no relation has a name, the scan of the name is kept
absent_kept : (seen : List Entry) (was : Progress) (rest : Rest) (command : Command) (act : Act) (further : List Row → Plan) (given : List Row) → FactsFit (facts_of seen was.id) was → OnItsWay seen was.id (session_at was rest) command → plan_at was.opens was.exec ≡ Do act further
    → IsDoneHere (facts_of seen was.id) (session_at was rest) act further given → (name : List ℕ) → further given ≡ Absent name → is_kept (kept_at was) (scans.RelName name) ≡ true
absent_kept seen was rest command (Lookup sought mode) further given fits way at done name absent = subst (λ n. is_kept (kept_at was) (scans.RelName n) ≡ true) one
    (lookup_kept (facts_of seen was.id) was sought mode further fits done.owed)
  where
    unfound : IsUnfound sought (further given) given
    unfound = after_lookup _ sought mode further given (its_place seen was.id (session_at was rest) command (Lookup sought mode) further way at) (ap is_absent absent)

    one : sought ≡ name
    one = let both : Absent sought ≡ Absent name = sym unfound.is ∙ absent in cc both
absent_kept seen was rest command (Open rel kind) further given fits way at done name absent = absurd (both_ways _ (after_opening _ rel kind further given (its_place seen was.id (session_at was rest) command (Open rel kind) further way at)) (ap is_absent absent))
absent_kept seen was rest command (Search scan) further given fits way at done name absent = absurd (both_ways _ (after_search _ scan further given (its_place seen was.id (session_at was rest) command (Search scan) further way at)) (ap is_absent absent))
absent_kept seen was rest command (Read scan) further given fits way at done name absent = absurd (both_ways _ (after_reading _ scan further given (its_place seen was.id (session_at was rest) command (Read scan) further way at)) (ap is_absent absent))
absent_kept seen was rest command (Lock rel mode) further given fits way at done name absent = absurd (both_ways _ (after_lock _ rel mode further given (its_place seen was.id (session_at was rest) command (Lock rel mode) further way at)) (ap is_absent absent))
absent_kept seen was rest command (Write draft) further given fits way at done name absent = absurd (let no : None ≡ Some given = done.gave in cc no)

-- a command whose next act is done hasn't come out
unsettled : (scenario : Scenario) (seen : List Entry) (was p : Progress) (held : Holds scenario seen was) (acted : HasActed scenario seen was held p) → is_settled (outcome_of (plan_at was.opens was.exec)) ≡ false
unsettled scenario seen was p held acted = ap (λ x. is_settled (outcome_of x)) acted.left

-- an act leaves the scans that are kept
pub act_absent : (scenario : Scenario) (seen : List Entry) (was p : Progress) (held : Holds scenario seen was) → EntersCourse scenario seen was.id (session_at was held.rest) → (acted : HasActed scenario seen was held p) → kept_at p ≡ kept_at was → KeepsAbsent seen p
act_absent scenario seen was p held course acted kept = λ name missed whole. ap (λ l. is_kept l (scans.RelName name)) kept
    ∙ absent_kept seen was held.rest acted.command acted.act acted.further acted.given held.facts
    (on_its_way seen was.id s acted.command acted.act acted.further (course.follows acted.command (at_finished scenario seen was held ∙ acted.at)) acted.left) acted.left
    (is_done_here (facts_of seen was.id) s acted.act acted.further acted.given acted.gives) name (sym (ap (λ x. x.left) acted.session) ∙ missed)
  where
    s : Session
    s = session_at was held.rest

-- after an act the code tells what the history says
pub act_tells : (scenario : Scenario) (seen : List Entry) (was p : Progress) (held : Holds scenario seen was) → TellsNow scenario seen was held → (acted : HasActed scenario seen was held p) → p.answer ≡ was.answer → TellsNow scenario seen p acted.holds
act_tells scenario seen was p held now acted same = record {
  played = now.played;
  course = subst (λ b. EntersCourse scenario seen b (session_at p acted.holds.rest)) (sym acted.moves.id) (subst (EntersCourse scenario seen was.id) (sym acted.session)
      (act_enters scenario seen was.id s acted.command acted.act acted.further acted.given (session_held scenario seen was now.played held) (at_finished scenario seen was held ∙ acted.at) acted.free acted.left acted.gives now.course));
  tells = record {
    answer = λ text command told at. absurd (both_ways _ going (now.tells.out (ap (λ o. is_some o) (sym same ∙ told))));
    out = λ some. absurd (both_ways _ going (now.tells.out (ap (λ o. is_some o) (sym same) ∙ some)));
  };
  here = λ command at none. let h = now.here command (sym same_command ∙ at) (ap (λ o. is_some o) (sym same) ∙ none) in record {
    judged = subst (λ (x : Session). length seen ≤ x.judged) (sym acted.session) h.judged;
    stands = inl ((λ i. is_over (last_event_of seen (acted.moves.id i)) (acted.session i)) ∙ over_same (last_event_of seen was.id) s (act_done acted.act acted.given (acted.further acted.given) s) refl ∙ whole command h.stands);
  };
  last = subst (λ (x : Session). length seen ≤ x.last) (sym acted.session) now.last;
  back = λ from command gone at. absurd (both_ways _ going (now.back from acted.command (ap (last_event_of seen) (sym acted.moves.id) ∙ gone) acted.at).out);
}
  where
    s : Session
    s = session_at was held.rest

    same_command : slice_get p.commands p.finished ≡ slice_get was.commands was.finished
    same_command = ap (λ l. slice_get l p.finished) acted.moves.commands ∙ ap (slice_get was.commands) acted.moves.finished

    going : is_settled (outcome_of s.left) ≡ false
    going = unsettled scenario seen was p held acted

    whole : (command : Command) → TellsStill seen was.id s command → is_over (last_event_of seen was.id) s ≡ false
    whole command (inl stands) = stands
    whole command (inr alone) = absurd (both_ways _ going (ap (λ q. is_settled (outcome_of q)) alone.left))

-- and it passes over no command
pub act_lines : (scenario : Scenario) (seen : List Entry) (was p : Progress) (held : Holds scenario seen was) (acted : HasActed scenario seen was held p) (lines : List Line) → AreLines scenario seen was (session_at was held.rest) lines → AreLines scenario seen p (session_at p acted.holds.rest) lines
act_lines scenario seen was p held acted lines are = are ∙ (λ i. lines_from scenario seen (sym acted.moves.id i) 1 (sym acted.session i).finished (sym acted.moves.commands i))

-- a command that is answered
abbrev pub with_answer : Progress → List ℕ → Progress
with_answer s text = record s { answer = Some text }

-- what is held is held with the answer
unfoldable pub answer_holds : (scenario : Scenario) (seen : List Entry) (s : Progress) (text : List ℕ) → Holds scenario seen s → Holds scenario seen (with_answer s text)
answer_holds scenario seen s text holds = record {
  number = holds.number;
  commands = holds.commands;
  few = holds.few;
  most = holds.most;
  rest = holds.rest;
  count = holds.count;
  is = holds.is;
  facts = holds.facts;
  counts = holds.counts;
  order = holds.order;
  sought = holds.sought;
  puts = holds.puts;
  pins = holds.pins;
}

-- a command that isn't over is whole
whole_now : (seen : List Entry) (s : Progress) (session : Session) → session.ended ≡ s.ended → is_over (last_event_of seen s.id) session ≡ false → IsWhole seen s
whole_now seen s session same stands = by_last (last_event_of seen s.id) refl stands
  where
    by_last : (last : Option Event) → last_event_of seen s.id ≡ last → is_over last session ≡ false → IsWhole seen s
    by_last (Some (events.Gone from)) is over = absurd (cc over)
    by_last None is going = record { untaken = λ from gone. absurd (let no : None ≡ Some (events.Gone from) = sym is ∙ gone in cc no); going = sym same ∙ going }
    by_last (Some event) is going = record { untaken = λ from gone. absurd (let no : Some event ≡ Some (events.Gone from) = sym is ∙ gone in cc no); going = sym same ∙ going }

-- what the code answers is the line of its command
pub answered_line : (scenario : Scenario) (seen : List Entry) (s : Progress) (command : Command) (text : List ℕ) (holds : Holds scenario seen s) → TellsNow scenario seen s holds → KeepsAbsent seen s → slice_get s.commands s.finished ≡ Some command → is_to_answer command s ≡ true → s.answer ≡ None → IsToldText command s text
    → record { backend = s.id; command = number_of (session_at s holds.rest); text = text } ≡ line_of scenario seen s.id (number_of (session_at s holds.rest)) (finished_as (session_at s holds.rest)) command
answered_line scenario seen s command text holds now absent at out none told = told_now scenario seen s command text now.played holds (now.course.follows command (at_finished scenario seen s holds ∙ at)) here.stands now.course.kinds here.judged (λ name missed. absent name missed (whole_now seen s (session_at s holds.rest) refl (whole name missed here.stands))) out told
  where
    whole : (name : List ℕ) → plan_at s.opens s.exec ≡ Absent name → TellsStill seen s.id (session_at s holds.rest) command → is_over (last_event_of seen s.id) (session_at s holds.rest) ≡ false
    whole name missed (inl stands) = stands
    whole name missed (inr alone) = absurd (let both : Absent name ≡ Done alone.told = sym missed ∙ alone.left in cc both)

    here : IsJudgedHere seen s.id (session_at s holds.rest) command
    here = now.here command at (ap (λ o. is_some o) none)

-- so with its answer the code tells what the history says
pub answer_tells : (scenario : Scenario) (seen : List Entry) (s : Progress) (command : Command) (text : List ℕ) (holds : Holds scenario seen s) → TellsNow scenario seen s holds → KeepsAbsent seen s → slice_get s.commands s.finished ≡ Some command → is_to_answer command s ≡ true → s.answer ≡ None → IsToldText command s text
    → TellsNow scenario seen (with_answer s text) (answer_holds scenario seen s text holds)
unfolding answer_holds
answer_tells scenario seen s command text holds now absent at out none told = record {
  played = now.played;
  course = now.course;
  tells = record {
    answer = λ other c is here. let one : text ≡ other = cc is in let it : command ≡ c = (let both : Some command ≡ Some c = sym at ∙ here in cc both) in
        (λ i. record { backend = s.id; command = number_of session; text = sym one i }) ∙ answered_line scenario seen s command text holds now absent at out none told ∙ ap (line_of scenario seen s.id (number_of session) (finished_as session)) it;
    out = λ some. (and_parts (is_settled (outcome_of (plan_at s.opens s.exec))) _ out).0;
  };
  here = λ c here unanswered. absurd (cc unanswered);
  last = now.last;
  back = now.back;
}
  where
    session : Session
    session = session_at s holds.rest

-- what is held is held by a command that is answered
pub answered_holds : (scenario : Scenario) (seen : List Entry) (was p : Progress) → HasAnswered was p → Holds scenario seen was → Holds scenario seen p
answered_holds scenario seen was p has holds = subst (Holds scenario seen) (sym has.is) (answer_holds scenario seen was has.text holds)

-- and keeps the scan of a lookup that found no relation
pub answer_absent : (seen : List Entry) (s : Progress) (text : List ℕ) → KeepsAbsent seen s → KeepsAbsent seen (with_answer s text)
answer_absent seen s text absent = λ name missed whole. absent name missed (record { untaken = whole.untaken; going = whole.going })

-- the next command has no such lookup yet
pub pass_absent : (scenario : Scenario) (seen : List Entry) (was p : Progress) (held : Holds scenario seen was) (passed : HasPassed scenario seen was held p) → KeepsAbsent seen p
pass_absent scenario seen was p held passed =
    λ name missed whole. absurd (both_ways _ (not_absent blocks (opens_after passed.command (session_at was held.rest)) next) (ap is_absent (sym (ap (λ x. x.left) passed.session) ∙ missed)))
  where
    next : Option Command
    next = slice_get was.commands (was.finished + 1)

    blocks : Blocks
    blocks = blocks_after passed.command (session_at was held.rest)

-- after it the code tells what the history says
pub pass_tells : (scenario : Scenario) (seen : List Entry) (was p : Progress) (held : Holds scenario seen was) → TellsNow scenario seen was held → (passed : HasPassed scenario seen was held p) → p.answer ≡ None → TellsNow scenario seen p passed.holds
pass_tells scenario seen was p held now passed none = record {
  played = now.played;
  course = subst (λ b. EntersCourse scenario seen b (session_at p passed.holds.rest)) (sym passed.id) (subst (EntersCourse scenario seen was.id) (sym session)
      (finish_enters scenario seen was.id s passed.command rest left passed.over now.course));
  tells = record {
    answer = λ text command told at. absurd (let both : None ≡ Some text = sym none ∙ told in cc both);
    out = λ some. absurd (both_ways _ (ap (λ o. is_some o) none) some);
  };
  here = λ command at unanswered. record {
    judged = subst (λ (x : Session). length seen ≤ x.judged) (sym passed.session) now.last;
    stands = inl ((λ i. is_over (last_event_of seen (passed.id i)) (passed.session i)) ∙ begins_over (last_event_of seen was.id) refl);
  };
  last = subst (λ (x : Session). length seen ≤ x.last) (sym passed.session) now.last;
  back = λ from command gone at. absurd (never from (ap (last_event_of seen) (sym passed.id) ∙ gone));
}
  where
    s : Session
    s = session_at was held.rest

    next : Option Command
    next = slice_get was.commands (was.finished + 1)

    rest : List Command
    rest = drop (was.finished + 1) was.commands

    left : passed.command ∷ rest ≡ drop (length s.finished) (commands_of scenario was.id)
    left = sym (left_command was passed.command passed.at) ∙ ap (drop was.finished) held.commands ∙ ap (λ n. drop n (commands_of scenario was.id)) (sym held.count)

    session : session_at p passed.holds.rest ≡ next_session passed.command (first_of rest) s
    session = passed.session ∙ ap (λ o. next_session passed.command o s) (sym (first_left was.commands (was.finished + 1)))

    never : (from : ℕ) → last_event_of seen was.id ≡ Some (events.Gone from) → ⊥
    never from gone = both_ways _ (now.back from passed.command gone passed.at).going passed.over

    begins_over : (last : Option Event) → last_event_of seen was.id ≡ last → is_over last (next_session passed.command next s) ≡ false
    begins_over (Some (events.Gone from)) is = absurd (never from is)
    begins_over last is = refl

-- the line of the command that it passes over is that of the history
pub pass_lines : (scenario : Scenario) (seen : List Entry) (was p : Progress) (held : Holds scenario seen was) → TellsNow scenario seen was held → (passed : HasPassed scenario seen was held p) (lines : List Line) (line : Line) → IsLineOf was line
    → AreLines scenario seen was (session_at was held.rest) lines → AreLines scenario seen p (session_at p passed.holds.rest) (lines ++ line ∷ [])
pass_lines scenario seen was p held now passed lines line says are = ap (λ l. l ++ line ∷ []) are
    ∙ ap (λ (x : Line). lines_from scenario seen was.id 1 s.finished was.commands ++ x ∷ []) (line_is was.answer refl says)
    ∙ sym (lines-push scenario seen was.id 1 s.finished (finished_as s) was.commands passed.command (ap (slice_get was.commands) held.count ∙ passed.at))
    ∙ (λ i. lines_from scenario seen (sym passed.id i) 1 (sym passed.session i).finished (sym passed.commands i))
  where
    s : Session
    s = session_at was held.rest

    number_same : number_of s ≡ was.finished + 1
    number_same = ap (λ n. n + 1) held.count

    line_is : (o : Option (List ℕ)) → was.answer ≡ o → option_map (λ text. record { backend = was.id; command = was.finished + 1; text = text }) o ≡ Some line → line ≡ line_of scenario seen was.id (1 + length s.finished) (finished_as s) passed.command
    line_is None is said = absurd (cc said)
    line_is (Some text) is said = sym (ap (λ o. unwrap_or o line) said) ∙ (λ i. record { backend = was.id; command = sym number_same i; text = text }) ∙ now.tells.answer text passed.command is passed.at
        ∙ ap (λ n. line_of scenario seen was.id n (finished_as s) passed.command) (let n : number_of s ≡ 1 + length s.finished = omega arith in n)

-- each of these goes on
pub act_goes : (scenario : Scenario) (seen : List Entry) (was p : Progress) (held : Holds scenario seen was) (lines : List Line) → HasActed scenario seen was held p → kept_at p ≡ kept_at was → p.answer ≡ was.answer → TellsNow scenario seen was held → HasGoneOn scenario seen was held lines p lines
act_goes scenario seen was p held lines acted kept same now = record {
  holds = acted.holds;
  tells = act_tells scenario seen was p held now acted same;
  absent = act_absent scenario seen was p held now.course acted kept;
  id = acted.moves.id;
  lines_are = act_lines scenario seen was p held acted lines;
}

-- the text is that of what the running command answers
pub told_asked : (was p : Progress) (asked : Answers was) (has : HasAnswered was p) → IsToldText asked.command was has.text
told_asked was p asked has = subst (λ c. IsToldText c was has.text) (let both : Some has.command ≡ Some asked.command = sym has.at ∙ asked.at in cc both) has.told

pub answer_goes : (scenario : Scenario) (seen : List Entry) (was p : Progress) (held : Holds scenario seen was) (lines : List Line) → Answers was → HasAnswered was p → TellsNow scenario seen was held → KeepsAbsent seen was → HasGoneOn scenario seen was held lines p lines
unfolding answer_holds
answer_goes scenario seen was p held lines asked has now absent = subst (λ x. HasGoneOn scenario seen was held lines x lines) (sym has.is) goes
  where
    goes : HasGoneOn scenario seen was held lines (with_answer was has.text) lines
    goes = record {
      holds = answer_holds scenario seen was has.text held;
      tells = answer_tells scenario seen was asked.command has.text held now absent asked.at asked.asked asked.none (told_asked was p asked has);
      absent = answer_absent seen was has.text absent;
      id = refl;
      lines_are = λ are. are;
    }

pub pass_goes : (scenario : Scenario) (seen : List Entry) (was p : Progress) (held : Holds scenario seen was) (lines after : List Line) (line : Line) → HasPassed scenario seen was held p → p.answer ≡ None → IsLineOf was line → after ≡ lines ++ line ∷ [] → TellsNow scenario seen was held → HasGoneOn scenario seen was held lines p after
pass_goes scenario seen was p held lines after line passed none says pushed now = record {
  holds = passed.holds;
  tells = pass_tells scenario seen was p held now passed none;
  absent = pass_absent scenario seen was p held passed;
  id = passed.id;
  lines_are = λ are. pushed ∙ pass_lines scenario seen was p held now passed lines line says are;
}

-- nothing done is nothing changed
pub none_goes : (scenario : Scenario) (seen : List Entry) (s : Progress) (held : Holds scenario seen s) (lines : List Line) → TellsNow scenario seen s held → KeepsAbsent seen s → HasGoneOn scenario seen s held lines s lines
none_goes scenario seen s held lines now absent = record { holds = held; tells = now; absent = absent; id = refl; lines_are = λ are. are }

-- one after another
pub goes_further : (scenario : Scenario) (seen : List Entry) (was mid p : Progress) (held : Holds scenario seen was) (before between lines : List Line) (goes : HasGoneOn scenario seen was held before mid between) → HasGoneOn scenario seen mid goes.holds between p lines → HasGoneOn scenario seen was held before p lines
goes_further scenario seen was mid p held before between lines goes further = record {
  holds = further.holds;
  tells = further.tells;
  absent = further.absent;
  id = further.id ∙ goes.id;
  lines_are = λ are. further.lines_are (goes.lines_are are);
}
