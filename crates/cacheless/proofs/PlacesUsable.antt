-- Each place that the lines of an allowed history name is that of a scan which serves still where the command is judged.
use Rattle.std.proofs.Common.{◌≡◌, ◌≤◌, ◌+◌, ◌∙◌, ◌⊎◌, ◌==◌, ◌&&◌, inl, inr, ℕ, Bool, true, false, suc, Option, Some, None, List, [], ◌∷◌, ◌++◌, refl, sym, ap, subst, length, drop, slice_get, is_none, All, arith}
use Rattle.std.specs.Prelude.{⊤}
use Rattle.std.specs.Option.{option_map_or}
use Rattle.std.proofs.lemmas.Bool.{and_parts, both_ways, eqb-true, eq-eqb}
use Rattle.std.proofs.lemmas.List.{take-append-le, take_all, length_push}
use Rattle.base_types.specs.declared.scan.Purpose.TheVariants as scans
use Rattle.event_kinds.specs.declared.entry.Event.TheVariants as events
use Rattle.txn_blocks.specs.Blocks.{ends_failure, no_block}
use Rattle.ddl_effect.specs.Commands.{commands_of}
use Rattle.ddl_effect.specs.Plans.{Act, Plan, Done, Fails, Absent, Do}
use Rattle.ddl_effect.specs.Stages.{told_of}
use Rattle.history_model.specs.Drawn.{next_oid}
use Rattle.history_model.specs.MayFollow.{MayFollow, FollowsGone}
use Rattle.history_model.specs.Lives.{last_event_of}
use Rattle.history_model.specs.Read.{is_usable}
use Rattle.history_model.specs.Transactions.{has_written}
use Rattle.history_model.specs.Changing.{is_empty}
use Rattle.history_model.proofs.Locked.{IsQuiet}
use Rattle.history_model.proofs.Allows.{legal_follows}
use Rattle.history_model.proofs.Prefixes.{EachFrom-both, each-keeps}
use Rattle.history_model.proofs.Reading.{last_event_of-own, last_event_of-other, is_usable-own, is_usable-other}
use Rattle.history_model.proofs.Touched.{entry_of}
use Rattle.cacheless.specs.Work.{work_of}
use Rattle.cacheless.specs.Ends.{end_left_in}
use Rattle.cacheless.specs.Facts.{Facts, facts_of}
use Rattle.cacheless.specs.OnCourse.{is_absent, is_over, FollowsPlan, TellsAlone, TellsStill, IsOnCourse, CourseOf, AllOnCourse, EntersCourse}
use Rattle.cacheless.specs.Output.{IsAllowed}
use Rattle.cacheless.specs.Judged.{ArePlaced}
use Rattle.cacheless.specs.Owed.{owed_first_in, owed_after, act_owed, owed_in}
use Rattle.cacheless.specs.Places.{AnswersRightly, IsPlacedRightly, PlacedFrom, ArePlacesUsable}
use Rattle.cacheless.specs.Played.{AreSpelled, IsPlayed}
use Rattle.cacheless.specs.Plays.{IsLock, IsUnlock, IsEnd, MayPlay, MayPlayIn, MayPlayAt, IsStart, IsNext}
use Rattle.cacheless.specs.Session.{Session, Finished, Outcome, Unsettled, Well, Badly, number_of, first_of, none_open, at_command, outcome_of, is_settled}
use Rattle.cacheless.specs.Sessions.{resumed, noted, ends_command, commands_left, entered, session_of}
use Rattle.cacheless.specs.Settled.{act_done, done_here, acted_on, acted, is_finished_in, blocks_after, opens_after, finished_as, next_session, settled}
use Rattle.cacheless.specs.Told.{tells_of_scans}
use Rattle.cacheless.specs.Telling.{IsOnItsEnd}
use Rattle.cacheless.specs.Types.{Oid, Mode, Row, Command, Scenario, Entry, Event}
use Rattle.cacheless.proofs.Allowed.AllowedHistories.{played_more, played_start}
use Rattle.cacheless.proofs.Allowed.NextKeeps.{KeepsAllBy, next_keeps}
use Rattle.cacheless.proofs.Allowed.NextOnCourse.{entered_noted, noted_finished, enters_on_course, alone_on_course, with_entry, session_then, session_is, no_start}
use Rattle.cacheless.proofs.Allowed.OwnEntries.{IsNoted, scan_there, ends_out}
use Rattle.cacheless.proofs.Allowed.SettledCourse.{HasSession, act_enters, finish_enters, begins_on_course, rest_left, first_left}
use Rattle.cacheless.proofs.Allowed.StaysOnCourse.{MayCome, has_written-quiet, over_stays}
use Rattle.cacheless.proofs.Answers.JudgedLines.{session_placed, judged_here, judged_still}
use Rattle.cacheless.proofs.Answers.PlacesTold.{answers_rightly}
use Rattle.cacheless.proofs.Answers.ToldAnswers.{has_come_out}
use Rattle.cacheless.proofs.EndEntries.{ends_or_owes_none, ends_plainly, gone_on, plan_left}
use Rattle.cacheless.proofs.Entries.EnteredLooks.{not_absent}
use Rattle.cacheless.proofs.HeldLocks.{settled-locks}
use Rattle.cacheless.proofs.OwnAnswers.{inside_stands, entered_last}
use Rattle.cacheless.proofs.OwnPlaces.{write_there}
use Rattle.cacheless.proofs.Plans.SilentActs.{IsDoneHere, is_done_here, FailsToFind, there_or_fails, on_its_way, usable_already, empty_list}
use Rattle.cacheless.proofs.Reading.{facts_of-own, facts_of-other, session_of-other}
use Rattle.cacheless.proofs.Settling.{acted-out}

-- where the running command failed to find a relation the scan of the name is usable, until something of it is taken back or released
abbrev AbsentServes : List Entry → ℕ → Session → Type 0
AbsentServes seen b s = (name : List ℕ) → s.left ≡ Absent name → is_over (last_event_of seen b) s ≡ false → is_usable seen b (scans.RelName name) ≡ true

-- the places in the line of the running command, judged where it is
abbrev RunsRightly : Scenario → List Entry → ℕ → Session → Command → Type 0
RunsRightly scenario seen b s command = IsPlacedRightly scenario seen b (number_of s) (finished_as s) command

-- a command has come out, and failed, tells of no scan or owes nothing
record HasComeTo (facts : Facts) (command : Command) (s : Session) : Type 0 where
  out : is_settled (outcome_of s.left) ≡ true
  owes : (outcome_of s.left ≡ Badly) ⊎ (tells_of_scans (told_of s.left) ≡ false) ⊎ (owed_in facts command (work_of s) ≡ [])

-- so it has where it is finished
finished_comes : (facts : Facts) (command : Command) (s : Session) → is_finished_in facts command (work_of s) ≡ true → HasComeTo facts command s
finished_comes facts command s finished = let parts = and_parts (is_settled (outcome_of s.left) && is_none (end_left_in facts command (work_of s))) (is_empty (owed_in facts command (work_of s))) finished in
    record { out = (and_parts (is_settled (outcome_of s.left)) (is_none (end_left_in facts command (work_of s))) parts.0).0; owes = inr (inr (empty_list (owed_in facts command (work_of s)) parts.1)) }

-- and before each entry of its end
end_comes : (facts : Facts) (seen : List Entry) (b : ℕ) (command : Command) (s : Session) (event : Event) → FollowsPlan seen b s command → IsEnd facts command s event → HasComeTo facts command s
end_comes facts seen b command s event follows ends = by_outcome (outcome_of s.left) refl (ends_out facts command s event ends.1)
  where
    by_side : outcome_of s.left ≡ Well → (ends_failure command ≡ true) ⊎ (owed_in facts command (work_of s) ≡ []) → HasComeTo facts command s
    by_side well (inl block) = record { out = ap is_settled well; owes = inr (inl (ends_plainly command s follows.plain block well)) }
    by_side well (inr none) = record { out = ap is_settled well; owes = inr (inr none) }

    by_outcome : (o : Outcome) → outcome_of s.left ≡ o → is_settled o ≡ true → HasComeTo facts command s
    by_outcome Unsettled is out = absurd (cc out)
    by_outcome Badly is out = record { out = ap is_settled is; owes = inl is }
    by_outcome Well is out = by_side is (ends_or_owes_none facts command s is ends.0)

-- a session that goes on only with an entry
record Serves (scenario : Scenario) (seen : List Entry) (b : ℕ) (s : Session) : Type 0 where
  finished : PlacedFrom scenario seen b 1 s.finished (commands_of scenario b)
  absent : (command : Command) → slice_get (commands_of scenario b) (length s.finished) ≡ Some command → AbsentServes seen b s
  running : (command : Command) → slice_get (commands_of scenario b) (length s.finished) ≡ Some command → HasComeTo (facts_of seen b) command s → RunsRightly scenario seen b s command

-- where its running command is judged: at the history's end, or before the entries of its end
data Judging (scenario : Scenario) (seen : List Entry) (b : ℕ) (s : Session) (command : Command) : Type 0 where
  Here : length seen ≤ s.judged → TellsStill seen b s command → Judging scenario seen b s command
  Before : is_settled (outcome_of s.left) ≡ true → RunsRightly scenario seen b s command → Judging scenario seen b s command

-- a session whose last entry is the history's last, before it has gone on without entries
record Enters (scenario : Scenario) (seen : List Entry) (b : ℕ) (s : Session) : Type 0 where
  course : EntersCourse scenario seen b s
  finished : PlacedFrom scenario seen b 1 s.finished (commands_of scenario b)
  absent : (command : Command) → slice_get (commands_of scenario b) (length s.finished) ≡ Some command → AbsentServes seen b s
  judging : (command : Command) → slice_get (commands_of scenario b) (length s.finished) ≡ Some command → Judging scenario seen b s command
  last : length seen ≤ s.last
  back : (from : ℕ) (command : Command) → last_event_of seen b ≡ Some (events.Gone from) → slice_get (commands_of scenario b) (length s.finished) ≡ Some command → IsOnItsEnd (facts_of seen b) command s

-- the places of a command that is judged among the entries stay with one more
rightly-more : (scenario : Scenario) (seen : List Entry) (e : Entry) (b c : ℕ) (f : Finished) (command : Command) → f.judged ≤ length seen → IsPlacedRightly scenario seen b c f command → IsPlacedRightly scenario (seen ++ e ∷ []) b c f command
rightly-more scenario seen e b c f command place right = subst (λ h. AnswersRightly scenario h b c f command f.refused) (sym (take-append-le f.judged seen (e ∷ []) place)) right

placed_from-more : (scenario : Scenario) (seen : List Entry) (e : Entry) (b c : ℕ) (finished : List Finished) (commands : List Command) → All (λ f. f.judged ≤ length seen) finished → PlacedFrom scenario seen b c finished commands → PlacedFrom scenario (seen ++ e ∷ []) b c finished commands
placed_from-more scenario seen e b c [] commands places right = tt
placed_from-more scenario seen e b c (f ∷ finished) [] places right = tt
placed_from-more scenario seen e b c (f ∷ finished) (command ∷ commands) places right =
    (rightly-more scenario seen e b c f command (places 0 f (omega arith)) right.0, placed_from-more scenario seen e b (c + 1) finished commands (λ i d within. places (suc i) d (omega (arith, within))) right.1)

-- one more command that is finished
placed_from-push : (scenario : Scenario) (seen : List Entry) (b c : ℕ) (finished : List Finished) (f : Finished) (commands : List Command) (command : Command) → slice_get commands (length finished) ≡ Some command
    → PlacedFrom scenario seen b c finished commands → IsPlacedRightly scenario seen b (c + length finished) f command → PlacedFrom scenario seen b c (finished ++ f ∷ []) commands
placed_from-push scenario seen b c [] f [] command at right now = tt
placed_from-push scenario seen b c [] f (x ∷ commands) command at right now =
    let same : command ≡ x = cc at in let here : c + 0 ≡ c = omega arith in (subst (λ y. IsPlacedRightly scenario seen b c f y) same (subst (λ n. IsPlacedRightly scenario seen b n f command) here now), tt)
placed_from-push scenario seen b c (g ∷ finished) f [] command at right now = tt
placed_from-push scenario seen b c (g ∷ finished) f (x ∷ commands) command at right now =
    let here : c + suc (length finished) ≡ c + 1 + length finished = omega arith in
    (right.0, placed_from-push scenario seen b (c + 1) finished f commands command at right.1 (subst (λ n. IsPlacedRightly scenario seen b n f command) here now))

-- where an act left that no relation has a name, the scan of the name is usable
absent_usable : (seen : List Entry) (b : ℕ) (s : Session) (command : Command) (act : Act) (rest : List Row → Plan) (given : List Row) → FollowsPlan seen b s command → s.left ≡ Do act rest → IsDoneHere (facts_of seen b) s act rest given
    → (name : List ℕ) → rest given ≡ Absent name → is_usable seen b (scans.RelName name) ≡ true
absent_usable seen b s command act rest given follows at done name absent =
    let same : fails.name ≡ name = (let both : Absent fails.name ≡ Absent name = sym fails.is ∙ absent in cc both) in
    subst (λ n. is_usable seen b (scans.RelName n) ≡ true) same (usable_already seen b (scans.RelName fails.name) (subst (λ a. act_owed (facts_of seen b) (Do a rest) ≡ []) fails.lookup done.owed))
  where
    fails : FailsToFind seen b act rest given
    fails = there_or_fails seen b s command act rest given (on_its_way seen b s command act rest follows at) at done (ap is_absent absent)

-- the running command after its silent acts
record Acted (scenario : Scenario) (seen : List Entry) (b : ℕ) (s now : Session) : Type 0 where
  course : EntersCourse scenario seen b now
  finished : now.finished ≡ s.finished
  locks : now.locks ≡ s.locks
  judged : now.judged ≡ s.judged
  last : now.last ≡ s.last
  ended : now.ended ≡ s.ended
  absent : AbsentServes seen b now

acts_serve : (scenario : Scenario) (seen : List Entry) (b : ℕ) (command : Command) (plan : Plan) (s : Session) → HasSession scenario seen b s.locks → slice_get (commands_of scenario b) (length s.finished) ≡ Some command → s.left ≡ plan
    → is_empty (owed_first_in (facts_of seen b) command (work_of s) ++ owed_after (facts_of seen b).due) ≡ true → EntersCourse scenario seen b s → AbsentServes seen b s → Acted scenario seen b s (acted_on (facts_of seen b) plan s)
acts_serve scenario seen b command (Do act rest) s has at left free course absent = by_done (done_here (facts_of seen b) s act (Do act rest)) refl
    (λ given done. acts_serve scenario seen b command (rest given) (act_done act given (rest given) s) (record { played = has.played; session = has.session; is = has.is; holds = has.holds }) at refl free
    (act_enters scenario seen b s command act rest given has at free left done course)
    (λ name is going. absent_usable seen b s command act rest given (course.follows command at) left (is_done_here (facts_of seen b) s act rest given done) name is))
  where
    by_done : (o : Option (List Row)) → done_here (facts_of seen b) s act (Do act rest) ≡ o
        → ((given : List Row) → done_here (facts_of seen b) s act (Do act rest) ≡ Some given → Acted scenario seen b (act_done act given (rest given) s) (acted_on (facts_of seen b) (rest given) (act_done act given (rest given) s)))
        → Acted scenario seen b s (elim o as (λ x. Session) [ None ↦ s | Some given ↦ acted_on (facts_of seen b) (rest given) (act_done act given (rest given) s) ])
    by_done None is more = record { course = course; finished = refl; locks = refl; judged = refl; last = refl; ended = refl; absent = absent }
    by_done (Some given) is more = let later = more given is in record { course = later.course; finished = later.finished; locks = later.locks; judged = later.judged; last = later.last; ended = later.ended; absent = later.absent }
acts_serve scenario seen b command plan s has at left free course absent = record { course = course; finished = refl; locks = refl; judged = refl; last = refl; ended = refl; absent = absent }

acted_serves : (scenario : Scenario) (seen : List Entry) (b : ℕ) (command : Command) (s : Session) → HasSession scenario seen b s.locks → slice_get (commands_of scenario b) (length s.finished) ≡ Some command → EntersCourse scenario seen b s → AbsentServes seen b s
    → Acted scenario seen b s (acted (facts_of seen b) command s)
acted_serves scenario seen b command s has at course absent = by_test (is_empty (owed_first_in (facts_of seen b) command (work_of s) ++ owed_after (facts_of seen b).due)) refl
  where
    by_test : (t : Bool) → is_empty (owed_first_in (facts_of seen b) command (work_of s) ++ owed_after (facts_of seen b).due) ≡ t → Acted scenario seen b s (elim t as (λ x. Session) [ true ↦ acted_on (facts_of seen b) s.left s | false ↦ s ])
    by_test true free = acts_serve scenario seen b command s.left s has at refl free course absent
    by_test false owed = record { course = course; finished = refl; locks = refl; judged = refl; last = refl; ended = refl; absent = absent }

-- the last entry is over as it was
over_same : (o : Option Event) (s later : Session) → later.ended ≡ s.ended → is_over o later ≡ is_over o s
over_same (Some (events.Gone from)) s later same = refl
over_same o s later same = same

-- a command that has come to its answer names its places rightly
comes_rightly : (scenario : Scenario) (seen : List Entry) (b : ℕ) (command : Command) (s now : Session) → now ≡ acted (facts_of seen b) command s → HasSession scenario seen b s.locks → slice_get (commands_of scenario b) (length s.finished) ≡ Some command → Judging scenario seen b s command
    → Acted scenario seen b s now → HasComeTo (facts_of seen b) command now → RunsRightly scenario seen b now command
comes_rightly scenario seen b command s now is has at (Before out right) acts come = subst (λ x. RunsRightly scenario seen b x command) (sym (is ∙ acted-out (facts_of seen b) command s out)) right
comes_rightly scenario seen b command s now is has at (Here judged stands) acts come =
    subst (λ h. AnswersRightly scenario h b (number_of now) (finished_as now) command now.refused) (sym (take_all now.judged seen (omega (arith, judged, acts.judged))))
    (answers_rightly scenario seen b now command
    (has_come_out scenario seen b now command (record { played = has.played; session = has.session; is = has.is; holds = has.holds ∙ sym acts.locks }) (acts.course.follows command (ap (λ l. slice_get (commands_of scenario b) (length l)) acts.finished ∙ at))
    come.out (still stands) acts.course.kinds come.owes)
    (λ name missed. acts.absent name missed (going name missed (still stands))))
  where
    still : TellsStill seen b s command → TellsStill seen b now command
    still (inl going) = inl (over_same (last_event_of seen b) s now acts.ended ∙ going)
    still (inr alone) = inr (subst (λ x. TellsAlone seen b x command) (sym (is ∙ acted-out (facts_of seen b) command s (ap (λ p. is_settled (outcome_of p)) alone.left))) alone)

    going : (name : List ℕ) → now.left ≡ Absent name → TellsStill seen b now command → is_over (last_event_of seen b) now ≡ false
    going name missed (inl goes) = goes
    going name missed (inr alone) = absurd (let both : Absent name ≡ Done alone.told = sym missed ∙ alone.left in cc both)

-- after its silent acts, and the passing over of commands that are finished
settled_serves : (scenario : Scenario) (seen : List Entry) (b : ℕ) (left : List Command) (s : Session) → HasSession scenario seen b s.locks → left ≡ drop (length s.finished) (commands_of scenario b) → Enters scenario seen b s → Serves scenario seen b (settled (facts_of seen b) left s)
settled_serves scenario seen b [] s has are enters = record {
  finished = enters.finished;
  absent = λ command at. absurd (none_left command at);
  running = λ command at come. absurd (none_left command at);
}
  where
    none_left : (command : Command) → slice_get (commands_of scenario b) (length s.finished) ≡ Some command → ⊥
    none_left command at = let both : None ≡ Some command = ap first_of are ∙ first_left (commands_of scenario b) (length s.finished) ∙ at in cc both
settled_serves scenario seen b (command ∷ rest) s has are enters = by_end (is_finished_in facts command (work_of now)) refl (settled_serves scenario seen b rest next)
  where
    facts : Facts
    facts = facts_of seen b

    now : Session
    now = acted facts command s

    next : Session
    next = next_session command (first_of rest) now

    at : slice_get (commands_of scenario b) (length s.finished) ≡ Some command
    at = sym (first_left (commands_of scenario b) (length s.finished)) ∙ ap first_of (sym are)

    acts : Acted scenario seen b s now
    acts = acted_serves scenario seen b command s has at enters.course (enters.absent command at)

    here : slice_get (commands_of scenario b) (length now.finished) ≡ Some command
    here = ap (λ l. slice_get (commands_of scenario b) (length l)) acts.finished ∙ at

    come : HasComeTo facts command now → RunsRightly scenario seen b now command
    come comes = comes_rightly scenario seen b command s now refl has at (enters.judging command at) acts comes

    finished_now : PlacedFrom scenario seen b 1 now.finished (commands_of scenario b)
    finished_now = subst (λ l. PlacedFrom scenario seen b 1 l (commands_of scenario b)) (sym acts.finished) enters.finished

    never : is_finished_in facts command (work_of now) ≡ true → (from : ℕ) → last_event_of seen b ≡ Some (events.Gone from) → ⊥
    never finished from gone = let on = enters.back from command gone at in both_ways (is_finished_in facts command (work_of s)) on.going (ap (λ x. is_finished_in facts command (work_of x)) (sym (acted-out facts command s on.out)) ∙ finished)

    begins_over : ((from : ℕ) → last_event_of seen b ≡ Some (events.Gone from) → ⊥) → (o : Option Event) → last_event_of seen b ≡ o → is_over o next ≡ false
    begins_over none (Some (events.Gone from)) is = absurd (none from is)
    begins_over none o is = refl

    goes_on : is_finished_in facts command (work_of now) ≡ true → Enters scenario seen b next
    goes_on finished = record {
      course = finish_enters scenario seen b now command rest (are ∙ ap (λ l. drop (length l) (commands_of scenario b)) (sym acts.finished)) finished acts.course;
      finished = placed_from-push scenario seen b 1 now.finished (finished_as now) (commands_of scenario b) command here finished_now
          (let same : number_of now ≡ 1 + length now.finished = omega arith in subst (λ n. IsPlacedRightly scenario seen b n (finished_as now) command) same (come (finished_comes facts command now finished)));
      absent = λ other there name missed going. absurd (both_ways _ (not_absent (blocks_after command now) (opens_after command now) (first_of rest)) (ap is_absent missed));
      judging = λ other there. Here (omega (arith, enters.last, acts.last)) (inl (begins_over (never finished) (last_event_of seen b) refl));
      last = omega (arith, enters.last, acts.last);
      back = λ from other gone there. absurd (never finished from gone);
    }

    by_end : (t : Bool) → is_finished_in facts command (work_of now) ≡ t → (HasSession scenario seen b next.locks → rest ≡ drop (length next.finished) (commands_of scenario b) → Enters scenario seen b next → Serves scenario seen b (settled facts rest next))
        → Serves scenario seen b (elim t as (λ x. Session) [ true ↦ settled facts rest next | false ↦ now ])
    by_end true finished more = more (record { played = has.played; session = has.session; is = has.is; holds = has.holds ∙ sym acts.locks })
        (rest_left (commands_of scenario b) (length s.finished) command rest are ∙ ap (λ n. drop n (commands_of scenario b)) (sym (length_push now.finished (finished_as now) ∙ ap (λ l. length l + 1) acts.finished))) (goes_on finished)
    by_end false going more = record {
      finished = finished_now;
      absent = λ other there. acts.absent;
      running = λ other there. subst (λ c. HasComeTo facts c now → RunsRightly scenario seen b now c) (let both : Some command ≡ Some other = sym here ∙ there in cc both) come;
    }

-- with an entry after which its plan isn't that of a lookup that found nothing
there_serves : (seen : List Entry) (b : ℕ) (later : Session) → is_absent later.left ≡ false → AbsentServes seen b later
there_serves seen b later there name missed going = absurd (both_ways _ there (ap is_absent missed))

-- with a fetch a lookup that found no relation is made anew
resumed_there : (seen : List Entry) (b : ℕ) (s : Session) (command : Command) (plan : Plan) → FollowsPlan seen b s command → s.left ≡ plan → is_absent (resumed plan s).left ≡ false
resumed_there seen b s command (Absent name) follows at = ap is_absent (follows.sought name at).looks
resumed_there seen b s command (Done told) follows at = ap is_absent at
resumed_there seen b s command (Fails error) follows at = ap is_absent at
resumed_there seen b s command (Do act rest) follows at = ap is_absent at

-- a lock is asked for, or given back, by an act
lock_there : (facts : Facts) (plan : Plan) (rel : Oid) (mode : Mode) → IsLock facts plan rel mode → is_absent plan ≡ false
lock_there facts (Absent name) rel mode asks = absurd asks
lock_there facts (Done told) rel mode asks = refl
lock_there facts (Fails error) rel mode asks = refl
lock_there facts (Do act rest) rel mode asks = refl

unlock_there : (facts : Facts) (taken : Option Oid) (plan : Plan) (rel : Oid) (mode : Mode) → IsUnlock facts taken plan rel mode → is_absent plan ≡ false
unlock_there facts taken (Absent name) rel mode asks = absurd asks
unlock_there facts taken (Done told) rel mode asks = refl
unlock_there facts taken (Fails error) rel mode asks = refl
unlock_there facts taken (Do act rest) rel mode asks = refl

-- so the scan of a name that no relation had is usable after each entry that may come next
module _ (history : List Entry) (b : ℕ) (s later : Session) (command : Command) (follows : FollowsPlan history b s command) (serves : AbsentServes history b s) where
  -- where it leaves the plan and the scans
  still_serves : (event : Event) → FollowsGone (last_event_of history b) event → IsQuiet event → later.left ≡ s.left → later.ended ≡ s.ended
      → ((name : List ℕ) → is_usable (with_entry history b (number_of s) event) b (scans.RelName name) ≡ is_usable history b (scans.RelName name)) → AbsentServes (with_entry history b (number_of s) event) b later
  still_serves event gone quiet left ended usable name missed going = usable name ∙ serves name (sym left ∙ missed) (by_over (is_over (last_event_of history b) s) refl)
    where
      after : is_over (Some event) later ≡ false
      after = ap (λ o. is_over o later) (sym (last_event_of-own history (entry_of b (number_of s) event) b (eq-eqb b b refl))) ∙ going

      by_over : (t : Bool) → is_over (last_event_of history b) s ≡ t → t ≡ false
      by_over false is = refl
      by_over true is = absurd (both_ways _ after (over_stays (last_event_of history b) event s later gone quiet ended is))

  -- or takes something of the command back, or releases it
  over_serves : (event : Event) → is_over (Some event) later ≡ true → AbsentServes (with_entry history b (number_of s) event) b later
  over_serves event over name missed going = absurd (both_ways _ (ap (λ o. is_over o later) (sym (last_event_of-own history (entry_of b (number_of s) event) b (eq-eqb b b refl))) ∙ going) over)

  absent_more : (event : Event) → MayPlay (next_oid history) (facts_of history b) command s event → FollowsGone (last_event_of history b) event → IsNoted (noted event s) later → AbsentServes (with_entry history b (number_of s) event) b later
  absent_more (events.Fetch count) plays gone is = there_serves (with_entry history b (number_of s) (events.Fetch count)) b later (ap is_absent is.after.left ∙ resumed_there history b s command s.left follows refl)
  absent_more events.FetchReset plays gone is = there_serves (with_entry history b (number_of s) events.FetchReset) b later (ap is_absent is.after.left ∙ resumed_there history b s command s.left follows refl)
  absent_more (events.Scan scan count) plays gone is = there_serves (with_entry history b (number_of s) (events.Scan scan count)) b later (ap is_absent is.after.left ∙ scan_there (facts_of history b) s scan s.left refl plays.1)
  absent_more (events.LockOk rel mode) plays gone is = there_serves (with_entry history b (number_of s) (events.LockOk rel mode)) b later (ap is_absent is.after.left ∙ lock_there (facts_of history b) s.left rel mode plays.2)
  absent_more (events.Unlock rel mode) plays gone is = there_serves (with_entry history b (number_of s) (events.Unlock rel mode)) b later (ap is_absent is.after.left ∙ unlock_there (facts_of history b) s.taken s.left rel mode plays.1)
  absent_more (events.LockHeld rel mode holder held) plays gone is = there_serves (with_entry history b (number_of s) (events.LockHeld rel mode holder held)) b later (ap is_absent is.after.left)
  absent_more (events.ClashRow name rel) plays gone is = there_serves (with_entry history b (number_of s) (events.ClashRow name rel)) b later (ap is_absent is.after.left)
  absent_more (events.ClashRunning name xid) plays gone is = there_serves (with_entry history b (number_of s) (events.ClashRunning name xid)) b later (ap is_absent is.after.left)
  absent_more (events.Write xid items) plays gone is = there_serves (with_entry history b (number_of s) (events.Write xid items)) b later (ap is_absent is.after.left ∙ write_there (next_oid history) history b s command items follows plays.1)
  absent_more (events.Gone from) plays gone is = over_serves (events.Gone from) refl
  absent_more (events.Release from) plays gone is = over_serves (events.Release from) is.ended
  absent_more (events.Look some_wait) plays gone is = still_serves (events.Look some_wait) gone tt is.after.left is.ended (λ name. is_usable-own history (entry_of b (number_of s) (events.Look some_wait)) b (scans.RelName name) (eq-eqb b b refl))
  absent_more (events.Visible xid) plays gone is = still_serves (events.Visible xid) gone tt is.after.left is.ended (λ name. is_usable-own history (entry_of b (number_of s) (events.Visible xid)) b (scans.RelName name) (eq-eqb b b refl))
  absent_more (events.Publish count) plays gone is = still_serves (events.Publish count) gone tt is.after.left is.ended (λ name. is_usable-own history (entry_of b (number_of s) (events.Publish count)) b (scans.RelName name) (eq-eqb b b refl))
  absent_more event plays gone is = absurd plays

-- an entry of a command's end comes where it may
end_plays : (next : ℕ) (facts : Facts) (command : Command) (s : Session) (event : Event) → ends_command event ≡ true → MayPlay next facts command s event → IsEnd facts command s event
end_plays next facts command s (events.Visible xid) ends plays = plays
end_plays next facts command s (events.Publish count) ends plays = plays
end_plays next facts command s (events.Release from) ends plays = plays
end_plays next facts command s (events.Gone from) ends plays = plays
end_plays next facts command s event ends plays = absurd (cc ends)

-- the session that an own entry leaves, before it has gone on
module _ (scenario : Scenario) (history : List Entry) (b : ℕ) (event : Event) (s : Session) (session : session_of scenario history b ≡ Some s) (may : MayCome history (entry_of b (number_of s) event))
    (plays : MayPlayIn (next_oid history) (facts_of history b) (slice_get (commands_of scenario b) (length s.finished)) s event) (course : IsOnCourse scenario history b s) (serves : Serves scenario history b s) where
  abbrev e : Entry
  e = entry_of b (number_of s) event

  abbrev new : List Entry
  new = with_entry history b (number_of s) event

  abbrev left : List Command
  left = commands_left scenario b s

  abbrev later : Session
  later = entered (facts_of new b) left (length history + 1) (number_of s) event s

  noted_is : IsNoted (noted event s) later
  noted_is = entered_noted (facts_of new b) left (length history + 1) (number_of s) event s

  finished_same : later.finished ≡ s.finished
  finished_same = noted_is.after.finished ∙ noted_finished event s

  was_at : (command : Command) → slice_get (commands_of scenario b) (length later.finished) ≡ Some command → slice_get (commands_of scenario b) (length s.finished) ≡ Some command
  was_at command here = ap (λ l. slice_get (commands_of scenario b) (length l)) (sym finished_same) ∙ here

  plays_at : (command : Command) → slice_get (commands_of scenario b) (length s.finished) ≡ Some command → MayPlay (next_oid history) (facts_of history b) command s event
  plays_at command at = subst (λ o. MayPlayIn (next_oid history) (facts_of history b) o s event) at plays

  last_is : last_event_of new b ≡ Some event
  last_is = last_event_of-own history e b (eq-eqb b b refl)

  judging : (command : Command) → slice_get (commands_of scenario b) (length s.finished) ≡ Some command → Judging scenario new b later command
  judging command at = by_end (ends_command event) refl
    where
      by_ended : ends_command event ≡ false → (t : Bool) → s.ended ≡ t → TellsStill new b later command
      by_ended inside false going = inl (ap (λ o. is_over o later) last_is ∙ inside_stands event s later inside noted_is.ended going)
      by_ended inside true over = inr (alone_on_course scenario history b event s may plays course command at over)

      by_end : (t : Bool) → ends_command event ≡ t → Judging scenario new b later command
      by_end false inside = Here (omega (arith, length_push history e, judged_here (facts_of new b) left (length history + 1) (number_of s) event s inside)) (by_ended inside s.ended refl)
      by_end true ends = Before (ap (λ p. is_settled (outcome_of p)) (noted_is.after.left ∙ plan_left event s ends) ∙ come.out)
          (subst (λ n. IsPlacedRightly scenario new b n (finished_as later) command) (ap (λ l. length l + 1) (sym finished_same))
          (subst (λ f. IsPlacedRightly scenario new b (number_of s) f command) (sym (judged_still (facts_of new b) left (length history + 1) (number_of s) event s ends))
          (rightly-more scenario history e b (number_of s) (finished_as s) command (session_placed scenario history b s session).judged (serves.running command at come))))
        where
          come : HasComeTo (facts_of history b) command s
          come = end_comes (facts_of history b) history b command s event (course.follows command at) (end_plays (next_oid history) (facts_of history b) command s event ends (plays_at command at))

  enters : Enters scenario new b later
  enters = record {
    course = enters_on_course scenario history b event s may plays course;
    finished = subst (λ l. PlacedFrom scenario new b 1 l (commands_of scenario b)) (sym finished_same) (placed_from-more scenario history e b 1 s.finished (commands_of scenario b) (session_placed scenario history b s session).finished serves.finished);
    absent = λ command here. absent_more history b s later command (course.follows command (was_at command here)) (serves.absent command (was_at command here)) event (plays_at command (was_at command here)) may.comes.follows.gone noted_is;
    judging = λ command here. judging command (was_at command here);
    last = omega (arith, length_push history e, entered_last (facts_of new b) left (length history + 1) (number_of s) event s);
    back = λ from command gone here. gone_on (next_oid history) (facts_of history b) (facts_of new b) command s left (length history + 1) (number_of s) from event (let both : Some event ≡ Some (events.Gone from) = sym last_is ∙ gone in cc both)
        (plays_at command (was_at command here)) (ap (λ f. f.running) (facts_of-own history e b (eq-eqb b b refl)));
  }

-- each backend that has started
abbrev ServesAt : Scenario → List Entry → ℕ → Option Session → Type 0
ServesAt scenario history b None = ⊤
ServesAt scenario history b (Some s) = Serves scenario history b s

abbrev AllServe : Scenario → List Entry → Type 0
AllServe scenario history = (b : ℕ) → ServesAt scenario history b (session_of scenario history b)

-- it starts so
starts_serving : (scenario : Scenario) (history : List Entry) (b c : ℕ) (event : Event) → IsPlayed scenario (with_entry history b c event) → session_of scenario (with_entry history b c event) b ≡ session_then scenario history b c event None → IsStart event
    → ((n : ℕ) → has_written history b n ≡ false) → ServesAt scenario (with_entry history b c event) b (session_then scenario history b c event None)
starts_serving scenario history b c events.Start played is start none =
    settled_serves scenario new b commands first (record { played = played; session = settled (facts_of new b) commands first; is = is; holds = settled-locks (facts_of new b) commands first }) refl (record {
      course = begins_on_course scenario new b no_block none_open [] [] (length history + 1) commands refl (λ n after. has_written-quiet history (entry_of b c events.Start) b n refl ∙ none n) refl tt;
      finished = tt;
      absent = λ command at. there_serves new b first (not_absent no_block none_open (first_of commands));
      judging = λ command at. Here (omega (arith, length_push history (entry_of b c events.Start))) (inl (ap (λ o. is_over o first) last_is));
      last = omega (arith, length_push history (entry_of b c events.Start));
      back = λ from command gone at. absurd (let both : Some events.Start ≡ Some (events.Gone from) = sym last_is ∙ gone in cc both);
    })
  where
    new : List Entry
    new = with_entry history b c events.Start

    commands : List Command
    commands = commands_of scenario b

    first : Session
    first = at_command no_block none_open [] [] (length history + 1) (first_of commands)

    last_is : last_event_of new b ≡ Some events.Start
    last_is = last_event_of-own history (entry_of b c events.Start) b (eq-eqb b b refl)
starts_serving scenario history b c event played is start none = absurd start

-- and goes on so
goes_serving : (scenario : Scenario) (history : List Entry) (b : ℕ) (event : Event) (s : Session) → IsPlayed scenario (with_entry history b (number_of s) event) → MayCome history (entry_of b (number_of s) event) → session_of scenario history b ≡ Some s
    → session_of scenario (with_entry history b (number_of s) event) b ≡ session_then scenario history b (number_of s) event (Some s) → MayPlayIn (next_oid history) (facts_of history b) (slice_get (commands_of scenario b) (length s.finished)) s event
    → IsOnCourse scenario history b s → Serves scenario history b s → ServesAt scenario (with_entry history b (number_of s) event) b (session_then scenario history b (number_of s) event (Some s))
goes_serving scenario history b events.Start s played may session is plays course serves = absurd (no_start (next_oid history) (facts_of history b) _ s plays)
goes_serving scenario history b event s played may session is plays course serves =
    settled_serves scenario new b left later (record { played = played; session = settled (facts_of new b) left later; is = is; holds = settled-locks (facts_of new b) left later })
    (ap (λ l. drop (length l) (commands_of scenario b)) (sym (noted_is.after.finished ∙ noted_finished event s)))
    (enters scenario history b event s session may plays course serves)
  where
    new : List Entry
    new = with_entry history b (number_of s) event

    left : List Command
    left = commands_left scenario b s

    later : Session
    later = entered (facts_of new b) left (length history + 1) (number_of s) event s

    noted_is : IsNoted (noted event s) later
    noted_is = entered_noted (facts_of new b) left (length history + 1) (number_of s) event s

own_serves : (scenario : Scenario) (history : List Entry) (b c : ℕ) (event : Event) (o : Option Session) → IsPlayed scenario (with_entry history b c event) → MayCome history (entry_of b c event) → session_of scenario history b ≡ o
    → session_of scenario (with_entry history b c event) b ≡ session_then scenario history b c event o → MayPlayAt scenario history b o c event → CourseOf scenario history b o → ServesAt scenario history b o
    → ServesAt scenario (with_entry history b c event) b (session_then scenario history b c event o)
own_serves scenario history b c event None played may session is plays course serves = starts_serving scenario history b c event played is plays course
own_serves scenario history b c event (Some s) played may session is plays course serves =
    subst (λ n. IsPlayed scenario (with_entry history b n event) → MayCome history (entry_of b n event) → session_of scenario (with_entry history b n event) b ≡ session_then scenario history b n event (Some s)
    → ServesAt scenario (with_entry history b n event) b (session_then scenario history b n event (Some s))) (sym plays.0)
    (λ played' may' is'. goes_serving scenario history b event s played' may' session is' plays.1 course serves) played may is

-- another's entry leaves it so
other_serves : (scenario : Scenario) (history : List Entry) (e : Entry) (b : ℕ) (o : Option Session) → (e.backend == b) ≡ false → session_of scenario history b ≡ o → ServesAt scenario history b o → ServesAt scenario (history ++ e ∷ []) b o
other_serves scenario history e b None other session serves = tt
other_serves scenario history e b (Some s) other session serves = record {
  finished = placed_from-more scenario history e b 1 s.finished (commands_of scenario b) placed.finished serves.finished;
  absent = λ command at name missed going. is_usable-other history e b (scans.RelName name) other ∙ serves.absent command at name missed (ap (λ last. is_over last s) (sym (last_event_of-other history e b other)) ∙ going);
  running = λ command at come. rightly-more scenario history e b (number_of s) (finished_as s) command placed.judged (serves.running command at (subst (λ facts. HasComeTo facts command s) (facts_of-other history e b other) come));
}
  where
    placed : ArePlaced (length history) s
    placed = session_placed scenario history b s session

-- so it is of each backend after each entry
serves_more : (scenario : Scenario) (history : List Entry) (e : Entry) → IsPlayed scenario history → IsPlayed scenario (history ++ e ∷ []) → AllOnCourse scenario history → MayFollow history e → IsNext scenario history e → AllServe scenario history → AllServe scenario (history ++ e ∷ [])
serves_more scenario history e played later courses follows next serves b = by_owner (e.backend == b) refl
  where
    kept : KeepsAllBy history e.backend e.event
    kept = next_keeps scenario history e played courses next

    may : MayCome history e
    may = record { sound = played.sound; comes = record { follows = follows; orderly = kept.orderly }; columns = played.columns; keeps = kept.columns }

    by_owner : (t : Bool) → (e.backend == b) ≡ t → ServesAt scenario (history ++ e ∷ []) b (session_of scenario (history ++ e ∷ []) b)
    by_owner true own = subst (λ o. ServesAt scenario (history ++ e ∷ []) o (session_of scenario (history ++ e ∷ []) o)) (eqb-true e.backend b own) (
        subst (ServesAt scenario (history ++ e ∷ []) e.backend) (sym (session_is scenario history e.backend e.command e.event))
        (own_serves scenario history e.backend e.command e.event (session_of scenario history e.backend) later may refl (session_is scenario history e.backend e.command e.event) next.1 (courses e.backend) (serves e.backend)))
    by_owner false other = subst (ServesAt scenario (history ++ e ∷ []) b) (sym (session_of-other scenario history e b other)) (other_serves scenario history e b (session_of scenario history b) other refl (serves b))

-- of what holds of each history that a script allows, as far as it goes
record Stands (scenario : Scenario) (history : List Entry) : Type 0 where
  played : IsPlayed scenario history
  courses : AllOnCourse scenario history
  serves : AllServe scenario history

stands : (scenario : Scenario) (history : List Entry) → AreSpelled scenario → IsAllowed scenario history → Stands scenario history
stands scenario history spelled allowed = each-keeps (λ before e. MayFollow before e × IsNext scenario before e) (Stands scenario) first more history (EachFrom-both MayFollow (IsNext scenario) [] history (legal_follows history allowed.legal) allowed.plays)
  where
    first : Stands scenario []
    first = let start = played_start scenario spelled in record { played = start.0; courses = start.1; serves = λ b. tt }

    more : (before : List Entry) (e : Entry) → Stands scenario before → MayFollow before e × IsNext scenario before e → Stands scenario (before ++ e ∷ [])
    more before e now may = let later = played_more scenario before e now.played now.courses may.0 may.1 in record { played = later.0; courses = later.1; serves = serves_more scenario before e now.played later.0 now.courses may.0 may.1 now.serves }

-- each `as of P` of an allowed history's lines is the place of its backend's last scan of what is told, since which that serves
pub places_usable : (scenario : Scenario) (history : List Entry) → AreSpelled scenario → IsAllowed scenario history → ArePlacesUsable scenario history
places_usable scenario history spelled allowed b = by_session (session_of scenario history b) ((stands scenario history spelled allowed).serves b)
  where
    by_session : (o : Option Session) → ServesAt scenario history b o → PlacedFrom scenario history b 1 (option_map_or (λ (s : Session). s.finished) o []) (commands_of scenario b)
    by_session None serves = tt
    by_session (Some s) serves = serves.finished
