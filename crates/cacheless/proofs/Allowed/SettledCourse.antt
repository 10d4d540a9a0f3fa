-- What a backend does without an entry keeps it on its course: its silent acts, and the passing to the next command.
use Rattle.std.proofs.Common.{◌≡◌, ◌≤◌, ◌+◌, ◌<◌, ◌⊎◌, ◌∙◌, inl, inr, ℕ, Bool, true, false, not, Option, Some, None, List, [], ◌∷◌, ◌++◌, ◌&&◌, ◌||◌, refl, sym, ap, subst, map, append-nil, length, drop, get_or, is_none, slice_get, arith}
use Rattle.std.proofs.lemmas.Bool.{and_parts}
use Rattle.std.proofs.lemmas.List.{drop_more, drop_all, length_push}
use Rattle.std.proofs.lemmas.Option.{slice_get_cases, slice_get_within, get_or_from_slice_get}
use Rattle.lock_modes.specs.Own.{cleared}
use Rattle.std.specs.List.{AllByRecursion}
use Rattle.ddl_effect.specs.Plans.{Act, Plan, Done, Do}
use Rattle.txn_blocks.specs.Blocks.{Blocks, refused_by}
use Rattle.ddl_effect.specs.Commands.{plan_of, commands_of}
use Rattle.history_model.specs.Transactions.{has_written}
use Rattle.history_model.specs.Changing.{is_empty}
use Rattle.cacheless.specs.Types.{Row, Purpose, Scenario, Command, CommandError, OpenRelation, Told, OwnLock, Entry}
use Rattle.cacheless.specs.Facts.{Facts, facts_of}
use Rattle.cacheless.specs.OnCourse.{is_absent, Begun, FollowsPlan, TellsAlone, IsOnCourse, ClearUnlessOwed, EntersCourse, AreOfKinds}
use Rattle.cacheless.specs.Work.{work_of}
use Rattle.cacheless.specs.Owed.{Owes, OwesScan, owed_first_in, owed_after, builds_missing, act_owed, scans_owed_in, owes_build_in, accepts_in}
use Rattle.cacheless.specs.Played.{IsPlayed}
use Rattle.cacheless.specs.Session.{Session, Finished, Outcome, Unsettled, Well, Badly, first_of, held_in, plan_admitted, at_command, outcome_of, is_settled}
use Rattle.cacheless.specs.Sessions.{session_of}
use Rattle.cacheless.specs.Settled.{act_done, done_here, acted_on, acted, is_finished_in, blocks_after, opens_after, finished_as, next_session, settled}
use Rattle.cacheless.specs.Ends.{end_left_in}
use Rattle.cacheless.proofs.Plans.ActOrder.{follows_order}
use Rattle.cacheless.proofs.Plans.UnderLocks.{order_there}
use Rattle.cacheless.proofs.Settling.{acted-out}
use Rattle.cacheless.proofs.Allowed.KindsHeld.{IsOpenKind, act_kinds, begin_kinds, after_kinds}
use Rattle.cacheless.proofs.Plans.SilentActs.{both_empty, empty_list, IsDoneHere, is_done_here, named_there, absent_name, takes_none, act_follows}

-- whether its accept of messages is over doesn't change where an act is done here
pub builds_done : (facts : Facts) (command : Command) (s : Session) → builds_missing facts.kept s.opened ≡ [] → is_empty (owed_first_in facts command (work_of s) ++ owed_after facts.due) ≡ true → accepts_in facts (work_of s) (Some command) ≡ false
builds_done facts command s builds free =
    ap (λ t. not t || owes_build_in facts (work_of s)) free
    ∙ ap (λ l. elim (outcome_of s.left) as (λ x. Bool) [ Badly ↦ false | other ↦ not (is_empty l) ]) builds ∙ by_outcome (outcome_of s.left)
  where
    by_outcome : (o : Outcome) → elim o as (λ x. Bool) [ Badly ↦ false | other ↦ false ] ≡ false
    by_outcome Unsettled = refl
    by_outcome Well = refl
    by_outcome Badly = refl

-- a played history with the session of a backend, which has these locks
pub record HasSession (scenario : Scenario) (seen : List Entry) (b : ℕ) (locks : List OwnLock) : Type 0 where
  pub played : IsPlayed scenario seen
  pub session : Session
  pub is : session_of scenario seen b ≡ Some session
  pub holds : session.locks ≡ locks

-- the running command after its silent acts
record HasActed (seen : List Entry) (b : ℕ) (command : Command) (s now : Session) : Type 0 where
  follows : FollowsPlan seen b now command
  finished : now.finished ≡ s.finished
  locks : now.locks ≡ s.locks
  ended : now.ended ≡ s.ended
  clear : ClearUnlessOwed (facts_of seen b) (Some command) now
  kinds : AreOfKinds seen now.opens now.opened

-- all acts that are done here keep it on its course
acts_follow : (scenario : Scenario) (seen : List Entry) (b : ℕ) (command : Command) (plan : Plan) (s : Session) → HasSession scenario seen b s.locks → s.left ≡ plan → is_empty (owed_first_in (facts_of seen b) command (work_of s) ++ owed_after (facts_of seen b).due) ≡ true
    → ClearUnlessOwed (facts_of seen b) (Some command) s → FollowsPlan seen b s command → AreOfKinds seen s.opens s.opened → HasActed seen b command s (acted_on (facts_of seen b) plan s)
acts_follow scenario seen b command (Do act rest) s has at free clear follows kinds = by_done (done_here (facts_of seen b) s act (Do act rest)) refl
    (λ given done. acts_follow scenario seen b command (rest given) (act_done act given (rest given) s) (record { played = has.played; session = has.session; is = has.is; holds = has.holds }) refl free (λ owes. cleared_here given done)
    (act_follows scenario seen b s command act rest given (record { played = has.played; session = has.session; is = has.is; holds = has.holds; clear = cleared_here given done }) at (is_done_here (facts_of seen b) s act rest given done) follows) (act_kinds seen b s command act rest given has.played.sound follows at kinds))
  where
    cleared_here : (given : List Row) → done_here (facts_of seen b) s act (Do act rest) ≡ Some given → map cleared s.locks ≡ s.locks
    cleared_here given done = clear (builds_done (facts_of seen b) command s (is_done_here (facts_of seen b) s act rest given done).builds free)

    by_done : (o : Option (List Row)) → done_here (facts_of seen b) s act (Do act rest) ≡ o
        → ((given : List Row) → done_here (facts_of seen b) s act (Do act rest) ≡ Some given → HasActed seen b command (act_done act given (rest given) s) (acted_on (facts_of seen b) (rest given) (act_done act given (rest given) s)))
        → HasActed seen b command s (elim o as (λ x. Session) [ None ↦ s | Some given ↦ acted_on (facts_of seen b) (rest given) (act_done act given (rest given) s) ])
    by_done None is more = record { follows = follows; finished = refl; locks = refl; ended = refl; clear = clear; kinds = kinds }
    by_done (Some given) is more = let later = more given is in record { follows = later.follows; finished = later.finished; locks = later.locks; ended = later.ended; clear = later.clear; kinds = later.kinds }
acts_follow scenario seen b command plan s has at free clear follows kinds = record { follows = follows; finished = refl; locks = refl; ended = refl; clear = clear; kinds = kinds }

acted_follows : (scenario : Scenario) (seen : List Entry) (b : ℕ) (command : Command) (s : Session) → HasSession scenario seen b s.locks → ClearUnlessOwed (facts_of seen b) (Some command) s → FollowsPlan seen b s command → AreOfKinds seen s.opens s.opened
    → HasActed seen b command s (acted (facts_of seen b) command s)
acted_follows scenario seen b command s has clear follows kinds = by_test (is_empty (owed_first_in (facts_of seen b) command (work_of s) ++ owed_after (facts_of seen b).due)) refl
  where
    by_test : (t : Bool) → is_empty (owed_first_in (facts_of seen b) command (work_of s) ++ owed_after (facts_of seen b).due) ≡ t → HasActed seen b command s (elim t as (λ x. Session) [ true ↦ acted_on (facts_of seen b) s.left s | false ↦ s ])
    by_test true free = acts_follow scenario seen b command s.left s has refl free clear follows kinds
    by_test false owed = record { follows = follows; finished = refl; locks = refl; ended = refl; clear = clear; kinds = kinds }

-- a command begins by no lookup that has found nothing
plan_there : (opens : List OpenRelation) (command : Command) → is_absent (plan_of opens command) ≡ false
plan_there opens command = order_there (plan_of opens command) (follows_order opens command)

admitted_there : (opens : List OpenRelation) (refusal : Option CommandError) (command : Command) → is_absent (plan_admitted opens refusal command) ≡ false
admitted_there opens None command = plan_there opens command
admitted_there opens (Some error) command = refl

-- the answer of a command that does no act is left of it, unless the blocks refuse it
admitted_done : (opens : List OpenRelation) (command : Command) (refusal : Option CommandError) (told : Told) → plan_of opens command ≡ Done told → outcome_of (plan_admitted opens refusal command) ≡ Well → plan_admitted opens refusal command ≡ Done told
admitted_done opens command None told is well = is
admitted_done opens command (Some error) told is well = absurd (cc well)

-- a command at its beginning does what its plan says
pub begins_plan : (seen : List Entry) (b : ℕ) (blocks : Blocks) (opens : List OpenRelation) (finished : List Finished) (locks : List OwnLock) (last : ℕ) (command : Command) → has_written seen b (length finished + 1) ≡ false
    → FollowsPlan seen b (at_command blocks opens finished locks last (Some command)) command
begins_plan seen b blocks opens finished locks last command unwritten = record {
  refused = λ error is. ap (λ o. plan_admitted opens o command) is;
  way = λ none. Begun (record { gave = []; plan = ap (λ o. plan_admitted opens o command) none; found = refl; opened = sym (append-nil (held_in blocks.block opens)); holds = record { locked = tt; drawn = tt; still = tt }; newly = takes_none [] (plan_admitted opens (refused_by blocks command) command); unwritten = unwritten });
  named = named_there seen b (plan_admitted opens (refused_by blocks command) command) (admitted_there opens (refused_by blocks command) command);
  sought = λ name is. absurd (let both : true ≡ false = sym (absent_name name (plan_admitted opens (refused_by blocks command) command) is) ∙ admitted_there opens (refused_by blocks command) command in cc both);
  plain = λ told none. record { opened = λ going. refl; left = λ well. admitted_done opens command (refused_by blocks command) told none well };
  admitted = λ none. none;
  held = λ going. record { more = []; opened = sym (append-nil (held_in blocks.block opens)) };
  unwritten = λ told none. unwritten;
}

pub first_left : (commands : List Command) (n : ℕ) → first_of (drop n commands) ≡ slice_get commands n
first_left commands n = by_place (slice_get_cases commands n).1
  where
    by_place : ((x : Command) × (n < length commands) × (slice_get commands n ≡ Some x) × (get_or commands n x ≡ x)) ⊎ ((length commands ≤ n) × (slice_get commands n ≡ None)) → first_of (drop n commands) ≡ slice_get commands n
    by_place (inl (x, within, at, get)) = ap first_of (drop_more commands n x within) ∙ ap Some get ∙ sym at
    by_place (inr (past, none)) = ap first_of (drop_all n commands past) ∙ sym none

pub rest_left : (commands : List Command) (n : ℕ) (command : Command) (rest : List Command) → command ∷ rest ≡ drop n commands → rest ≡ drop (n + 1) commands
rest_left commands n command rest are = let both : command ∷ rest ≡ command ∷ drop (n + 1) commands = are ∙ drop_more commands n command within ∙ ap (λ x. x ∷ drop (n + 1) commands) (get_or_from_slice_get commands n command command at) in cc both
  where
    at : slice_get commands n ≡ Some command
    at = sym (first_left commands n) ∙ ap first_of (sym are)

    within : n < length commands
    within = slice_get_within commands n command at

-- so the session at the beginning of the next command, or after the last one, is on its course
pub begins_on_course : (scenario : Scenario) (seen : List Entry) (b : ℕ) (blocks : Blocks) (opens : List OpenRelation) (finished : List Finished) (locks : List OwnLock) (last : ℕ) (left : List Command) → left ≡ drop (length finished) (commands_of scenario b)
    → ((c : ℕ) → length finished < c → has_written seen b c ≡ false) → map cleared locks ≡ locks → AllByRecursion (IsOpenKind seen) opens → EntersCourse scenario seen b (at_command blocks opens finished locks last (first_of left))
begins_on_course scenario seen b blocks opens finished locks last left are unwritten clear kinds = by_first (first_of left) (ap first_of are ∙ first_left (commands_of scenario b) (length finished))
  where
    by_first : (o : Option Command) → o ≡ slice_get (commands_of scenario b) (length finished) → EntersCourse scenario seen b (at_command blocks opens finished locks last o)
    by_first None is = record { follows = λ command at. absurd (let both : None ≡ Some command = is ∙ at in cc both); ends = λ command at over. absurd (cc); later = λ c after. unwritten c (omega (arith, after)); clear = λ owes. clear; kinds = begin_kinds seen blocks opens kinds }
    by_first (Some first) is = record {
      follows = λ command at. subst (FollowsPlan seen b (at_command blocks opens finished locks last (Some first))) (let both : Some first ≡ Some command = is ∙ at in cc both)
          (begins_plan seen b blocks opens finished locks last first (unwritten (length finished + 1) (omega arith)));
      ends = λ command at over. absurd (cc);
      later = λ c after. unwritten c (omega (arith, after));
      clear = λ owes. clear;
      kinds = begin_kinds seen blocks opens kinds;
    }

-- a command that is finished owes nothing in an accept of messages
finished_accepts : (facts : Facts) (command : Command) (s : Session) → is_finished_in facts command (work_of s) ≡ true → accepts_in facts (work_of s) (Some command) ≡ false
finished_accepts facts command s finished = by_parts (empty_list _ (and_parts (is_settled (outcome_of s.left) && is_none (end_left_in facts command (work_of s))) _ finished).1)
  where
    first : List Owes
    first = owed_first_in facts command (work_of s) ++ owed_after facts.due

    by_outcome : (o : Outcome) → map OwesScan (elim o as (λ x. List Purpose) [ Badly ↦ [] | other ↦ builds_missing facts.kept s.opened ++ act_owed facts s.left ]) ≡ [] → elim o as (λ x. Bool) [ Badly ↦ false | other ↦ not (is_empty (builds_missing facts.kept s.opened)) ] ≡ false
    by_outcome Unsettled none = by_builds (builds_missing facts.kept s.opened) none
      where
        by_builds : (l : List Purpose) → map OwesScan (l ++ act_owed facts s.left) ≡ [] → not (is_empty l) ≡ false
        by_builds [] is = refl
        by_builds (x ∷ xs) is = absurd (cc is)
    by_outcome Well none = by_builds (builds_missing facts.kept s.opened) none
      where
        by_builds : (l : List Purpose) → map OwesScan (l ++ act_owed facts s.left) ≡ [] → not (is_empty l) ≡ false
        by_builds [] is = refl
        by_builds (x ∷ xs) is = absurd (cc is)
    by_outcome Badly none = refl

    by_parts : first ++ map OwesScan (scans_owed_in facts (work_of s)) ≡ [] → accepts_in facts (work_of s) (Some command) ≡ false
    by_parts none = let both = both_empty first (map OwesScan (scans_owed_in facts (work_of s))) none in ap (λ l. not (is_empty l) || owes_build_in facts (work_of s)) both.0 ∙ by_outcome (outcome_of s.left) both.1

-- a command that is finished has no act to do, and stays finished
finished_stays : (facts : Facts) (command : Command) (s : Session) → is_finished_in facts command (work_of s) ≡ true → is_finished_in facts command (work_of (acted facts command s)) ≡ true
finished_stays facts command s finished =
    ap (λ x. is_finished_in facts command (work_of x)) (acted-out facts command s (and_parts (is_settled (outcome_of s.left)) (is_none (end_left_in facts command (work_of s))) (and_parts (is_settled (outcome_of s.left) && is_none (end_left_in facts command (work_of s))) _ finished).0).0) ∙ finished

-- after its silent acts a session is on its course
pub settled_on_course : (scenario : Scenario) (seen : List Entry) (b : ℕ) (left : List Command) (s : Session) → HasSession scenario seen b s.locks → left ≡ drop (length s.finished) (commands_of scenario b) → EntersCourse scenario seen b s
    → IsOnCourse scenario seen b (settled (facts_of seen b) left s)
settled_on_course scenario seen b [] s has are course = record {
  follows = λ command at. absurd (none_left command at);
  going = λ command at. absurd (none_left command at);
  later = course.later;
  clear = course.clear;
  kinds = course.kinds;
}
  where
    none_left : (command : Command) → slice_get (commands_of scenario b) (length s.finished) ≡ Some command → ⊥
    none_left command at = let both : None ≡ Some command = ap first_of are ∙ first_left (commands_of scenario b) (length s.finished) ∙ at in cc both
settled_on_course scenario seen b (command ∷ rest) s has are course = by_end (is_finished_in (facts_of seen b) command (work_of now)) refl
    (settled_on_course scenario seen b rest (next_session command (first_of rest) now))
  where
    now : Session
    now = acted (facts_of seen b) command s

    at : slice_get (commands_of scenario b) (length s.finished) ≡ Some command
    at = sym (first_left (commands_of scenario b) (length s.finished)) ∙ ap first_of (sym are)

    acts_done : HasActed seen b command s now
    acts_done = acted_follows scenario seen b command s has (subst (λ o. ClearUnlessOwed (facts_of seen b) o s) at course.clear) (course.follows command at) course.kinds

    counts : length now.finished ≡ length s.finished
    counts = ap length acts_done.finished

    over : is_finished_in (facts_of seen b) command (work_of now) ≡ false → s.ended ≡ true → TellsAlone seen b now command
    over unfinished is = by_end (course.ends command at is)
      where
        by_end : (is_finished_in (facts_of seen b) command (work_of s) ≡ true) ⊎ TellsAlone seen b s command → TellsAlone seen b now command
        by_end (inl finished) = absurd (let both : true ≡ false = sym (finished_stays (facts_of seen b) command s finished) ∙ unfinished in cc both)
        by_end (inr alone) = subst (λ x. TellsAlone seen b x command) (sym (acted-out (facts_of seen b) command s (ap (λ p. is_settled (outcome_of p)) alone.left))) alone

    by_end : (t : Bool) → is_finished_in (facts_of seen b) command (work_of now) ≡ t
        → (HasSession scenario seen b now.locks → rest ≡ drop (length (now.finished ++ finished_as now ∷ [])) (commands_of scenario b) → EntersCourse scenario seen b (next_session command (first_of rest) now)
        → IsOnCourse scenario seen b (settled (facts_of seen b) rest (next_session command (first_of rest) now)))
        → IsOnCourse scenario seen b (elim t as (λ x. Session) [ true ↦ settled (facts_of seen b) rest (next_session command (first_of rest) now) | false ↦ now ])
    by_end true finished more = more (record { played = has.played; session = has.session; is = has.is; holds = has.holds ∙ sym acts_done.locks }) next
        (begins_on_course scenario seen b (blocks_after command now) (opens_after command now) (now.finished ++ finished_as now ∷ []) now.locks now.last rest next (λ c after. course.later c (omega (arith, after, counts, length_push now.finished (finished_as now)))) (acts_done.clear (finished_accepts (facts_of seen b) command now finished)) (after_kinds seen command now acts_done.kinds))
      where
        next : rest ≡ drop (length (now.finished ++ finished_as now ∷ [])) (commands_of scenario b)
        next = rest_left (commands_of scenario b) (length s.finished) command rest are ∙ ap (λ n. drop n (commands_of scenario b)) (sym (length_push now.finished (finished_as now) ∙ ap (λ n. n + 1) counts))
    by_end false going more = record {
      follows = λ other here. subst (FollowsPlan seen b now) (let both : Some command ≡ Some other = sym at ∙ ap (slice_get (commands_of scenario b)) (sym counts) ∙ here in cc both) acts_done.follows;
      going = λ other here is. subst (TellsAlone seen b now) (let both : Some command ≡ Some other = sym at ∙ ap (slice_get (commands_of scenario b)) (sym counts) ∙ here in cc both) (over going (sym acts_done.ended ∙ is));
      later = λ c after. course.later c (omega (arith, after, counts));
      clear = subst (λ o. ClearUnlessOwed (facts_of seen b) o now) (sym at ∙ ap (slice_get (commands_of scenario b)) (sym counts)) acts_done.clear;
      kinds = acts_done.kinds;
    }

-- one act that is done here keeps it so
pub act_enters : (scenario : Scenario) (seen : List Entry) (b : ℕ) (s : Session) (command : Command) (act : Act) (rest : List Row → Plan) (given : List Row) → HasSession scenario seen b s.locks → slice_get (commands_of scenario b) (length s.finished) ≡ Some command
    → is_empty (owed_first_in (facts_of seen b) command (work_of s) ++ owed_after (facts_of seen b).due) ≡ true → s.left ≡ Do act rest → done_here (facts_of seen b) s act (Do act rest) ≡ Some given → EntersCourse scenario seen b s → EntersCourse scenario seen b (act_done act given (rest given) s)
act_enters scenario seen b s command act rest given has at free left done course = record {
  follows = λ other here. subst (FollowsPlan seen b (act_done act given (rest given) s)) (let both : Some command ≡ Some other = sym at ∙ here in cc both)
      (act_follows scenario seen b s command act rest given (record { played = has.played; session = has.session; is = has.is; holds = has.holds; clear = clear }) left here_done (course.follows command at));
  ends = λ other here over. absurd (unsettled (course.ends command at over));
  later = course.later;
  clear = λ owes. clear;
  kinds = act_kinds seen b s command act rest given has.played.sound (course.follows command at) left course.kinds;
}
  where
    here_done : IsDoneHere (facts_of seen b) s act rest given
    here_done = is_done_here (facts_of seen b) s act rest given done

    clear : map cleared s.locks ≡ s.locks
    clear = subst (λ o. ClearUnlessOwed (facts_of seen b) o s) at course.clear (builds_done (facts_of seen b) command s here_done.builds free)

    settled_if : is_finished_in (facts_of seen b) command (work_of s) ≡ true → is_settled (outcome_of s.left) ≡ true
    settled_if finished = (and_parts (is_settled (outcome_of s.left)) (is_none (end_left_in (facts_of seen b) command (work_of s))) (and_parts (is_settled (outcome_of s.left) && is_none (end_left_in (facts_of seen b) command (work_of s))) _ finished).0).0

    unsettled : (is_finished_in (facts_of seen b) command (work_of s) ≡ true) ⊎ TellsAlone seen b s command → ⊥
    unsettled (inl finished) = let both : true ≡ false = sym (settled_if finished) ∙ ap (λ p. is_settled (outcome_of p)) left in cc both
    unsettled (inr alone) = let both : Do act rest ≡ Done alone.told = sym left ∙ alone.left in cc both

-- and so does the passing over a command that is finished
pub finish_enters : (scenario : Scenario) (seen : List Entry) (b : ℕ) (s : Session) (command : Command) (rest : List Command) → command ∷ rest ≡ drop (length s.finished) (commands_of scenario b) → is_finished_in (facts_of seen b) command (work_of s) ≡ true → EntersCourse scenario seen b s
    → EntersCourse scenario seen b (next_session command (first_of rest) s)
finish_enters scenario seen b s command rest are finished course =
    begins_on_course scenario seen b (blocks_after command s) (opens_after command s) (s.finished ++ finished_as s ∷ []) s.locks s.last rest
    (rest_left (commands_of scenario b) (length s.finished) command rest are ∙ ap (λ n. drop n (commands_of scenario b)) (sym (length_push s.finished (finished_as s))))
    (λ c after. course.later c (omega (arith, after, length_push s.finished (finished_as s))))
    (subst (λ o. ClearUnlessOwed (facts_of seen b) o s) (sym (first_left (commands_of scenario b) (length s.finished)) ∙ ap first_of (sym are)) course.clear (finished_accepts (facts_of seen b) command s finished)) (after_kinds seen command s course.kinds)
