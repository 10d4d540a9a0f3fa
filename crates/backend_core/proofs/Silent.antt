-- What a backend does without an entry.
use Rattle.std.proofs.Common.{◌≡◌, ◌+◌, ◌∙◌, ◌&&◌, ◌||◌, is_none, Bool, true, false, Option, Some, None, Result, Ok, Err, OnOk, List, [], ◌∷◌, ◌++◌, refl, sym, ap, subst, length, slice_get, ℕ, arith, ◌⊎◌, inl, inr}
use Rattle.std.proofs.lemmas.Bool.{both_ways, and_parts}
use Rattle.ddl_effect.specs.Commands.{commands_of}
use Rattle.history_model.specs.Lives.{life_of}
use Rattle.cacheless.specs.Facts.{Facts, facts_of}
use Rattle.cacheless.specs.Holds.{Holds, HasActed, HasPassed}
use Rattle.cacheless.specs.OnCourse.{EntersCourse, TellsAlone, FollowsPlan}
use Rattle.cacheless.specs.Answering.{IsToldText}
use Rattle.cacheless.specs.Session.{Session, at_command, outcome_of, is_settled}
use Rattle.cacheless.specs.Silently.{is_to_answer, IsSettled, Acts, Answers, HasAnswered, IsLineOf}
use Rattle.cacheless.specs.Owed.{owed_first_in, owed_after}
use Rattle.cacheless.specs.State.{kept_at, session_at, is_absent, owes_nothing}
use Rattle.cacheless.proofs.Allowed.TransactionsKept.{transactions_kept}
use Rattle.cacheless.proofs.Resting.{free_now}
use Rattle.history_model.specs.Changing.{is_empty}
use Rattle.cacheless.proofs.Answers.Telling.{told_asked, act_absent, act_tells, act_lines, with_answer, answer_holds, answer_tells, answer_absent, pass_absent, pass_tells, pass_lines}
use Rattle.backend_core.specs.Types.{Row, Command, Scenario, Entry, Line, Progress, Backend, Frame}
use Rattle.backend_core.specs.Agrees.{RunsFit, command_at, AgreesNow, GoesOn, AwaitsEntry}
use Rattle.backend_core.specs.Halts.{AwaitsCommand, begins_at}
use Rattle.backend_core.proofs.Cutting.Before.{before_act, before_pass, ends_pass}
use Rattle.backend_core.proofs.Fitting.FitsOn.{fits_act, fits_pass, fits_quieter}
use Rattle.backend_core.proofs.Fitting.Sought.{no_class, unfound_facts, unfound_held}
use Rattle.backend_core.specs.Fits.{Fits, finds_no_name}
use Rattle.backend_core.specs.Words.{relation_named, is_unfound, finds_none}
use Rattle.base_types.specs.declared.row.Row.TheVariants as rows
use Rattle.base_types.specs.declared.scan.Purpose.TheVariants as scans
use Rattle.ddl_effect.specs.Plans.{Act, Plan, Do, Lookup}
use Rattle.ddl_effect.specs.Stages.{plan_at}
use Rattle.cacheless.specs.Types.{Mode}
use Rattle.cacheless.specs.Work.{work_of}
use Rattle.cacheless.specs.Settled.{act_done, class_oid, is_finished_in, next_session, if_locked, has_accepted_in, looked_up_in}
use Rattle.cacheless.proofs.Plans.SilentActs.{IsDoneHere, is_done_here, lookup_says, gives_class, kept_already, there_or_fails, on_its_way}
use Rattle.local_caches.specs.Kept.{is_kept, rows_kept}

-- a command whose next act is done without an entry hasn't made its release
acts_going : (scenario : Scenario) (seen : List Entry) (b : ℕ) (s : Session) (command : Command) → EntersCourse scenario seen b s → slice_get (commands_of scenario b) (length s.finished) ≡ Some command → is_settled (outcome_of s.left) ≡ false → s.ended ≡ false
acts_going scenario seen b s command course at unsettled = by_ended s.ended refl
  where
    by_ended : (t : Bool) → s.ended ≡ t → s.ended ≡ false
    by_ended false is = is
    by_ended true is = by_side (course.ends command at is)
      where
        by_side : (is_finished_in (facts_of seen b) command (work_of s) ≡ true) ⊎ TellsAlone seen b s command → s.ended ≡ false
        by_side (inl finished) = absurd (both_ways _ unsettled (and_parts (is_settled (outcome_of s.left)) _ (and_parts (is_settled (outcome_of s.left) && _) _ finished).0).0)
        by_side (inr alone) = absurd (both_ways _ unsettled (ap (λ p. is_settled (outcome_of p)) alone.left))

-- it does an act
act_agrees : (scenario : Scenario) (seen : List Entry) (was : Backend) (p : Progress) (keeps told : Bool) → told ≡ was.told && keeps → (now : AgreesNow scenario seen was) → Acts was.progress → HasActed scenario seen was.progress now.holds p → kept_at p ≡ kept_at was.progress → p.answer ≡ was.progress.answer → AgreesNow scenario seen (record was { progress = p; told = told })
act_agrees scenario seen was p keeps told quiet now acts acted kept same = record {
  keeps = record {
    alive = now.keeps.alive;
    life = record { last = now.keeps.life.last; alive = ap (life_of seen) acted.moves.id ∙ now.keeps.life.alive; most = omega (arith, now.keeps.life.most, acted.moves.finished) };
    absent = act_absent scenario seen was.progress p now.holds now.tells.course acted kept;
  };
  holds = acted.holds;
  runs = then RunsFit (subst (λ o. RunsFit facts o (act_done acted.act acted.given (acted.further acted.given) s)) (sym acted.at)
      ((transactions_kept scenario).acts facts acted.command s acted.act acted.further acted.given acted.left free acted.gives (subst (λ o. RunsFit facts o s) acted.at now.runs)));
  fits = then (λ f o x. Fits f o x was.looked was.frames told) (fits_quieter facts (command_at was) (act_done acted.act acted.given (acted.further acted.given) s) was.looked was.frames was.told keeps told quiet
      (fits_act facts (command_at was) s was.looked was.frames was.told acted.act acted.further acted.given acted.left going (is_done_here facts s acted.act acted.further acted.given acted.gives) says now.fits));
  tells = act_tells scenario seen was.progress p now.holds now.tells acted same;
  lines = act_lines scenario seen was.progress p now.holds acted was.lines now.lines;
  before = before_act scenario seen was.progress p now.holds acted now.before;
}
  where
    s : Session
    s = session_at was.progress now.holds.rest

    facts : Facts
    facts = facts_of seen was.progress.id

    then : (Held : Facts → Option Command → Session → Type 0) → Held facts (command_at was) (act_done acted.act acted.given (acted.further acted.given) s) → Held (facts_of seen p.id) (slice_get p.commands p.finished) (session_at p acted.holds.rest)
    then Held held = subst (λ b. Held (facts_of seen b) (slice_get p.commands p.finished) (session_at p acted.holds.rest)) (sym acted.moves.id)
        (subst (λ o. Held facts o (session_at p acted.holds.rest)) (sym (λ i. slice_get (acted.moves.commands i) (acted.moves.finished i))) (subst (Held facts (command_at was)) (sym acted.session) held))

    free : is_empty (owed_first_in facts acted.command (work_of s) ++ owed_after facts.due) ≡ true
    free = (free_now facts acted.command was.progress now.holds.rest now.holds.facts (subst (λ c. owes_nothing c was.progress ≡ true) (let both : Some acts.command ≡ Some acted.command = sym acts.at ∙ acted.at in cc both)
        (and_parts (owes_nothing acts.command was.progress) _ acts.acts).0)).first

    at_now : slice_get (commands_of scenario was.progress.id) (length s.finished) ≡ Some acted.command
    at_now = ap (slice_get (commands_of scenario was.progress.id)) now.holds.count ∙ ap (λ l. slice_get l was.progress.finished) (sym now.holds.commands) ∙ acted.at

    says : (name : List ℕ) (mode : Mode) → acted.act ≡ Lookup name mode → class_oid acted.given ≡ None → is_absent (acted.further acted.given) ≡ true
    says name mode is none = lookup_says seen was.progress.id s acted.command name mode acted.further acted.given (now.tells.course.follows acted.command at_now) (acted.left ∙ ap (λ a. Do a acted.further) is) none

    going : s.ended ≡ false
    going = acts_going scenario seen was.progress.id s acted.command now.tells.course
        (ap (slice_get (commands_of scenario was.progress.id)) now.holds.count ∙ ap (λ l. slice_get l was.progress.finished) (sym now.holds.commands) ∙ acted.at) (ap (λ x. is_settled (outcome_of x)) acted.left)

pub act_goes : (was : Backend) (p : Progress) (keeps told : Bool) → told ≡ was.told && keeps → Acts was.progress → ((scenario : Scenario) (seen : List Entry) (held : Holds scenario seen was.progress) → HasActed scenario seen was.progress held p) → kept_at p ≡ kept_at was.progress → p.answer ≡ was.progress.answer
    → (scenario : Scenario) (seen : List Entry) → AgreesNow scenario seen was → GoesOn scenario seen was (record was { progress = p; told = told })
act_goes was p keeps told quiet acts acted kept same scenario seen now = record { agrees = act_agrees scenario seen was p keeps told quiet now acts (acted scenario seen now.holds) kept same; id = (acted scenario seen now.holds).moves.id }

-- a lookup that came to its end without a relation took no lock
accepted : (facts : Facts) (s : Session) (read given : List Row) → if_locked (has_accepted_in facts (work_of s)) read ≡ Some given → is_none s.taken ≡ true
accepted facts s read given gave = by_test (has_accepted_in facts (work_of s)) refl gave
  where
    by_test : (t : Bool) → has_accepted_in facts (work_of s) ≡ t → if_locked t read ≡ Some given → is_none s.taken ≡ true
    by_test true has is = (and_parts (is_none s.taken) _ (and_parts (is_none s.taken && _) _ has).0).0
    by_test false has is = absurd (cc is)

took_none : (facts : Facts) (s : Session) (mode : Mode) (read given : List Row) → class_oid read ≡ None → looked_up_in facts (work_of s) mode read ≡ Some given → is_none s.taken ≡ true
took_none facts s mode [] given none gave = accepted facts s [] given gave
took_none facts s mode (rows.Class rel own kind fill ∷ more) given none gave = absurd (cc none)
took_none facts s mode (row ∷ more) given none gave = accepted facts s (row ∷ []) given gave

no_relation : (given : List Row) → class_oid given ≡ None → is_none (relation_named (slice_get given 0)) ≡ true
no_relation [] none = refl
no_relation (rows.Class rel own kind fill ∷ more) none = absurd (cc none)
no_relation (row ∷ more) none = refl

-- so it has found none
misses : (facts : Facts) (s : Session) (name : List ℕ) (mode : Mode) (rest : List Row → Plan) (given : List Row) → IsDoneHere facts s (Lookup name mode) rest given → class_oid given ≡ None → finds_no_name facts s.taken (Do (Lookup name mode) rest) ≡ true
misses facts s name mode rest given done lost =
    let none = gives_class facts s mode (rows_kept facts.kept (scans.RelName name)) given done.gave ∙ lost in
    λ i. took_none facts s mode (rows_kept facts.kept (scans.RelName name)) given none done.gave i && kept_already (is_kept facts.kept (scans.RelName name)) (scans.RelName name) done.owed i && no_relation (rows_kept facts.kept (scans.RelName name)) none i

-- and one that has found none comes to where the command says so
loses : (facts : Facts) (s : Session) (act : Act) (rest : List Row → Plan) (given : List Row) → IsDoneHere facts s act rest given → ((name : List ℕ) (mode : Mode) → act ≡ Lookup name mode → class_oid given ≡ None → is_absent (rest given) ≡ true) → finds_no_name facts s.taken (Do act rest) ≡ true → is_absent (rest given) ≡ true
loses facts s (Lookup name mode) rest given done says is =
    says name mode refl (sym (gives_class facts s mode (rows_kept facts.kept (scans.RelName name)) given done.gave) ∙ no_class (rows_kept facts.kept (scans.RelName name)) (and_parts (is_none s.taken && is_kept facts.kept (scans.RelName name)) _ is).1)
loses facts s act rest given done says is = absurd (cc is)

both_same : (s t : Bool) → (s ≡ true → t ≡ true) → (t ≡ true → s ≡ true) → s ≡ t
both_same true true there back = refl
both_same true false there back = sym (there refl)
both_same false true there back = back refl
both_same false false there back = refl

-- after an act the command says that a relation is absent where it was that of a lookup which had found none, and after no other
pub act_finds : (scenario : Scenario) (seen : List Entry) (was : Backend) (p : Progress) → (now : AgreesNow scenario seen was) → HasActed scenario seen was.progress now.holds p → finds_none was.progress ≡ is_absent (plan_at p.opens p.exec)
act_finds scenario seen was p now acted = both_same (finds_none was.progress) (is_absent (acted.further acted.given)) found missed ∙ ap (λ (x : Session). is_absent x.left) (sym acted.session)
  where
    facts : Facts
    facts = facts_of seen was.progress.id

    s : Session
    s = session_at was.progress now.holds.rest

    follows : FollowsPlan seen was.progress.id s acted.command
    follows = now.tells.course.follows acted.command (ap (slice_get (commands_of scenario was.progress.id)) now.holds.count ∙ ap (λ l. slice_get l was.progress.finished) (sym now.holds.commands) ∙ acted.at)

    done : IsDoneHere facts s acted.act acted.further acted.given
    done = is_done_here facts s acted.act acted.further acted.given acted.gives

    of_act : finds_none was.progress ≡ is_unfound was.progress (Do acted.act acted.further)
    of_act = ap (λ p. is_absent p || is_unfound was.progress p) acted.left

    says : (name : List ℕ) (mode : Mode) → acted.act ≡ Lookup name mode → class_oid acted.given ≡ None → is_absent (acted.further acted.given) ≡ true
    says name mode is none = lookup_says seen was.progress.id s acted.command name mode acted.further acted.given follows (acted.left ∙ ap (λ a. Do a acted.further) is) none

    found : finds_none was.progress ≡ true → is_absent (acted.further acted.given) ≡ true
    found is = loses facts s acted.act acted.further acted.given done says (unfound_facts facts was.progress (Do acted.act acted.further) now.holds.facts (sym of_act ∙ is))

    missed : is_absent (acted.further acted.given) ≡ true → finds_none was.progress ≡ true
    missed absent = let fails = there_or_fails seen was.progress.id s acted.command acted.act acted.further acted.given (on_its_way seen was.progress.id s acted.command acted.act acted.further follows acted.left) acted.left done absent in
        of_act ∙ unfound_held facts was.progress (Do acted.act acted.further) now.holds.facts (ap (λ a. finds_no_name facts s.taken (Do a acted.further)) fails.lookup
        ∙ misses facts s fails.name fails.mode acted.further acted.given (subst (λ a. IsDoneHere facts s a acted.further acted.given) fails.lookup done) fails.lost)

-- it works out what its command answers
answer_agrees : (scenario : Scenario) (seen : List Entry) (s : Backend) (command : Command) (text : List ℕ) → AgreesNow scenario seen s → command_at s ≡ Some command → is_to_answer command s.progress ≡ true → s.progress.answer ≡ None → IsToldText command s.progress text
    → AgreesNow scenario seen (record s { progress = with_answer s.progress text })
unfolding answer_holds
answer_agrees scenario seen s command text now at asked none told = record {
  keeps = let k = now.keeps in record { alive = k.alive; life = record { last = k.life.last; alive = k.life.alive; most = k.life.most }; absent = answer_absent seen s.progress text k.absent };
  holds = answer_holds scenario seen s.progress text now.holds;
  runs = now.runs;
  fits = now.fits;
  tells = answer_tells scenario seen s.progress command text now.holds now.tells now.keeps.absent at asked none told;
  lines = now.lines;
  before = now.before;
}

pub answer_goes : {E : Type 0} (was : Backend) (p : Progress) (result : Result (Unit {0}) E) → Answers was.progress → OnOk result (HasAnswered was.progress p) → OnOk result ((scenario : Scenario) (seen : List Entry) → AgreesNow scenario seen was → GoesOn scenario seen was (record was { progress = p }))
answer_goes was p (Ok x) asked has = λ scenario seen now. subst (λ x. GoesOn scenario seen was (record was { progress = x })) (sym has.is) (record { agrees = answer_agrees scenario seen was asked.command has.text now asked.at asked.asked asked.none (told_asked was.progress p asked has); id = refl })
answer_goes was p (Err e) asked has = tt

-- its transaction is that of the next command, or of its block still
passed_runs : (scenario : Scenario) (seen : List Entry) (was : Backend) (p : Progress) (now : AgreesNow scenario seen was) (passed : HasPassed scenario seen was.progress now.holds p) (next : Option Command) → RunsFit (facts_of seen was.progress.id) next (next_session passed.command next (session_at was.progress now.holds.rest))
passed_runs scenario seen was p now passed next = (transactions_kept scenario).passes (facts_of seen was.progress.id) passed.command next (session_at was.progress now.holds.rest) passed.over (subst (λ o. RunsFit (facts_of seen was.progress.id) o (session_at was.progress now.holds.rest)) passed.at now.runs)

-- it passes to its next command
pass_agrees : (scenario : Scenario) (seen : List Entry) (was : Backend) (p : Progress) (lines : List Line) (line : Line) (now : AgreesNow scenario seen was) → HasPassed scenario seen was.progress now.holds p → kept_at p ≡ kept_at was.progress → p.answer ≡ None
    → IsLineOf was.progress line → lines ≡ was.lines ++ line ∷ [] → AgreesNow scenario seen (record was { progress = p; lines = lines; looked = false; frames = []; told = false })
pass_agrees scenario seen was p lines line now passed kept none says pushed = record {
  keeps = record {
    alive = now.keeps.alive;
    life = record { last = now.keeps.life.last; alive = ap (life_of seen) passed.id ∙ now.keeps.life.alive; most = omega (arith, now.keeps.life.most, passed.finished) };
    absent = pass_absent scenario seen was.progress p now.holds passed;
  };
  holds = passed.holds;
  runs = then RunsFit (passed_runs scenario seen was p now passed next);
  fits = then (λ f o x. Fits f o x false [] false) (fits_pass facts (command_at was) s was.looked was.frames was.told passed.command next passed.at passed.over now.runs now.fits);
  tells = pass_tells scenario seen was.progress p now.holds now.tells passed none;
  lines = pushed ∙ pass_lines scenario seen was.progress p now.holds now.tells passed was.lines line says now.lines;
  before = before_pass scenario seen was.progress p now.holds passed now.before;
}
  where
    next : Option Command
    next = slice_get was.progress.commands (was.progress.finished + 1)

    facts : Facts
    facts = facts_of seen was.progress.id

    s : Session
    s = session_at was.progress now.holds.rest

    then : (Held : Facts → Option Command → Session → Type 0) → Held facts next (next_session passed.command next s) → Held (facts_of seen p.id) (slice_get p.commands p.finished) (session_at p passed.holds.rest)
    then Held held = subst (λ b. Held (facts_of seen b) (slice_get p.commands p.finished) (session_at p passed.holds.rest)) (sym passed.id)
        (subst (λ o. Held facts o (session_at p passed.holds.rest)) (sym (λ i. slice_get (passed.commands i) (passed.finished i))) (subst (Held facts next) (sym passed.session) held))

pub pass_goes : (was : Backend) (p : Progress) (frames : List Frame) (lines : List Line) (line : Line) → ((scenario : Scenario) (seen : List Entry) (held : Holds scenario seen was.progress) → HasPassed scenario seen was.progress held p) → kept_at p ≡ kept_at was.progress → p.answer ≡ None → frames ≡ [] → IsLineOf was.progress line → lines ≡ was.lines ++ line ∷ []
    → (scenario : Scenario) (seen : List Entry) → AgreesNow scenario seen was → GoesOn scenario seen was (record was { progress = p; lines = lines; looked = false; frames = frames; told = false })
pass_goes was p frames lines line passes kept none bare says pushed scenario seen now = subst (λ l. GoesOn scenario seen was (record was { progress = p; lines = lines; looked = false; frames = l; told = false })) (sym bare)
    (record { agrees = pass_agrees scenario seen was p lines line now (passes scenario seen now.holds) kept none says pushed; id = (passes scenario seen now.holds).id })

-- then it is at the beginning of a command
pass_awaits : (scenario : Scenario) (seen : List Entry) (was : Backend) (p : Progress) (lines : List Line) (line : Line) (now : AgreesNow scenario seen was) → HasPassed scenario seen was.progress now.holds p → kept_at p ≡ kept_at was.progress → p.answer ≡ None
    → IsLineOf was.progress line → lines ≡ was.lines ++ line ∷ [] → AwaitsCommand scenario seen (record was { progress = p; lines = lines; looked = false; frames = []; told = false })
unfolding pass_agrees
pass_awaits scenario seen was p lines line now passed kept none says pushed = record {
  agrees = pass_agrees scenario seen was p lines line now passed kept none says pushed;
  begins = passed.session ∙ at_next next ∙ ap (begins_at p passed.holds.rest) (sym next_command);
  ends = λ part number is. ends_pass scenario seen was.progress p now.holds passed now.before part number is;
  runs = subst (λ f. RunsFit f None (begins_at p passed.holds.rest None)) (sym (ap (facts_of seen) passed.id)) (subst (RunsFit (facts_of seen was.progress.id) None) (at_next None) (passed_runs scenario seen was p now passed None));
  fits = subst (λ f. Fits f None (begins_at p passed.holds.rest None) false [] false) (sym (ap (facts_of seen) passed.id))
      (subst (λ x. Fits (facts_of seen was.progress.id) None x false [] false) (at_next None)
      (fits_pass (facts_of seen was.progress.id) (command_at was) (session_at was.progress now.holds.rest) was.looked was.frames was.told passed.command None passed.at passed.over now.runs now.fits));
  last = now.keeps.life.last;
  alive = ap (life_of seen) passed.id ∙ now.keeps.life.alive;
  before = omega (arith, now.keeps.life.most, passed.finished);
}
  where
    next : Option Command
    next = slice_get was.progress.commands (was.progress.finished + 1)

    next_command : slice_get p.commands p.finished ≡ next
    next_command = ap (λ l. slice_get l p.finished) passed.commands ∙ ap (slice_get was.progress.commands) passed.finished

    at_next : (o : Option Command) → next_session passed.command o (session_at was.progress now.holds.rest) ≡ begins_at p passed.holds.rest o
    at_next o = ap (λ s. at_command s.blocks s.opens s.finished s.locks s.last o) (sym passed.session)

pub pass_comes : (was : Backend) (p : Progress) (frames : List Frame) (lines : List Line) (line : Line) → ((scenario : Scenario) (seen : List Entry) (held : Holds scenario seen was.progress) → HasPassed scenario seen was.progress held p) → kept_at p ≡ kept_at was.progress → p.answer ≡ None → frames ≡ [] → IsLineOf was.progress line → lines ≡ was.lines ++ line ∷ []
    → (scenario : Scenario) (seen : List Entry) → AgreesNow scenario seen was → AwaitsCommand scenario seen (record was { progress = p; lines = lines; looked = false; frames = frames; told = false })
pass_comes was p frames lines line passes kept none bare says pushed scenario seen now = subst (λ l. AwaitsCommand scenario seen (record was { progress = p; lines = lines; looked = false; frames = l; told = false })) (sym bare)
    (pass_awaits scenario seen was p lines line now (passes scenario seen now.holds) kept none says pushed)

-- where nothing is left to be done without an entry it waits for one
pub rest_awaits : (scenario : Scenario) (seen : List Entry) (s : Backend) → AgreesNow scenario seen s → IsSettled s.progress → AwaitsEntry scenario seen s
rest_awaits scenario seen s now settled = record {
  keeps = now.keeps;
  rests = record { holds = now.holds; still = settled.still };
  runs = now.runs;
  fits = now.fits;
  tells = now.tells.tells;
  lines = now.lines;
  answered = settled.answered;
  before = now.before;
}
