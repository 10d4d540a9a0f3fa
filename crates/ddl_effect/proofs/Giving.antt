-- What is left of a command once its act gave rows.
use Rattle.std.proofs.Common.{◌≡◌, ◌<◌, ◌≤◌, ◌-◌, ◌∙◌, ℕ, zero, suc, subst, Bool, true, false, Some, None, List, [], ◌∷◌, ◌++◌, length, take, slice_get, get_or, refl, ap, sym, arith, length-append, drop-cons, drop_of_length-le}
use Rattle.std.proofs.Math.Seq.{take-append_seam}
use Rattle.std.proofs.lemmas.List.{take-append-drop}
use Rattle.base_types.specs.declared.command.Command.TheVariants as commands
use Rattle.ddl_effect.specs.declared.step.Step.{Step}
use Rattle.ddl_effect.specs.declared.step.Step.TheVariants as steps
use Rattle.ddl_effect.specs.Types.{Row, Command}
use Rattle.ddl_effect.specs.Plans.{Plan, Done, Fails, Absent, Do, Lookup, Open, Search, Read, Lock, Write, is_absent, after_act}
use Rattle.ddl_effect.specs.Commands.{plan_of}
use Rattle.ddl_effect.specs.Replays.{after_all, step_of}
use Rattle.ddl_effect.specs.Taken.{Taken}
use Rattle.ddl_effect.specs.Courses.{plan_left, plan_before, left_again, unless_absent, after_found, CameBy, IsCourse, is_act, acts_at, acts_by, constraints_read, indexes_read, rows_by, most_rows}
use Rattle.ddl_effect.proofs.Replays.{after_more, after_absent}

-- the same with the rows of one act more
abbrev pub given_more : Taken → List Row → Taken
given_more taken rows = record taken { given = taken.given ++ rows ∷ [] }

-- a plan that has come out is left as it is
out_stays : (plan : Plan) (rows : List Row) → is_act (step_of plan) ≡ false → after_act rows plan ≡ plan
out_stays (Done told) rows out = refl
out_stays (Fails error) rows out = refl
out_stays (Absent name) rows out = refl
out_stays (Do (Lookup name mode) rest) rows out = absurd (cc out)
out_stays (Do (Open rel kind) rest) rows out = absurd (cc out)
out_stays (Do (Search scan) rest) rows out = absurd (cc out)
out_stays (Do (Read scan) rest) rows out = absurd (cc out)
out_stays (Do (Lock rel mode) rest) rows out = absurd (cc out)
out_stays (Do (Write draft) rest) rows out = absurd (cc out)

pub gives_plan : (old new : Taken) (rows : List Row) → (is_act (step_of (plan_left old)) ≡ true → new ≡ given_more old rows) → (is_act (step_of (plan_left old)) ≡ false → new ≡ old) → plan_left new ≡ after_act rows (plan_left old)
gives_plan old new rows on out = by_test (is_act (step_of (plan_left old))) refl
  where
    by_test : (t : Bool) → is_act (step_of (plan_left old)) ≡ t → plan_left new ≡ after_act rows (plan_left old)
    by_test true is = ap plan_left (on is) ∙ after_more old.given rows (plan_of old.opens old.command)
    by_test false is = ap plan_left (out is) ∙ sym (out_stays (plan_left old) rows is)

-- one that has acts left is at an act
at_act : (step : Step) (n : ℕ) → 0 < acts_at step n → (is_act step ≡ true) × (acts_at step n ≡ n)
at_act (steps.Done told) n some = absurd (omega (arith, some))
at_act (steps.Fails error) n some = absurd (omega (arith, some))
at_act (steps.Absent name) n some = absurd (omega (arith, some))
at_act (steps.Lookup name mode) n some = (refl, refl)
at_act (steps.Open rel kind) n some = (refl, refl)
at_act (steps.Search scan) n some = (refl, refl)
at_act (steps.Read scan) n some = (refl, refl)
at_act (steps.Lock rel mode) n some = (refl, refl)
at_act (steps.Write draft) n some = (refl, refl)

at_most : (step : Step) (n : ℕ) → acts_at step n ≤ n
at_most (steps.Done told) n = omega arith
at_most (steps.Fails error) n = omega arith
at_most (steps.Absent name) n = omega arith
at_most (steps.Lookup name mode) n = omega arith
at_most (steps.Open rel kind) n = omega arith
at_most (steps.Search scan) n = omega arith
at_most (steps.Read scan) n = omega arith
at_most (steps.Lock rel mode) n = omega arith
at_most (steps.Write draft) n = omega arith

-- rows that are given make no bound greater
by_more : (given : List (List Row)) (rows : List Row) (k : ℕ) → length rows < most_rows → rows_by (slice_get (given ++ rows ∷ []) k) ≤ rows_by (slice_get given k)
by_more [] rows zero few = omega (arith, few)
by_more [] rows (suc k) few = omega arith
by_more (first ∷ given) rows zero few = omega arith
by_more (first ∷ given) rows (suc k) few = by_more given rows k few

acts_more : (command : Command) (given : List (List Row)) (rows : List Row) → length rows < most_rows → acts_by command (given ++ rows ∷ []) ≤ acts_by command given
acts_more (commands.DropTable name) given rows few = omega (arith, by_more given rows constraints_read few, by_more given rows indexes_read few)
acts_more command given rows few = omega arith

-- as many acts as are left
abbrev pub left_by : Taken → ℕ
left_by taken = acts_at (step_of (plan_left taken)) (acts_by taken.command taken.given - length taken.given)

pub gives_less : (old new : Taken) (rows : List Row) → length rows < most_rows → (is_act (step_of (plan_left old)) ≡ true → new ≡ given_more old rows) → 0 < left_by old → left_by new < left_by old
gives_less old new rows few on some =
    let at : (is_act (step_of (plan_left old)) ≡ true) × (left_by old ≡ acts_by old.command old.given - length old.given) = at_act (step_of (plan_left old)) (acts_by old.command old.given - length old.given) some in
    subst (λ t. left_by t < left_by old) (sym (on at.0))
    (omega (arith, at.1, some, at_most (step_of (plan_left (given_more old rows))) (acts_by old.command (old.given ++ rows ∷ []) - length (old.given ++ rows ∷ [])), acts_more old.command old.given rows few, length-append old.given (rows ∷ [])))

-- the plan before the last act is that before it was given rows
pub before_more : (old : Taken) (rows : List Row) → plan_before (given_more old rows) ≡ plan_left old
before_more old rows = ap (λ g. after_all g (plan_of old.opens old.command)) (ap (λ n. take n (old.given ++ rows ∷ [])) (omega (arith, length-append old.given (rows ∷ []))) ∙ take-append_seam old.given (rows ∷ []))

absent_stays : (given : List (List Row)) (plan : Plan) → is_absent plan ≡ true → is_absent (after_all given plan) ≡ true
absent_stays given (Absent name) is = ap is_absent (after_absent given name)
absent_stays given (Done told) is = absurd (cc is)
absent_stays given (Fails error) is = absurd (cc is)
absent_stays given (Do act rest) is = absurd (cc is)

goes_on : (old new plan : Plan) → is_absent plan ≡ false → unless_absent old new plan ≡ new
goes_on old new (Absent name) is = absurd (cc is)
goes_on old new (Done told) is = refl
goes_on old new (Fails error) is = refl
goes_on old new (Do act rest) is = refl

goes_back : (old new plan : Plan) → is_absent plan ≡ true → unless_absent old new plan ≡ old
goes_back old new (Absent name) is = refl
goes_back old new (Done told) is = absurd (cc is)
goes_back old new (Fails error) is = absurd (cc is)
goes_back old new (Do act rest) is = absurd (cc is)

not_yet : (given : List (List Row)) (plan : Plan) → is_absent (after_all given plan) ≡ false → is_absent plan ≡ false
not_yet given plan is = by_test (is_absent plan) refl
  where
    by_test : (t : Bool) → is_absent plan ≡ t → is_absent plan ≡ false
    by_test false was = was
    by_test true was = absurd (let no : true ≡ false = sym (absent_stays given plan was) ∙ is in cc no)

-- where a relation was found each time, nothing is made anew
pub found_same : (given : List (List Row)) (plan : Plan) → is_absent (after_all given plan) ≡ false → after_found given plan ≡ after_all given plan
found_same [] plan is = refl
found_same (rows ∷ given) plan is = goes_on plan (after_found given (after_act rows plan)) (after_act rows plan) (not_yet given (after_act rows plan) is) ∙ found_same given (after_act rows plan) is

-- a lookup that found no relation is made anew
pub found_before : (given : List (List Row)) (rows : List Row) (plan : Plan) → is_absent (after_all given plan) ≡ false → is_absent (after_act rows (after_all given plan)) ≡ true → after_found (given ++ rows ∷ []) plan ≡ after_all given plan
found_before [] rows plan was is = goes_back plan (after_act rows plan) (after_act rows plan) is
found_before (first ∷ given) rows plan was is = goes_on plan (after_found (given ++ rows ∷ []) (after_act first plan)) (after_act first plan) (not_yet given (after_act first plan) was) ∙ found_before given rows (after_act first plan) was is

-- a plan that isn't absent isn't so where its last lookup is made anew
pub never_absent : (given : List (List Row)) (plan : Plan) → is_absent plan ≡ false → is_absent (after_found given plan) ≡ false
never_absent [] plan is = is
never_absent (rows ∷ given) plan is = by_test (is_absent (after_act rows plan)) refl (never_absent given (after_act rows plan))
  where
    by_test : (t : Bool) → is_absent (after_act rows plan) ≡ t → (is_absent (after_act rows plan) ≡ false → is_absent (after_found given (after_act rows plan)) ≡ false) → is_absent (after_found (rows ∷ given) plan) ≡ false
    by_test true now further = ap is_absent (goes_back plan (after_found given (after_act rows plan)) (after_act rows plan) now) ∙ is
    by_test false now further = ap is_absent (goes_on plan (after_found given (after_act rows plan)) (after_act rows plan) now) ∙ further now

-- a plan that is at an act has found its relations
act_found : (plan : Plan) → is_act (step_of plan) ≡ true → is_absent plan ≡ false
act_found (Absent name) is = absurd (cc is)
act_found (Done told) is = refl
act_found (Fails error) is = refl
act_found (Do act rest) is = refl

pub gives_again : (old new : Taken) (rows : List Row) (name : List ℕ) → (is_act (step_of (plan_left old)) ≡ true → new ≡ given_more old rows) → 0 < left_by old → plan_left new ≡ Absent name → left_again new ≡ plan_left old
gives_again old new rows name on some absent =
    let act : is_act (step_of (plan_left old)) ≡ true = (at_act (step_of (plan_left old)) (acts_by old.command old.given - length old.given) some).0 in
    ap left_again (on act)
    ∙ found_before old.given rows (plan_of old.opens old.command) (act_found (plan_left old) act)
    (ap is_absent (sym (after_more old.given rows (plan_of old.opens old.command)) ∙ sym (ap plan_left (on act)) ∙ absent))

-- the same of a course, by the step before its last act
pub again_by : (taken : Taken) (before : Step) → is_absent (plan_left taken) ≡ true → CameBy (Some before) taken → left_again taken ≡ plan_before taken
again_by taken before missing came = subst (λ g. after_found g (plan_of taken.opens taken.command) ≡ after_all (take (length taken.given - 1) taken.given) (plan_of taken.opens taken.command)) (sym parts)
    (found_before front last (plan_of taken.opens taken.command)
    (act_found (plan_before taken) (ap is_act came.1.1 ∙ came.1.0))
    (ap is_absent (sym (after_more front last (plan_of taken.opens taken.command)) ∙ ap (λ g. after_all g (plan_of taken.opens taken.command)) (sym parts)) ∙ missing))
  where
    front : List (List Row)
    front = take (length taken.given - 1) taken.given

    last : List Row
    last = get_or taken.given (length taken.given - 1) []

    none : length taken.given ≤ suc (length taken.given - 1)
    none = omega (arith, came.0)

    parts : taken.given ≡ front ++ last ∷ []
    parts = sym (take-append-drop (length taken.given - 1) taken.given) ∙ ap (λ l. front ++ l) (drop-cons taken.given (length taken.given - 1) [] (omega (arith, came.0)) ∙ ap (λ l. last ∷ l) (drop_of_length-le taken.given none))

-- a course whose last act is taken back
pub back_course : (taken : Taken) (before : Step) → CameBy (Some before) taken → IsCourse (record taken { given = take (length taken.given - 1) taken.given }) before None
back_course taken before came = record { step = came.1.1; before = found_same (take (length taken.given - 1) taken.given) (plan_of taken.opens taken.command) (act_found (plan_before taken) (ap is_act came.1.1 ∙ came.1.0)) }

-- a plan by its step
pub absent_at : (plan : Plan) (name : List ℕ) → step_of plan ≡ steps.Absent name → is_absent plan ≡ true
absent_at (Absent own) name is = refl
absent_at (Done told) name is = absurd (cc is)
absent_at (Fails error) name is = absurd (cc is)
absent_at (Do (Lookup own mode) rest) name is = absurd (cc is)
absent_at (Do (Open rel kind) rest) name is = absurd (cc is)
absent_at (Do (Search scan) rest) name is = absurd (cc is)
absent_at (Do (Read scan) rest) name is = absurd (cc is)
absent_at (Do (Lock rel mode) rest) name is = absurd (cc is)
absent_at (Do (Write draft) rest) name is = absurd (cc is)

pub not_absent : (plan : Plan) (step : Step) → step_of plan ≡ step → ((name : List ℕ) → step ≡ steps.Absent name → ⊥) → is_absent plan ≡ false
not_absent (Absent name) step is other = absurd (other name (sym is))
not_absent (Done told) step is other = refl
not_absent (Fails error) step is other = refl
not_absent (Do act rest) step is other = refl
