-- A command that is given what the rows have for its want comes to the same, and has an act left as long as it wants one.
use Rattle.std.proofs.Common.{◌≡◌, ◌<◌, ◌≤◌, ◌+◌, ℕ, suc, Bool, true, false, not, Option, Ok, List, [], ◌∷◌, ◌++◌, if◌then◌else◌, length, fold, refl, ap, arith, length-append}
use Rattle.std.specs.List.{list_any, flat_map}
use Rattle.base_types.specs.Scans.{same_oid}
use Rattle.base_types.specs.declared.command.Command.TheVariants as commands
use Rattle.base_types.specs.declared.scan.Purpose.TheVariants as scans
use Rattle.base_types.specs.declared.row.ConKind.TheVariants as kinds
use Rattle.base_types.specs.declared.row.Row.TheVariants as rows
use Rattle.command_answers.specs.declared.error.CommandError.{CommandError}
use Rattle.command_answers.specs.declared.error.CommandError.TheVariants as errors
use Rattle.ddl_effect.specs.Types.{Oid, Table, Index, Row, Purpose, Command, Draft, OpenRelation, Want}
use Rattle.ddl_effect.specs.declared.exec.Exec.{Exec}
use Rattle.ddl_effect.specs.declared.exec.Exec.TheVariants as stages
use Rattle.ddl_effect.specs.declared.step.Step.{Step}
use Rattle.ddl_effect.specs.declared.step.Step.TheVariants as steps
use Rattle.ddl_effect.specs.declared.told.Told.TheVariants as tells
use Rattle.ddl_effect.specs.declared.want.Want.TheVariants as wants
use Rattle.ddl_effect.specs.Plans.{Plan, Done, Fails, Absent, Do, Lookup, Open, Search, Read, Lock, Write, after_act, told_rests_on}
use Rattle.ddl_effect.specs.Parts.{if_passes, opening, reading}
use Rattle.ddl_effect.specs.Opens.{has_open}
use Rattle.ddl_effect.specs.Tables.{referred, referred_by, with_relation, index_of, is_of_other, drop_table, drop_indexes}
use Rattle.ddl_effect.specs.Commands.{plan_of}
use Rattle.ddl_effect.specs.Effects.{Effect, Writes, IsEffect, effect_of, given_for, no_changes}
use Rattle.ddl_effect.specs.Replays.{after_all, step_of}
use Rattle.ddl_effect.specs.Courses.{plan_left, is_act, acts_at, acts_by}
use Rattle.ddl_effect.specs.Stages.{want_of, plan_at, acts_left}
use Rattle.ddl_effect.proofs.Within.{IsWithin, within_act, w_locking, few_acts}

pub effect_of-after : (rows : Purpose → List Row) (plan : Plan) (given : List Row) → (want_of plan ≡ wants.Write → ⊥) → given ≡ given_for rows (want_of plan)
    → effect_of rows (after_act given plan) ≡ effect_of rows plan
effect_of-after rows (Done told) given other is = refl
effect_of-after rows (Fails error) given other is = refl
effect_of-after rows (Absent name) given other is = refl
effect_of-after rows (Do (Write draft) rest) given other is = absurd (other refl)
effect_of-after rows (Do (Lookup name mode) rest) given other is = ap (λ l. effect_of rows (rest l)) is
effect_of-after rows (Do (Open rel kind) rest) given other is = ap (λ l. effect_of rows (rest l)) is
effect_of-after rows (Do (Search scan) rest) given other is = ap (λ l. effect_of rows (rest l)) is
effect_of-after rows (Do (Read scan) rest) given other is = ap (λ l. effect_of rows (rest l)) is
effect_of-after rows (Do (Lock rel mode) rest) given other is = ap (λ l. effect_of rows (rest l)) is

-- what a plan comes to that is at its write
pub writes_is : (rows : Purpose → List Row) (plan : Plan) (draft : Draft) → step_of plan ≡ steps.Write draft → effect_of rows plan ≡ Writes draft
writes_is rows (Do (Write own) rest) draft is = ap (λ step. writes step) is
  where
    writes : Step → Effect
    writes (steps.Write d) = Writes d
    writes step = Writes own
writes_is rows (Done told) draft is = absurd (cc is)
writes_is rows (Fails error) draft is = absurd (cc is)
writes_is rows (Absent name) draft is = absurd (cc is)
writes_is rows (Do (Lookup name mode) rest) draft is = absurd (cc is)
writes_is rows (Do (Open rel kind) rest) draft is = absurd (cc is)
writes_is rows (Do (Search scan) rest) draft is = absurd (cc is)
writes_is rows (Do (Read scan) rest) draft is = absurd (cc is)
writes_is rows (Do (Lock rel mode) rest) draft is = absurd (cc is)

-- what a plan comes to that is done
pub done_is : (rows : Purpose → List Row) (plan : Plan) (scan : Option Purpose) (draft : Draft) → want_of plan ≡ wants.Done scan → draft ≡ no_changes → IsEffect (effect_of rows plan) (Ok draft)
done_is rows (Done told) scan draft is none = none
done_is rows (Fails error) scan draft is none = absurd (cc is)
done_is rows (Absent name) scan draft is none = absurd (cc is)
done_is rows (Do (Write own) rest) scan draft is none = absurd (cc is)
done_is rows (Do (Lookup name mode) rest) scan draft is none = absurd (cc is)
done_is rows (Do (Open rel kind) rest) scan draft is none = absurd (cc is)
done_is rows (Do (Search own) rest) scan draft is none = absurd (cc is)
done_is rows (Do (Read own) rest) scan draft is none = absurd (cc is)
done_is rows (Do (Lock rel mode) rest) scan draft is none = absurd (cc is)

-- what a plan wants that has failed
pub fails_is : (plan : Plan) (error : CommandError) → want_of plan ≡ wants.Fails error → plan ≡ Fails error
fails_is (Done told) error is = absurd (cc is)
fails_is (Fails own) error is = ap (λ want. fails want) is
  where
    fails : Want → Plan
    fails (wants.Fails e) = Fails e
    fails want = Done tells.Ok
fails_is (Absent name) error is = absurd (cc is)
fails_is (Do (Lookup name mode) rest) error is = absurd (cc is)
fails_is (Do act rest) error is = absurd (cc is)

pub absent_is : (plan : Plan) (name : List ℕ) → want_of plan ≡ wants.Absent name → plan ≡ Absent name
absent_is (Done told) name is = absurd (cc is)
absent_is (Fails error) name is = absurd (cc is)
absent_is (Absent own) name is = ap (λ want. absent want) is
  where
    absent : Want → Plan
    absent (wants.Absent n) = Absent n
    absent want = Done tells.Ok
absent_is (Do (Lookup own mode) rest) name is = absurd (cc is)
absent_is (Do act rest) name is = absurd (cc is)

-- `drop table` locks no more relations than its constraints and indexes have rows
few_with : (given : List Oid) (rel : Oid) (t : Bool) → length (if t then given else given ++ rel ∷ []) ≤ length given + 1
few_with given rel true = omega arith
few_with given rel false = omega (arith, length-append given (rel ∷ []))

few_folded : (given rels : List Oid) → length (fold with_relation given rels) ≤ length given + length rels
few_folded given [] = omega arith
few_folded given (rel ∷ rels) = omega (arith, few_folded (with_relation given rel) rels, few_with given rel (list_any (same_oid rel) given))

few_keys : (constraints : List Row) → length (flat_map referred_by constraints) ≤ length constraints
few_keys [] = omega arith
few_keys (rows.Con oid rel own valid (kinds.Foreign num refrel refnum) ∷ more) = omega (arith, few_keys more)
few_keys (rows.Con oid rel own valid (kinds.Check text) ∷ more) = omega (arith, few_keys more)
few_keys (rows.Class oid own kind fill ∷ more) = omega (arith, few_keys more)
few_keys (rows.Att rel num own col_type stat live ∷ more) = omega (arith, few_keys more)
few_keys (rows.Def oid rel num word ∷ more) = omega (arith, few_keys more)
few_keys (rows.Ind index table state nums ∷ more) = omega (arith, few_keys more)
few_keys (rows.Trg oid rel own on ∷ more) = omega (arith, few_keys more)

few_indexes : (indexes : List Row) → length (flat_map index_of indexes) ≤ length indexes
few_indexes [] = omega arith
few_indexes (rows.Ind index table state nums ∷ more) = omega (arith, few_indexes more)
few_indexes (rows.Con oid rel own valid what ∷ more) = omega (arith, few_indexes more)
few_indexes (rows.Class oid own kind fill ∷ more) = omega (arith, few_indexes more)
few_indexes (rows.Att rel num own col_type stat live ∷ more) = omega (arith, few_indexes more)
few_indexes (rows.Def oid rel num word ∷ more) = omega (arith, few_indexes more)
few_indexes (rows.Trg oid rel own on ∷ more) = omega (arith, few_indexes more)

few_locks : (constraints indexes : List Row) → length (referred constraints ++ flat_map index_of indexes) ≤ length constraints + length indexes
few_locks constraints indexes = omega (arith, length-append (referred constraints) (flat_map index_of indexes), few_folded [] (flat_map referred_by constraints), few_keys constraints, few_indexes indexes)

w_locked : (opens : List OpenRelation) (rel : Oid) (m : ℕ) (constraints indexes : List Row) → length constraints + length indexes ≤ m → IsWithin (suc (suc (suc (suc m)))) (drop_indexes opens rel constraints indexes)
w_locked opens rel m constraints indexes few = λ defaults. λ triggers. λ columns. w_locking (suc m) opens (referred constraints ++ flat_map index_of indexes) _ (omega (arith, few, few_locks constraints indexes))

w_indexed : (opens : List OpenRelation) (name : List ℕ) (rel : Oid) (m : ℕ) (t : Bool) (constraints indexes : List Row) → length constraints + length indexes ≤ m
    → IsWithin (suc (suc (suc (suc m)))) (after_act indexes (if_passes t (errors.Depends name) (reading (scans.Index rel) (drop_indexes opens rel constraints))))
w_indexed opens name rel m false constraints indexes few = tt
w_indexed opens name rel m true constraints indexes few = w_locked opens rel m constraints indexes few

w_closed : (opens : List OpenRelation) (name : List ℕ) (rel : Oid) (m : ℕ) (t : Bool) (opened constraints indexes : List Row) → length constraints + length indexes ≤ m
    → IsWithin (suc (suc (suc (suc m)))) (after_act indexes (after_act constraints (after_act opened (if_passes t (errors.InUse rel) (opening rel Table (drop_table opens name rel))))))
w_closed opens name rel m false opened constraints indexes few = tt
w_closed opens name rel m true opened constraints indexes few = w_indexed opens name rel m (not (list_any (is_of_other rel) constraints)) constraints indexes few

w_drop : (opens : List OpenRelation) (name : List ℕ) (m : ℕ) (looked opened constraints indexes : List Row) → length constraints + length indexes ≤ m
    → IsWithin (suc (suc (suc (suc m)))) (after_act indexes (after_act constraints (after_act opened (after_act looked (plan_of opens (commands.DropTable name))))))
w_drop opens name m (rows.Class oid own Table fill ∷ more) opened constraints indexes few = w_closed opens name oid m (not (has_open oid opens)) opened constraints indexes few
w_drop opens name m (rows.Class oid own Index fill ∷ more) opened constraints indexes few = tt
w_drop opens name m [] opened constraints indexes few = tt
w_drop opens name m (row ∷ more) opened constraints indexes few = tt

drop_acts : (opens : List OpenRelation) (name : List ℕ) (given : List (List Row)) → is_act (step_of (after_all given (plan_of opens (commands.DropTable name)))) ≡ true → length given < acts_by (commands.DropTable name) given
drop_acts opens name [] is = omega arith
drop_acts opens name (looked ∷ []) is = omega arith
drop_acts opens name (looked ∷ opened ∷ []) is = omega arith
drop_acts opens name (looked ∷ opened ∷ constraints ∷ []) is = omega arith
drop_acts opens name (looked ∷ opened ∷ constraints ∷ indexes ∷ more) is =
    let less : length more < suc (suc (suc (suc (length constraints + length indexes)))) = within_act _ _ more (w_drop opens name (length constraints + length indexes) looked opened constraints indexes (omega arith)) is in
    omega (arith, less)

acts_more : (opens : List OpenRelation) (command : Command) (given : List (List Row)) → is_act (step_of (after_all given (plan_of opens command))) ≡ true → length given < acts_by command given
acts_more opens (commands.DropTable name) given is = drop_acts opens name given is
acts_more opens command given is = within_act 40 (plan_of opens command) given (few_acts opens command refl) is

-- one that hasn't come out has acts left
acts_some_at : (step : Step) (n : ℕ) → is_act step ≡ true → 0 < n → 0 < acts_at step n
acts_some_at (steps.Lookup name mode) n is some = some
acts_some_at (steps.Open rel kind) n is some = some
acts_some_at (steps.Search scan) n is some = some
acts_some_at (steps.Read scan) n is some = some
acts_some_at (steps.Lock rel mode) n is some = some
acts_some_at (steps.Write draft) n is some = some
acts_some_at (steps.Done told) n is some = absurd (cc is)
acts_some_at (steps.Fails error) n is some = absurd (cc is)
acts_some_at (steps.Absent name) n is some = absurd (cc is)

pub acts_some : (opens : List OpenRelation) (exec : Exec) → ((scan : Option Purpose) → want_of (plan_at opens exec) ≡ wants.Done scan → ⊥) → ((error : CommandError) → want_of (plan_at opens exec) ≡ wants.Fails error → ⊥) → ((name : List ℕ) → want_of (plan_at opens exec) ≡ wants.Absent name → ⊥)
    → 0 < acts_left exec
acts_some opens (stages.Done told) done fails absent = absurd (done (told_rests_on told) refl)
acts_some opens (stages.Failing error) done fails absent = absurd (fails error refl)
acts_some opens (stages.Going taken) done fails absent = acts_some_at (step_of (plan_left taken)) _ is (let less : length taken.given < acts_by taken.command taken.given = acts_more taken.opens taken.command taken.given is in omega (arith, less))
  where
    acts : (plan : Plan) → ((scan : Option Purpose) → want_of plan ≡ wants.Done scan → ⊥) → ((error : CommandError) → want_of plan ≡ wants.Fails error → ⊥) → ((name : List ℕ) → want_of plan ≡ wants.Absent name → ⊥) → is_act (step_of plan) ≡ true
    acts (Done told) d f a = absurd (d (told_rests_on told) refl)
    acts (Fails error) d f a = absurd (f error refl)
    acts (Absent name) d f a = absurd (a name refl)
    acts (Do (Lookup name mode) rest) d f a = refl
    acts (Do (Open rel kind) rest) d f a = refl
    acts (Do (Search scan) rest) d f a = refl
    acts (Do (Read scan) rest) d f a = refl
    acts (Do (Lock rel mode) rest) d f a = refl
    acts (Do (Write draft) rest) d f a = refl

    is : is_act (step_of (plan_left taken)) ≡ true
    is = acts (plan_left taken) done fails absent
