-- What a plan comes to is what it comes to from where its command is, while what its acts gave is so still.
use Rattle.std.proofs.Common.{◌≡◌, ◌∙◌, ℕ, Option, None, List, [], ◌∷◌, ◌++◌, refl, sym, ap}
use Rattle.std.specs.Prelude.{⊤}
use Rattle.base_types.specs.declared.row.Row.TheVariants as rows
use Rattle.ddl_effect.specs.Plans.{Plan, Done, Fails, Absent, Do, Lookup, Open, Search, Read, Lock, Write}
use Rattle.ddl_effect.specs.Commands.{found}
use Rattle.ddl_effect.specs.Effects.{effect_at, row_found}
use Rattle.cacheless.specs.Types.{Oid, Mode, Kind, Row, Purpose}
use Rattle.cacheless.specs.Settled.{class_oid, found_by}
use Rattle.cacheless.specs.ActsDone.{after_given, reached, made_first, made_in, IsStill, IsFirstStill, AreStill}

-- a relation's row, as far as its oid and its kind say
abbrev pub plain_row : Oid → Kind → List Row
plain_row rel kind = rows.Class rel [] kind None ∷ []

-- a plan that goes on from a lookup by the relation that its rows name and its kind alone, or else says that there is none, and from an opening or a further lock whatever it gave
abbrev pub GoesByRelation : Plan → Type 0
GoesByRelation (Do (Lookup name mode) rest) = ((given : List Row) → rest given ≡ found name (λ rel kind. rest (plain_row rel kind)) given) × ((given : List Row) → GoesByRelation (rest given))
GoesByRelation (Do (Open rel kind) rest) = ((given : List Row) → rest given ≡ rest []) × ((given : List Row) → GoesByRelation (rest given))
GoesByRelation (Do (Lock rel mode) rest) = ((given : List Row) → rest given ≡ rest []) × ((given : List Row) → GoesByRelation (rest given))
GoesByRelation (Do (Search scan) rest) = (given : List Row) → GoesByRelation (rest given)
GoesByRelation (Do (Read scan) rest) = (given : List Row) → GoesByRelation (rest given)
GoesByRelation plan = ⊤

-- it does so after an act
pub goes_after : (given : List Row) (plan : Plan) → GoesByRelation plan → GoesByRelation (after_given given plan)
goes_after given (Done told) goes = tt
goes_after given (Fails error) goes = tt
goes_after given (Absent name) goes = tt
goes_after given (Do (Lookup name mode) rest) goes = goes.1 given
goes_after given (Do (Open rel kind) rest) goes = goes.1 given
goes_after given (Do (Search scan) rest) goes = goes given
goes_after given (Do (Read scan) rest) goes = goes given
goes_after given (Do (Lock rel mode) rest) goes = goes.1 given
goes_after given (Do (Write draft) rest) goes = tt

-- and after any acts
pub goes_reached : (gave : List (List Row)) (plan : Plan) → GoesByRelation plan → GoesByRelation (reached gave plan)
goes_reached [] plan goes = goes
goes_reached (given ∷ gave) plan goes = goes_reached gave (after_given given plan) (goes_after given plan goes)

-- a lookup's rows come to what the row of their relation comes to
pub row_still : (now : Purpose → List Row) (name : List ℕ) (mode : Mode) (rest : List Row → Plan) (given : List Row) → ((given : List Row) → rest given ≡ found name (λ rel kind. rest (plain_row rel kind)) given)
    → IsStill now (Lookup name mode) rest given → rest (row_found now (class_oid given)) ≡ rest given
row_still now name mode rest [] goes still = refl
row_still now name mode rest (rows.Class rel own kind fill ∷ more) goes still = ap rest still.are ∙ goes (rows.Class rel still.name kind still.fill ∷ still.more) ∙ sym (goes (rows.Class rel own kind fill ∷ more))
row_still now name mode rest (row ∷ more) goes still = goes [] ∙ sym (goes (row ∷ more))

-- what a plan comes to is what it comes to from where its command is
pub effect_along : (now : Purpose → List Row) (plan : Plan) (gave : List (List Row)) (later : List (Option Oid)) → GoesByRelation plan → AreStill now plan gave
    → effect_at now (made_in found_by gave plan ++ later) plan ≡ effect_at now later (reached gave plan)
effect_along now plan [] later goes still = refl
effect_along now plan (given ∷ gave) later goes still = by_plan plan goes still.0 (effect_along now (after_given given plan) gave later (goes_after given plan goes) still.1)
  where
    by_plan : (p : Plan) → GoesByRelation p → IsFirstStill now p given
        → effect_at now (made_in found_by gave (after_given given p) ++ later) (after_given given p) ≡ effect_at now later (reached gave (after_given given p))
        → effect_at now ((made_first found_by given p ++ made_in found_by gave (after_given given p)) ++ later) p ≡ effect_at now later (reached gave (after_given given p))
    by_plan (Done told) by is same = same
    by_plan (Fails error) by is same = same
    by_plan (Absent name) by is same = same
    by_plan (Do (Lookup name mode) rest) by is same = ap (effect_at now (made_in found_by gave (rest given) ++ later)) (row_still now name mode rest given by.0 is) ∙ same
    by_plan (Do (Open rel kind) rest) by is same = ap (effect_at now (made_in found_by gave (rest given) ++ later)) (sym (by.0 given)) ∙ same
    by_plan (Do (Search scan) rest) by is same = ap (effect_at now (made_in found_by gave (rest given) ++ later)) (sym is) ∙ same
    by_plan (Do (Read scan) rest) by is same = ap (effect_at now (made_in found_by gave (rest given) ++ later)) (sym is) ∙ same
    by_plan (Do (Lock rel mode) rest) by is same = ap (effect_at now (made_in found_by gave (rest given) ++ later)) (sym (by.0 given)) ∙ same
    by_plan (Do (Write draft) rest) by is same = same
