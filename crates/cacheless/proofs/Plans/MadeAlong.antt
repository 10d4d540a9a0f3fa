-- What the acts of a plan make by the rows of now: what they made on the way of its command, while what they gave is so still. So the locks under which a plan comes to its write are those that its command holds.
use Rattle.std.proofs.Common.{◌≡◌, ◌∙◌, ℕ, Option, List, [], ◌∷◌, ◌++◌, refl, sym, ap, append_assoc, append-nil}
use Rattle.base_types.specs.declared.row.Row.TheVariants as rows
use Rattle.base_types.specs.declared.scan.Purpose.TheVariants as scans
use Rattle.ddl_effect.specs.Plans.{Act, Plan, Done, Fails, Absent, Do, Lookup, Open, Search, Read, Lock, Write}
use Rattle.ddl_effect.specs.Effects.{row_found}
use Rattle.cacheless.specs.Types.{Oid, Mode, Kind, Row, Purpose, Draft, Opening}
use Rattle.cacheless.specs.ActsDone.{LockOn, locks_by, opening_by, after_given, reached, made_first, made_in, IsStill, IsFirstStill, AreStill}
use Rattle.cacheless.specs.Settled.{class_oid, found_by}
use Rattle.cacheless.proofs.Plans.EffectAlong.{GoesByRelation, goes_after, row_still, plain_row}

-- what the acts of a plan before its write make by these rows, where its lookups end with these relations
abbrev pub made_at : {X : Type 0} → (Act → List Row → List X) → (Purpose → List Row) → List (Option Oid) → Plan → List X
made_at makes now found (Done told) = []
made_at makes now found (Fails error) = []
made_at makes now found (Absent name) = []
made_at makes now found (Do (Write draft) rest) = []
made_at makes now [] (Do (Lookup name mode) rest) = makes (Lookup name mode) (now (scans.RelName name)) ++ made_at makes now [] (rest (now (scans.RelName name)))
made_at makes now (rel ∷ found) (Do (Lookup name mode) rest) = makes (Lookup name mode) (row_found now rel) ++ made_at makes now found (rest (row_found now rel))
made_at makes now found (Do (Open rel kind) rest) = makes (Open rel kind) [] ++ made_at makes now found (rest [])
made_at makes now found (Do (Search scan) rest) = makes (Search scan) (now scan) ++ made_at makes now found (rest (now scan))
made_at makes now found (Do (Read scan) rest) = makes (Read scan) (now scan) ++ made_at makes now found (rest (now scan))
made_at makes now found (Do (Lock rel mode) rest) = makes (Lock rel mode) [] ++ made_at makes now found (rest [])

-- the locks under which a plan comes to its effect
abbrev pub locks_at : (Purpose → List Row) → List (Option Oid) → Plan → List LockOn
locks_at now found plan = made_at locks_by now found plan

-- the descriptors that it opens on the way
abbrev pub opens_at : (Purpose → List Row) → List (Option Oid) → Plan → List Opening
opens_at now found plan = made_at opening_by now found plan

-- what is made of the relation that rows begin with, if they do
abbrev pub by_class : {X : Type 0} → (Oid → Kind → List X) → List Row → List X
by_class makes (rows.Class rel own kind fill ∷ more) = makes rel kind
by_class makes given = []

-- what is made of a lookup goes by its relation and the kind alone, and what is made of another act by no rows
pub record IsOfRelations {X : Type 0} (makes : Act → List Row → List X) : Type 0 where
  pub lookup : (name : List ℕ) (mode : Mode) (given : List Row) → makes (Lookup name mode) given ≡ by_class (λ rel kind. makes (Lookup name mode) (plain_row rel kind)) given
  pub opening : (rel : Oid) (kind : Kind) (given : List Row) → makes (Open rel kind) given ≡ makes (Open rel kind) []
  pub search : (scan : Purpose) (given : List Row) → makes (Search scan) given ≡ makes (Search scan) []
  pub reading : (scan : Purpose) (given : List Row) → makes (Read scan) given ≡ makes (Read scan) []
  pub lock : (rel : Oid) (mode : Mode) (given : List Row) → makes (Lock rel mode) given ≡ makes (Lock rel mode) []
  pub writing : (draft : Draft) (given : List Row) → makes (Write draft) given ≡ []

locked_by_class : (name : List ℕ) (mode : Mode) (given : List Row) → locks_by (Lookup name mode) given ≡ by_class (λ rel kind. locks_by (Lookup name mode) (plain_row rel kind)) given
locked_by_class name mode [] = refl
locked_by_class name mode (rows.Class rel own kind fill ∷ more) = refl
locked_by_class name mode (row ∷ more) = refl

pub locks_of_relations : IsOfRelations locks_by
locks_of_relations = record { lookup = locked_by_class; opening = λ rel kind given. refl; search = λ scan given. refl; reading = λ scan given. refl; lock = λ rel mode given. refl; writing = λ draft given. refl }

opened_by_class : (name : List ℕ) (mode : Mode) (given : List Row) → opening_by (Lookup name mode) given ≡ by_class (λ rel kind. opening_by (Lookup name mode) (plain_row rel kind)) given
opened_by_class name mode [] = refl
opened_by_class name mode (rows.Class rel own kind fill ∷ more) = refl
opened_by_class name mode (row ∷ more) = refl

pub opens_of_relations : IsOfRelations opening_by
opens_of_relations = record { lookup = opened_by_class; opening = λ rel kind given. refl; search = λ scan given. refl; reading = λ scan given. refl; lock = λ rel mode given. refl; writing = λ draft given. refl }

-- what is made of a lookup by the row of its relation of now
class_still : {X : Type 0} (makes : Act → List Row → List X) → IsOfRelations makes → (now : Purpose → List Row) (name : List ℕ) (mode : Mode) (rest : List Row → Plan) (given : List Row) → IsStill now (Lookup name mode) rest given
    → makes (Lookup name mode) (row_found now (class_oid given)) ≡ makes (Lookup name mode) given
class_still makes of now name mode rest [] still = refl
class_still makes of now name mode rest (rows.Class rel own kind fill ∷ more) still =
    ap (makes (Lookup name mode)) still.are ∙ of.lookup name mode (rows.Class rel still.name kind still.fill ∷ still.more) ∙ sym (of.lookup name mode (rows.Class rel own kind fill ∷ more))
class_still makes of now name mode rest (row ∷ more) still = of.lookup name mode [] ∙ sym (of.lookup name mode (row ∷ more))

-- what is made from the plan's beginning is what its acts made, and then what is made from where its command is
pub made_along : {X : Type 0} (makes : Act → List Row → List X) → IsOfRelations makes → (now : Purpose → List Row) (plan : Plan) (gave : List (List Row)) (later : List (Option Oid)) → GoesByRelation plan → AreStill now plan gave
    → made_at makes now (made_in found_by gave plan ++ later) plan ≡ made_in makes gave plan ++ made_at makes now later (reached gave plan)
made_along makes of now plan [] later goes still = refl
made_along makes of now plan (given ∷ gave) later goes still = by_plan plan goes still.0 (made_along makes of now (after_given given plan) gave later (goes_after given plan goes) still.1)
  where
    both : (front own : List _) (p : Plan) → own ≡ front → made_at makes now (made_in found_by gave p ++ later) p ≡ made_in makes gave p ++ made_at makes now later (reached gave p)
        → own ++ made_at makes now (made_in found_by gave p ++ later) p ≡ (front ++ made_in makes gave p) ++ made_at makes now later (reached gave p)
    both front own p is same = ap (λ l. l ++ made_at makes now (made_in found_by gave p ++ later) p) is ∙ ap (λ l. front ++ l) same ∙ sym (append_assoc front (made_in makes gave p) (made_at makes now later (reached gave p)))

    by_plan : (p : Plan) → GoesByRelation p → IsFirstStill now p given
        → made_at makes now (made_in found_by gave (after_given given p) ++ later) (after_given given p) ≡ made_in makes gave (after_given given p) ++ made_at makes now later (reached gave (after_given given p))
        → made_at makes now ((made_first found_by given p ++ made_in found_by gave (after_given given p)) ++ later) p ≡ (made_first makes given p ++ made_in makes gave (after_given given p)) ++ made_at makes now later (reached gave (after_given given p))
    by_plan (Done told) by is same = same
    by_plan (Fails error) by is same = same
    by_plan (Absent name) by is same = same
    by_plan (Do (Lookup name mode) rest) by is same =
        ap (λ p. makes (Lookup name mode) (row_found now (class_oid given)) ++ made_at makes now (made_in found_by gave (rest given) ++ later) p) (row_still now name mode rest given by.0 is)
        ∙ both (makes (Lookup name mode) given) (makes (Lookup name mode) (row_found now (class_oid given))) (rest given) (class_still makes of now name mode rest given is) same
    by_plan (Do (Open rel kind) rest) by is same = ap (λ p. makes (Open rel kind) [] ++ made_at makes now (made_in found_by gave (rest given) ++ later) p) (sym (by.0 given))
        ∙ both (makes (Open rel kind) given) (makes (Open rel kind) []) (rest given) (sym (of.opening rel kind given)) same
    by_plan (Do (Search scan) rest) by is same = ap (λ p. makes (Search scan) (now scan) ++ made_at makes now (made_in found_by gave (rest given) ++ later) p) (sym is)
        ∙ both (makes (Search scan) given) (makes (Search scan) (now scan)) (rest given) (of.search scan (now scan) ∙ sym (of.search scan given)) same
    by_plan (Do (Read scan) rest) by is same = ap (λ p. makes (Read scan) (now scan) ++ made_at makes now (made_in found_by gave (rest given) ++ later) p) (sym is)
        ∙ both (makes (Read scan) given) (makes (Read scan) (now scan)) (rest given) (of.reading scan (now scan) ∙ sym (of.reading scan given)) same
    by_plan (Do (Lock rel mode) rest) by is same = ap (λ p. makes (Lock rel mode) [] ++ made_at makes now (made_in found_by gave (rest given) ++ later) p) (sym (by.0 given))
        ∙ both (makes (Lock rel mode) given) (makes (Lock rel mode) []) (rest given) (sym (of.lock rel mode given)) same
    by_plan (Do (Write draft) rest) by is same = same ∙ ap (λ l. (l ++ made_in makes gave (Do (Write draft) rest)) ++ made_at makes now later (reached gave (Do (Write draft) rest))) (sym (of.writing draft given))

-- a command that is about to write: what its plan's acts make is what they made
pub made_before : {X : Type 0} (makes : Act → List Row → List X) → IsOfRelations makes → (now : Purpose → List Row) (plan : Plan) (gave : List (List Row)) (draft : Draft) (rest : List Row → Plan) → GoesByRelation plan → AreStill now plan gave → reached gave plan ≡ Do (Write draft) rest
    → made_at makes now (made_in found_by gave plan) plan ≡ made_in makes gave plan
made_before makes of now plan gave draft rest goes still on =
    ap (λ l. made_at makes now l plan) (sym (append-nil (made_in found_by gave plan))) ∙ made_along makes of now plan gave [] goes still
    ∙ ap (λ p. made_in makes gave plan ++ made_at makes now [] p) on ∙ append-nil (made_in makes gave plan)
