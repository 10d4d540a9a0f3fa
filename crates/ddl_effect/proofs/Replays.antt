-- What is left of a plan over what its acts gave.
use Rattle.std.proofs.Common.{◌≡◌, ◌<◌, ◌≤◌, ◌+◌, ◌∙◌, ℕ, Option, Some, Result, Ok, Err, List, [], ◌∷◌, ◌++◌, drop, get_or, slice_get, length, refl, ap, sym, add-one, drop-cons, drop_of_length-le}
use Rattle.command_answers.specs.declared.error.CommandError.{CommandError}
use Rattle.ddl_effect.specs.Types.{Oid, Mode, AccessExclusive, Row, Told, Draft, OpenRelation}
use Rattle.ddl_effect.specs.declared.leave.Leave.{Leave}
use Rattle.ddl_effect.specs.declared.leave.Leave.TheVariants as leaves
use Rattle.ddl_effect.specs.declared.step.Step.{Step}
use Rattle.ddl_effect.specs.declared.step.Step.TheVariants as steps
use Rattle.ddl_effect.specs.declared.told.Told.TheVariants as tells
use Rattle.ddl_effect.specs.Parts.{looking_up, altering, altering_index, locking_all, locking_further, if_closed, writing, with_column}
use Rattle.ddl_effect.specs.Indexes.{numbering, numbered_too, adding_index}
use Rattle.ddl_effect.specs.Plans.{Plan, Done, Fails, Absent, after_act}
use Rattle.ddl_effect.specs.Replays.{after_all, step_of, left_at, came_at, Comes, LeftAltering}

-- a plan that has come out stays so
pub after_done : (given : List (List Row)) (told : Told) → after_all given (Done told) ≡ Done told
after_done [] told = refl
after_done (rows ∷ given) told = after_done given told

pub after_fails : (given : List (List Row)) (error : CommandError) → after_all given (Fails error) ≡ Fails error
after_fails [] error = refl
after_fails (rows ∷ given) error = after_fails given error

pub after_absent : (given : List (List Row)) (name : List ℕ) → after_all given (Absent name) ≡ Absent name
after_absent [] name = refl
after_absent (rows ∷ given) name = after_absent given name

pub after_more : (given : List (List Row)) (rows : List Row) (plan : Plan) → after_all (given ++ rows ∷ []) plan ≡ after_act rows (after_all given plan)
after_more [] rows plan = refl
after_more (first ∷ given) rows plan = after_more given rows (after_act first plan)

pub left_table : (opens : List OpenRelation) (name : List ℕ) (mode : Mode) (given : List (List Row)) (leave : Leave) (rest : Oid → Plan) → LeftAltering altering opens name mode given leave
    → left_at leave (step_of (after_all given (looking_up name mode (altering opens name rest)))) ≡ leave
left_table opens name mode given leave rest left = left.stays rest

pub left_index : (opens : List OpenRelation) (name : List ℕ) (mode : Mode) (given : List (List Row)) (leave : Leave) (rest : Oid → Plan) → LeftAltering altering_index opens name mode given leave
    → left_at leave (step_of (after_all given (looking_up name mode (altering_index opens name rest)))) ≡ leave
left_index opens name mode given leave rest left = left.stays rest

-- the items from a place on
next_item : {X : Type 0} (xs : List X) (k : ℕ) (x : X) → k < length xs → x ≡ get_or xs k x → drop k xs ≡ x ∷ drop (k + 1) xs
next_item xs k x within is = drop-cons xs k x within ∙ (λ i. sym is i ∷ drop (sym (add-one k) i) xs)

-- further locks, one after another
pub locks_next : (opens : List OpenRelation) (rels : List Oid) (k : ℕ) (rel : Oid) (draft : Draft) → k < length rels → rel ≡ get_or rels k rel
    → locking_all opens (drop k rels) draft ≡ locking_further rel AccessExclusive (if_closed opens rel (locking_all opens (drop (k + 1) rels) draft))
locks_next opens rels k rel draft within is = ap (λ l. locking_all opens l draft) (next_item rels k rel within is)

pub locks_none : (opens : List OpenRelation) (rels : List Oid) (k : ℕ) (draft : Draft) → length rels ≤ k → locking_all opens (drop k rels) draft ≡ writing draft
locks_none opens rels k draft beyond = ap (λ l. locking_all opens l draft) (drop_of_length-le rels beyond)

-- the columns of an index, one after another
pub numbers_next : (name : List ℕ) (rel : Oid) (columns : List (List ℕ)) (k : ℕ) (column : List ℕ) (nums : List ℕ) → k < length columns → column ≡ get_or columns k column
    → numbering name rel (drop k columns) nums ≡ with_column rel column (numbered_too (numbering name rel (drop (k + 1) columns)) nums)
numbers_next name rel columns k column nums within is = ap (λ l. numbering name rel l nums) (next_item columns k column within is)

pub numbers_none : (name : List ℕ) (rel : Oid) (columns : List (List ℕ)) (k : ℕ) (nums : List ℕ) → length columns ≤ k → numbering name rel (drop k columns) nums ≡ adding_index name rel nums
numbers_none name rel columns k nums beyond = ap (λ l. numbering name rel l nums) (drop_of_length-le columns beyond)

-- a command goes on by the rows of its first act
pub comes_on : (result : Result Step Leave) (given : List (List Row)) (rows : List Row) (left : List (List Row)) (plan next : Plan) → given ≡ rows ∷ left → after_act rows plan ≡ next → Comes result left next → Comes result given plan
comes_on result given rows left plan next gave on comes = ap (λ g. came_at result (step_of (after_all g plan))) gave ∙ ap (λ p. came_at result (step_of (after_all left p))) on ∙ comes

-- it is at the same plan
pub comes_same : (result : Result Step Leave) (given left : List (List Row)) (plan next : Plan) → after_all given plan ≡ after_all left next → Comes result left next → Comes result given plan
comes_same result given left plan next same comes = ap (λ p. came_at result (step_of p)) same ∙ comes

-- it is left at its first act
pub comes_left : (given : List (List Row)) (plan : Plan) (step : Step) → given ≡ [] → step_of plan ≡ step → Comes (Err (leaves.At step)) given plan
comes_left given plan step none is = ap (λ g. came_at (Err (leaves.At step)) (step_of (after_all g plan))) none ∙ ap (λ s. came_at (Err (leaves.At step)) s) is

-- it fails
pub comes_fails : (given : List (List Row)) (plan : Plan) (error : CommandError) → plan ≡ Fails error → Comes (Err (leaves.At (steps.Fails error))) given plan
comes_fails given plan error is = ap (λ p. came_at (Err (leaves.At (steps.Fails error))) (step_of p)) (ap (after_all given) is ∙ after_fails given error)

-- a write that was done
pub comes_wrote : (left : List (List Row)) (rows : List Row) (draft : Draft) → slice_get left 0 ≡ Some rows → Comes (Ok (steps.Done tells.Ok)) left (writing draft)
comes_wrote [] rows draft is = absurd (cc is)
comes_wrote (first ∷ more) rows draft is = ap (λ p. came_at (Ok (steps.Done tells.Ok)) (step_of p)) (after_done more tells.Ok)

pub ruleset settled = (after_done, after_fails, after_absent)
