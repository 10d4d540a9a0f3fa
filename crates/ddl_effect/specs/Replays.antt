-- What a command comes to over what its acts gave so far.
use Rattle.std.specs.Prelude.{◌≡◌, ℕ, false, Option, Result, Ok, Err, List, [], ◌∷◌}
use Rattle.std.specs.Borrow.{Bor}
use Rattle.base_types.specs.declared.row.Row.TheVariants.{Class}
use Rattle.ddl_effect.specs.declared.step.Step.{Step}
use Rattle.ddl_effect.specs.declared.step.Step.TheVariants as steps
use Rattle.ddl_effect.specs.declared.leave.Leave.{Leave}
use Rattle.ddl_effect.specs.declared.leave.Leave.TheVariants as leaves
use Rattle.ddl_effect.specs.Types.{Oid, Kind, Mode, Row, Draft, OpenRelation}
use Rattle.ddl_effect.specs.Opens.{has_open}
use Rattle.ddl_effect.specs.Plans.{Plan, Done, Fails, Absent, Do, Lookup, Open, Search, Read, Lock, Write, after_act}
use Rattle.ddl_effect.specs.Parts.{looking_up, locking_all, writing}

-- the plan after its first acts, which gave these rows
abbrev pub after_all : List (List Row) → Plan → Plan
after_all [] plan = plan
after_all (given ∷ more) plan = after_all more (after_act given plan)

-- what a plan does next
abbrev pub step_of : Plan → Step
step_of (Done told) = steps.Done told
step_of (Fails error) = steps.Fails error
step_of (Absent name) = steps.Absent name
step_of (Do (Lookup name mode) rest) = steps.Lookup name mode
step_of (Do (Open rel kind) rest) = steps.Open rel kind
step_of (Do (Search scan) rest) = steps.Search scan
step_of (Do (Read scan) rest) = steps.Read scan
step_of (Do (Lock rel mode) rest) = steps.Lock rel mode
step_of (Do (Write draft) rest) = steps.Write draft

-- a command that is left at a step, unless memory was short
abbrev pub left_at : Leave → Step → Leave
left_at (leaves.At old) step = leaves.At step
left_at leaves.NoMemory step = leaves.NoMemory

-- the same of what came of a command
abbrev pub came_at : Result Step Leave → Step → Result Step Leave
came_at (Ok old) step = Ok step
came_at (Err leave) step = Err (left_at leave step)

-- what a plan does next over what its acts gave, unless memory was short
abbrev pub Comes : Result Step Leave → List (List Row) → Plan → Type 0
Comes result given plan = came_at result (step_of (after_all given plan)) ≡ result

-- an act gave the first of these rows, or it is what comes next
abbrev pub Gives : Step → List (List Row) → List (List Row) → Result (Bor (List Row)) Leave → Type 0
Gives step given left (Ok rows) = given ≡ rows.now ∷ left
Gives step given left (Err leave) = (given ≡ []) × (leave ≡ leaves.At step)

-- the first acts found a relation of this kind that the session hasn't open, and opened its descriptor
pub record HasAltered (kind : Kind) (opens : List OpenRelation) (given left : List (List Row)) (rel : Oid) : Type 0 where
  pub own : List ℕ
  pub fill : Option ℕ
  pub more : List Row
  pub opened : List Row
  pub gave : given ≡ (Class rel own kind fill ∷ more) ∷ opened ∷ left
  pub closed : has_open rel opens ≡ false

-- the acts ended before the descriptor was open: at this step, whatever comes after it
pub record LeftAltering (former : List OpenRelation → List ℕ → (Oid → Plan) → Oid → Kind → Plan) (opens : List OpenRelation) (name : List ℕ) (mode : Mode) (given : List (List Row)) (leave : Leave) : Type 0 where
  pub stays : (rest : Oid → Plan) → left_at leave (step_of (after_all given (looking_up name mode (former opens name rest)))) ≡ leave

-- opened, or stopped before
abbrev pub Alters : (List OpenRelation → List ℕ → (Oid → Plan) → Oid → Kind → Plan) → Kind → List OpenRelation → List ℕ → Mode → List (List Row) → List (List Row) → Result Oid Leave → Type 0
Alters former kind opens name mode given left (Ok rel) = HasAltered kind opens given left rel
Alters former kind opens name mode given left (Err leave) = LeftAltering former opens name mode given leave

-- the first acts locked these relations, which the session hasn't open
pub record HasLocked (opens : List OpenRelation) (rels : List Oid) (given left : List (List Row)) : Type 0 where
  pub on : (draft : Draft) → after_all given (locking_all opens rels draft) ≡ after_all left (writing draft)

-- the acts ended before all of these were locked: at this step, whatever is written then
pub record LeftLocking (opens : List OpenRelation) (rels : List Oid) (given : List (List Row)) (leave : Leave) : Type 0 where
  pub stays : (draft : Draft) → leaves.At (step_of (after_all given (locking_all opens rels draft))) ≡ leave

-- locked, or stopped before
abbrev pub Locks : List OpenRelation → List Oid → List (List Row) → List (List Row) → Result Unit Leave → Type 0
Locks opens rels given left (Ok locked) = HasLocked opens rels given left
Locks opens rels given left (Err leave) = LeftLocking opens rels given leave
