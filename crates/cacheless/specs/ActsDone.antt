-- What is left of a plan after acts, by the rows that they gave; what these acts made; and that the plan goes on from what they gave as it does from the rows of now.
use Rattle.std.specs.Prelude.{◌≡◌, ◌<◌, ⊤, ℕ, true, Option, List, [], ◌∷◌, ◌++◌}
use Rattle.std.specs.List.{AllByRecursion, flat_map}
use Rattle.base_types.specs.declared.row.Row.TheVariants as rows
use Rattle.base_types.specs.declared.scan.Purpose.TheVariants as scans
use Rattle.lock_modes.specs.Grants.{holds}
use Rattle.history_model.specs.Drawn.{next_oid}
use Rattle.history_model.specs.Held.{held_of}
use Rattle.history_model.specs.Versions.{answer_of}
use Rattle.history_model.specs.Changing.{relations_of}
use Rattle.ddl_effect.specs.Plans.{Act, Lookup, Search, Read, Lock, Write, Plan, Do, after_act}
use Rattle.cacheless.specs.Types.{Oid, Mode, Kind, Row, Purpose, Opening, Entry}
use Rattle.cacheless.specs.Settled.{opened_by}

-- the plan after its first act, which gave these rows; a write isn't passed
abbrev pub after_given : List Row → Plan → Plan
after_given given (Do (Write draft) rest) = Do (Write draft) rest
after_given given plan = after_act given plan

-- the plan after acts that gave these rows, one list an act
abbrev pub reached : List (List Row) → Plan → Plan
reached [] plan = plan
reached (given ∷ gave) plan = reached gave (after_given given plan)

-- what the first act of a plan makes, by the rows that it gave
abbrev pub made_first : {X : Type 0} → (Act → List Row → List X) → List Row → Plan → List X
made_first makes given (Do act rest) = makes act given
made_first makes given plan = []

-- what the acts on the way make
abbrev pub made_in : {X : Type 0} → (Act → List Row → List X) → List (List Row) → Plan → List X
made_in makes [] plan = []
made_in makes (given ∷ gave) plan = made_first makes given plan ++ made_in makes gave (after_given given plan)

-- the descriptor that an act opens, whatever it gave
abbrev pub opening_by : Act → List Row → List Opening
opening_by act given = opened_by act

-- the relation that a lookup found, with its kind
abbrev pub relation_by : Act → List Row → List Opening
relation_by (Lookup name mode) (rows.Class rel own kind fill ∷ more) = record { rel = rel; kind = kind } ∷ []
relation_by act given = []

-- a lock on a relation
pub record LockOn : Type 0 where
  pub rel : Oid
  pub mode : Mode

-- the lock under which an act goes on: a lookup's on the relation that it found, and a further one
abbrev pub locks_by : Act → List Row → List LockOn
locks_by (Lookup name mode) (rows.Class rel own kind fill ∷ more) = record { rel = rel; mode = mode } ∷ []
locks_by (Lock rel mode) given = record { rel = rel; mode = mode } ∷ []
locks_by act given = []

-- the relations that the rows name which an act read
abbrev pub named_by : Act → List Row → List Oid
named_by (Read scan) given = flat_map relations_of given
named_by act given = []

-- the oid is drawn
abbrev pub IsDrawn : List Entry → Oid → Type 0
IsDrawn history rel = rel.0 < next_oid history

-- the lock is held
abbrev pub IsHeldOn : List Entry → ℕ → LockOn → Type 0
IsHeldOn history b o = holds (held_of history) b o.rel o.mode ≡ true

-- rows that begin with a relation's, of this kind; its name and its fillfactor may be any
pub record BeginWith (rel : Oid) (kind : Kind) (given : List Row) : Type 0 where
  pub name : List ℕ
  pub fill : Option ℕ
  pub more : List Row
  pub are : given ≡ rows.Class rel name kind fill ∷ more

-- what an act gave is so still: of a lookup the relation and its kind, and of a scan what the plan goes on with
abbrev pub IsStill : (Purpose → List Row) → Act → (List Row → Plan) → List Row → Type 0
IsStill now (Lookup name mode) rest (rows.Class rel own kind fill ∷ more) = BeginWith rel kind (now (scans.Class rel))
IsStill now (Search scan) rest given = rest given ≡ rest (now scan)
IsStill now (Read scan) rest given = rest given ≡ rest (now scan)
IsStill now act rest given = ⊤

-- the same of the first act of a plan, if there is one
abbrev pub IsFirstStill : (Purpose → List Row) → Plan → List Row → Type 0
IsFirstStill now (Do act rest) given = IsStill now act rest given
IsFirstStill now plan given = ⊤

-- and of each act on the way
abbrev pub AreStill : (Purpose → List Row) → Plan → List (List Row) → Type 0
AreStill now plan [] = ⊤
AreStill now plan (given ∷ gave) = IsFirstStill now plan given × AreStill now (after_given given plan) gave

-- the locks under which a command goes on are held, the relations that it has read of are drawn, and what its acts gave is so still
pub record WayHolds (history : List Entry) (b : ℕ) (gave : List (List Row)) (plan : Plan) : Type 0 where
  pub locked : AllByRecursion (IsHeldOn history b) (made_in locks_by gave plan)
  pub drawn : AllByRecursion (IsDrawn history) (made_in named_by gave plan)
  pub still : AreStill (answer_of history b) plan gave

-- another lock than this one
abbrev pub IsOtherLock : Oid → Mode → LockOn → Type 0
IsOtherLock rel mode o = o.rel ≡ rel → o.mode ≡ mode → ⊥
