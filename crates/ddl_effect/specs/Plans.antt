-- Plans: what a command does, an act at a time, by the rows that each act gives.
use Rattle.std.specs.Prelude.{ℕ, Bool, true, false, Option, Some, None, List, [], ◌∷◌}
use Rattle.std.specs.List.{cons_option}
use Rattle.base_types.specs.Scans.{build_scans}
use Rattle.base_types.specs.declared.scan.Purpose.TheVariants as scans
use Rattle.ddl_effect.specs.declared.told.Told.TheVariants as tells
use Rattle.ddl_effect.specs.Types.{Oid, Mode, Kind, Row, Purpose, Draft, Told, CommandError}

-- what a command may do: find a relation by its name and lock it, open a descriptor, search a catalog cache, read rows of an open descriptor, lock a further relation, write
pub data Act : Type 0 where
  Lookup : (name : List ℕ) → (mode : Mode) → Act
  Open : (rel : Oid) → (kind : Kind) → Act
  Search : (scan : Purpose) → Act
  Read : (scan : Purpose) → Act
  Lock : (rel : Oid) → (mode : Mode) → Act
  Write : (draft : Draft) → Act

-- what is left of a command: nothing but what it answers, an error, the error that no relation has a name, or an act and what comes after it
pub data Plan : Type 0 where
  Done : (told : Told) → Plan
  Fails : (error : CommandError) → Plan
  Absent : (name : List ℕ) → Plan
  Do : (act : Act) → (rest : List Row → Plan) → Plan

-- it has come to that no relation has a name
abbrev pub is_absent : Plan → Bool
is_absent (Absent name) = true
is_absent plan = false

-- the plan after its first act, which gave these rows
abbrev pub after_act : List Row → Plan → Plan
after_act given (Do act rest) = rest given
after_act given plan = plan

-- the scans on which an act rests
abbrev pub rests_on : Act → List Purpose
rests_on (Lookup name mode) = scans.RelName name ∷ []
rests_on (Open rel kind) = build_scans kind rel
rests_on (Search scan) = scan ∷ []
rests_on (Read scan) = scan ∷ []
rests_on (Lock rel mode) = []
rests_on (Write draft) = []

-- the scan on which an answer rests, if on any: the name of an oid is told as of its scan
abbrev pub told_rests_on : Told → Option Purpose
told_rests_on (tells.Regclass oid) = Some (scans.RelOid oid)
told_rests_on told = None

-- the scans on which a plan rests: those of its next act, or that of its answer
abbrev pub left_rests_on : Plan → List Purpose
left_rests_on (Do act rest) = rests_on act
left_rests_on (Done told) = cons_option (told_rests_on told) []
left_rests_on plan = []
