-- A gathering sink: what it tells, and what becomes of its own sink.
use Rattle.std.specs.Prelude.{◌≡◌, Bool, true, false, ℕ, List, Option, None, Some, Result, nat_eq}
use Rattle.std.specs.List.{starts_with}
use Rattle.std.specs.Io.KnownBytes.{append_known}
use Rattle.edge_io.specs.Taken.{Stays, Sends}
use Rattle.edge_io.specs.declared.gathered.GatheringSink.{GatheringSink}

-- whether what a sink has taken begins with what it had taken before; where it tells nothing, it does
abbrev pub begins : Option (List ℕ) → Option (List ℕ) → Bool
begins before None = true
begins None (Some now) = false
begins (Some before) (Some now) = starts_with nat_eq now before

-- the name of the reference to its sink, what that has taken where it tells, and what is held
pub record Gathered : Type 0 where
  pub name : ℕ
  pub behind : Option (List ℕ)
  pub held : List ℕ

-- a gathering sink, seen so
abbrev pub gathered : {K : Type 0} → (K → Option (List ℕ)) → GatheringSink K → Gathered
gathered taken out = record { name = out.sink.ghost_name; behind = taken out.sink.now; held = out.held }

-- what it tells: what its sink has taken, and then what it holds
abbrev pub told_by : Gathered → Option (List ℕ)
told_by out = append_known out.behind out.held

-- its sink is the same, and has lost no byte that it had taken
pub record Stood (old new : Gathered) : Type 0 where
  pub same : new.name ≡ old.name
  pub grows : begins old.behind new.behind ≡ true

-- a whole text was taken or is held, or a prefix of it before its sink failed
pub record Gathers {T E : Type 0} (old new : Gathered) (result : Result T E) (text : List ℕ) : Type 0 where
  pub stood : Stood old new
  pub sent : Sends (told_by old) (told_by new) result text

-- what was held was handed on, or a prefix of it
pub record Flushes (old new : Gathered) : Type 0 where
  pub stood : Stood old new
  pub told : Stays (told_by old) (told_by new)
