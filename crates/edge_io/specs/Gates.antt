-- What a gate is asked and answers, and its count of stops.
use Rattle.std.specs.Prelude.{◌≡◌, ℕ, ◌+◌, ◌-◌, ◌≤◌, if◌then◌else◌, ◌==◌, List, [], ◌∷◌, ◌++◌}
use Rattle.edge_io.specs.Causes.{Rose}
use Rattle.edge_io.specs.declared.gates.Asked.{Asked}
use Rattle.edge_io.specs.declared.gates.Go.{Go}
use Rattle.edge_io.specs.declared.gates.Go.TheVariants.{On, Stop}

-- a count of stops never falls; a stop comes only where it rose, and after any other answer it is as it was
pub record StopHasCause (before now : ℕ) (answer : Go) : Type 0 where
  pub later : before ≤ now
  pub stopped : answer ≡ Stop → Rose before now
  pub steady : answer ≡ On → now ≡ before

-- how many passes a stopping gate has until its stop (0: none is to come), how often it has stopped, and what it was asked
pub record Countdown : Type 0 where
  pub left : ℕ
  pub stops : ℕ
  pub asked : List Asked

-- the gate after one more pass, in which it was asked this
abbrev pub passed : Asked → Countdown → Countdown
passed asked gate = record { left = gate.left - 1; stops = if gate.left == 1 then gate.stops + 1 else gate.stops; asked = gate.asked ++ asked ∷ [] }

-- the answer to one more pass
abbrev pub answer : Countdown → Go
answer gate = if gate.left == 1 then Stop else On
