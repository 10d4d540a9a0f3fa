-- What a reading function answers that takes memory.
use Rattle.std.specs.Prelude.{◌≡◌, ℕ, ⊤, Option, Some, None, Result, Ok, Err, List}
use Rattle.event_kinds.specs.Events.{EntryFault}
use Rattle.event_kinds.specs.declared.fault.EntryFault.TheVariants as faults

-- nothing is read where the fault is `Bad`
abbrev pub IsNothing : {Y : Type 0} → EntryFault → Option Y → Type 0
IsNothing faults.Bad read = read ≡ None
IsNothing faults.NoMemory read = ⊤

-- what a function returned, and what it left, is what a reader gives, unless memory was refused
abbrev pub Yields : {X : Type 0} → Result X EntryFault → List ℕ → Option (X × List ℕ) → Type 0
Yields (Ok x) left read = read ≡ Some (x, left)
Yields (Err fault) left read = IsNothing fault read

-- the same of a whole line
abbrev pub YieldsWhole : {X : Type 0} → Result X EntryFault → Option X → Type 0
YieldsWhole (Ok x) read = read ≡ Some x
YieldsWhole (Err fault) read = IsNothing fault read
