-- The text of each fault of reading.
use Rattle.std.specs.Prelude.{ℕ, List, codes}
use Rattle.event_kinds.specs.Events.{EntryFault}
use Rattle.event_kinds.specs.declared.fault.EntryFault.TheVariants as faults

-- why no entry was read
abbrev pub fault_text : EntryFault → List ℕ
fault_text faults.Bad = codes "no entry has this text"
fault_text faults.NoMemory = codes "want of memory"
