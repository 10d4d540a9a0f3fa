-- A fetch of 32 messages asks for a further look, as in tests/runs/32_messages_before_the_scan_of_a_name.output, with another command and other names.
use Rattle.std.proofs.Common.{◌++◌, true, false, None, List, [], ◌∷◌, codes}
use Rattle.base_types.specs.Scenario.{Scenario}
use Rattle.base_types.specs.declared.command.Command.TheVariants as commands
use Rattle.event_kinds.specs.declared.entry.Entry.{Entry}
use Rattle.event_kinds.specs.declared.entry.Event.TheVariants.{Start, Look, Fetch, Write, Visible, Publish, Release}
use Rattle.cacheless.proofs.Plans.Given.{xid, entry, placed, turns, script, wide_columns, wide_table}

abbrev pub fetch_of_exactly_32 : Scenario
fetch_of_exactly_32 = script 2 (placed 1 (commands.CreateTable (codes "w") (wide_columns 29)) ∷ placed 2 (commands.Show (codes "u") None) ∷ []) ((turns 2 1 ∷ turns 1 7 ∷ turns 2 8 ∷ turns 1 1 ∷ []) ∷ [])

abbrev pub started : List Entry
started = entry 2 0 Start ∷ entry 1 0 Start ∷ []

abbrev pub written : List Entry
written = started ++ entry 1 1 (Look false) ∷ entry 1 1 (Write (xid 1) (wide_table 16384 (codes "w") 29)) ∷ []

abbrev pub visible : List Entry
visible = written ++ entry 1 1 (Visible (xid 1)) ∷ []

abbrev pub published : List Entry
published = visible ++ entry 1 1 (Publish 31) ∷ entry 1 1 (Publish 1) ∷ []

abbrev pub released : List Entry
released = published ++ entry 1 1 (Release 1) ∷ []

abbrev pub looked : List Entry
looked = released ++ entry 2 1 (Look true) ∷ []

abbrev pub fetched : List Entry
fetched = looked ++ entry 2 1 (Fetch 32) ∷ []

abbrev pub looked_again : List Entry
looked_again = fetched ++ entry 2 1 (Look false) ∷ []
