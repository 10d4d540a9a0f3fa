-- Two backends want one name, as in tests/runs/two_creators_first_commits.output.
use Rattle.std.proofs.Common.{◌++◌, true, false, List, [], ◌∷◌, codes}
use Rattle.base_types.specs.Scenario.{Scenario}
use Rattle.base_types.specs.declared.command.Command.TheVariants as commands
use Rattle.event_kinds.specs.declared.entry.Entry.{Entry}
use Rattle.event_kinds.specs.declared.entry.Event.TheVariants.{Start, Look, Fetch, Write, ClashRow, ClashRunning, Visible, Publish, Release, Stop}
use Rattle.cacheless.proofs.Plans.Given.{oid, xid, entry, placed, turns, script, creating, new_table}

abbrev pub clash_of_two_creators : Scenario
clash_of_two_creators = script 2 (placed 1 commands.Begin ∷ placed 1 (creating (codes "x") (codes "a")) ∷ placed 1 commands.Commit ∷ placed 2 (creating (codes "x") (codes "b")) ∷ placed 2 (creating (codes "x") (codes "b")) ∷ []) ((turns 1 3 ∷ turns 2 4 ∷ turns 1 5 ∷ turns 2 5 ∷ []) ∷ [])

abbrev pub first_started : List Entry
first_started = entry 1 0 Start ∷ []

abbrev pub first_looked : List Entry
first_looked = first_started ++ entry 1 1 (Look false) ∷ []

abbrev pub first_written : List Entry
first_written = first_looked ++ entry 1 2 (Write (xid 1) (new_table 16384 (codes "x") (codes "a"))) ∷ []

abbrev pub second_started : List Entry
second_started = first_written ++ entry 2 0 Start ∷ []

abbrev pub second_looked : List Entry
second_looked = second_started ++ entry 2 1 (Look false) ∷ []

abbrev pub second_clashed : List Entry
second_clashed = second_looked ++ entry 2 1 (ClashRunning (codes "x") (xid 1)) ∷ []

abbrev pub second_released : List Entry
second_released = second_clashed ++ entry 2 1 (Release 1) ∷ []

abbrev pub first_visible : List Entry
first_visible = second_released ++ entry 1 3 (Visible (xid 1)) ∷ []

abbrev pub first_part_published : List Entry
first_part_published = first_visible ++ entry 1 3 (Publish 3) ∷ []

abbrev pub first_published : List Entry
first_published = first_part_published ++ entry 1 3 (Publish 1) ∷ []

abbrev pub first_released : List Entry
first_released = first_published ++ entry 1 3 (Release 1) ∷ []

abbrev pub first_stopped : List Entry
first_stopped = first_released ++ entry 1 4 Stop ∷ []

abbrev pub second_looked_again : List Entry
second_looked_again = first_stopped ++ entry 2 2 (Look true) ∷ []

abbrev pub second_fetched : List Entry
second_fetched = second_looked_again ++ entry 2 2 (Fetch 4) ∷ []

abbrev pub second_clashed_again : List Entry
second_clashed_again = second_fetched ++ entry 2 2 (ClashRow (codes "x") (oid 16384)) ∷ []

abbrev pub second_released_again : List Entry
second_released_again = second_clashed_again ++ entry 2 2 (Release 2) ∷ []
