-- The oid of a table that was rolled back isn't drawn again, as in tests/runs/oids_not_drawn_again.output.
use Rattle.std.proofs.Common.{◌++◌, false, List, [], ◌∷◌, codes}
use Rattle.base_types.specs.Scenario.{Scenario}
use Rattle.base_types.specs.declared.command.Command.TheVariants as commands
use Rattle.event_kinds.specs.declared.entry.Entry.{Entry}
use Rattle.event_kinds.specs.declared.entry.Event.TheVariants.{Start, Look, Write, Visible, Publish, Release, Gone}
use Rattle.cacheless.proofs.Plans.Given.{xid, entry, placed, script, creating, new_table}

abbrev pub oids_are_not_drawn_again : Scenario
oids_are_not_drawn_again = script 1 (placed 1 commands.Begin ∷ placed 1 (creating (codes "u") (codes "a")) ∷ placed 1 commands.Rollback ∷ placed 1 (creating (codes "w") (codes "a")) ∷ []) []

abbrev pub begun : List Entry
begun = entry 1 0 Start ∷ entry 1 1 (Look false) ∷ []

abbrev pub written : List Entry
written = begun ++ entry 1 2 (Write (xid 1) (new_table 16384 (codes "u") (codes "a"))) ∷ []

abbrev pub taken_back : List Entry
taken_back = written ++ entry 1 3 (Gone 1) ∷ []

abbrev pub released : List Entry
released = taken_back ++ entry 1 3 (Release 1) ∷ []

abbrev pub looked : List Entry
looked = released ++ entry 1 4 (Look false) ∷ []

abbrev pub written_again : List Entry
written_again = looked ++ entry 1 4 (Write (xid 2) (new_table 16385 (codes "w") (codes "a"))) ∷ []

abbrev pub visible : List Entry
visible = written_again ++ entry 1 4 (Visible (xid 2)) ∷ []

abbrev pub published : List Entry
published = visible ++ entry 1 4 (Publish 3) ∷ entry 1 4 (Publish 1) ∷ []

abbrev pub ended : List Entry
ended = published ++ entry 1 4 (Release 4) ∷ []
