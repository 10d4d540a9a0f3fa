use Rattle.std.proofs.Common.{◌∙◌, sym, refl}
use Rattle.backend_core.specs.Places.{ToEnter, AfterAll}
use Rattle.backend_core.proofs.backend.Backend.places_of_next.Goals as goal

pub returns-then-has_command : goal.returns-then-has_command
returns-then-has_command c = ToEnter c.requires.alive (sym c.has_command.ensures ∙ c.if-has_command.true) c.args.next.now c.requires.next c.places_before.ensures

pub returns-else-has_command : goal.returns-else-has_command
returns-else-has_command c = AfterAll c.requires.alive (sym c.has_command.ensures ∙ c.if-has_command.false) refl
