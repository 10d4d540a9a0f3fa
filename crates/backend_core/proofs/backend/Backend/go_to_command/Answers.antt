use Rattle.backend_core.proofs.backend.Backend.go_to_command.Goals as goal

pub settle_command-requires : goal.settle_command-requires
settle_command-requires c = record { few = c.requires.right.agrees.holds.few }
