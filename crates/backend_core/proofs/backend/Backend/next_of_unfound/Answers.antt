use Rattle.std.proofs.Common.{None, sym, ap}
use Rattle.backend_core.proofs.Choosing.NextActs.{unlock_unfound, accepted_ends, accept_next}
use Rattle.backend_core.specs.Choice.{next_by_name}
use Rattle.backend_core.proofs.backend.Backend.next_of_unfound.Goals as goal

pub unreachable-requires : goal.unreachable-requires
unreachable-requires c = accepted_ends c.args.self.now _ c.requires.still c.requires.chosen c.requires.free c.args.name c.args.mode c.requires.want c.requires.owes c.requires.unfound c.in-None.is c.if-self.true

pub returns-in-Some-clause-next : goal.returns-in-Some-clause-next
returns-in-Some-clause-next c = unlock_unfound c.args.self.now _ c.requires.still c.requires.chosen c.requires.free c.args.name c.args.mode c.requires.want c.requires.owes _ c.requires.unfound c.in-Some.is

pub returns-else-self-clause-next : goal.returns-else-self-clause-next
returns-else-self-clause-next c = accept_next c.args.self.now _ c.requires.still c.requires.chosen c.requires.free c.args.name c.args.mode c.requires.want c.requires.owes c.requires.unfound c.in-None.is c.if-self.false

pub returns-in-Some-clause-is : goal.returns-in-Some-clause-is
returns-in-Some-clause-is c = sym (ap (λ o. next_by_name o None c.args.mode) c.in-Some.is)

pub returns-else-self-clause-is : goal.returns-else-self-clause-is
returns-else-self-clause-is c = sym (ap (λ o. next_by_name o None c.args.mode) c.in-None.is)
