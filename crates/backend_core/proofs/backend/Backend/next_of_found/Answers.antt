use Rattle.std.proofs.Common.{Some, sym, ap}
use Rattle.std.proofs.lemmas.Bool.{eq-eqb, ne_eqb}
use Rattle.backend_core.proofs.Choosing.NextActs.{lock_next, unlock_other, locked_ends}
use Rattle.backend_core.specs.Choice.{next_by_name}
use Rattle.backend_core.proofs.backend.Backend.next_of_found.Goals as goal

pub unreachable-requires : goal.unreachable-requires
unreachable-requires c = locked_ends c.args.self.now _ c.requires.still c.requires.chosen c.requires.free c.args.name c.args.mode c.requires.want c.requires.owes c.args.rel _ c.requires.found c.in-Some.is (eq-eqb _ _ c.if-taken-rel.true)

pub returns-in-None-clause-next : goal.returns-in-None-clause-next
returns-in-None-clause-next c = lock_next c.args.self.now _ c.requires.still c.requires.chosen c.requires.free c.args.name c.args.mode c.requires.want c.requires.owes c.args.rel c.requires.found c.in-None.is

pub returns-else-taken-rel-clause-next : goal.returns-else-taken-rel-clause-next
returns-else-taken-rel-clause-next c = unlock_other c.args.self.now _ c.requires.still c.requires.chosen c.requires.free c.args.name c.args.mode c.requires.want c.requires.owes c.args.rel _ c.requires.found c.in-Some.is (ne_eqb _ _ c.if-taken-rel.false)

pub returns-in-None-clause-is : goal.returns-in-None-clause-is
returns-in-None-clause-is c = sym (ap (λ o. next_by_name o (Some c.args.rel) c.args.mode) c.in-None.is)

pub returns-else-taken-rel-clause-is : goal.returns-else-taken-rel-clause-is
returns-else-taken-rel-clause-is c = sym (ap (λ o. next_by_name o (Some c.args.rel) c.args.mode) c.in-Some.is)
