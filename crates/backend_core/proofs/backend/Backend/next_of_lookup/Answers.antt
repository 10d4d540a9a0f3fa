use Rattle.std.proofs.Common.{Some, ◌∙◌, sym, ap}
use Rattle.backend_core.specs.Words.{relation_named}
use Rattle.backend_core.proofs.Choosing.NextActs.{lookup_next}
use Rattle.backend_core.proofs.Choosing.ByChoice.{lookup_lacks, lookup_serves}
use Rattle.backend_core.proofs.backend.Backend.next_of_lookup.Goals as goal

pub next_of_act-requires : goal.next_of_act-requires
next_of_act-requires c = record { next = lookup_next c.args.self.now _ c.requires.still c.requires.free c.requires.bare c.requires.whole c.args.name c.args.mode c.requires.want (sym c.owes_nothing.ensures ∙ c.if-not-owes_nothing.true) }

pub returns-then-not-owes_nothing-clause-is : goal.returns-then-not-owes_nothing-clause-is
returns-then-not-owes_nothing-clause-is c = lookup_lacks c.args.self.now _ c.args.name c.args.mode (sym c.owes_nothing.ensures ∙ c.if-not-owes_nothing.true) ∙ ap Some (sym c.next_of_act.ensures.is)

pub returns-in-Some-clause-is : goal.returns-in-Some-clause-is
returns-in-Some-clause-is c = lookup_serves c.args.self.now _ c.args.name c.args.mode _ (sym c.owes_nothing.ensures ∙ c.if-not-owes_nothing.false) (ap relation_named (sym c.row_sought.ensures) ∙ sym c.relation_of.ensures ∙ c.in-Some.is) ∙ ap Some (sym c.next_of_found.ensures.is)

pub returns-in-None-clause-is : goal.returns-in-None-clause-is
returns-in-None-clause-is c = lookup_serves c.args.self.now _ c.args.name c.args.mode _ (sym c.owes_nothing.ensures ∙ c.if-not-owes_nothing.false) (ap relation_named (sym c.row_sought.ensures) ∙ sym c.relation_of.ensures ∙ c.in-None.is) ∙ ap Some (sym c.next_of_unfound.ensures.is)
