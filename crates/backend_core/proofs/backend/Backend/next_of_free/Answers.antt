use Rattle.std.proofs.Common.{◌∙◌, sym, ap, not}
use Rattle.backend_core.proofs.Choosing.Nexting.{free_of, once_more, failed_lacks}
use Rattle.backend_core.proofs.Choosing.ByChoice.{choice_free, free_look, free_again, free_failed, free_going}
use Rattle.backend_core.proofs.backend.Backend.next_of_free.Goals as goal

pub next_of_end-requires-clause-free : goal.next_of_end-requires-clause-free
next_of_end-requires-clause-free c = free_of c.args.self.now.progress c.args.command.now _ c.requires.at c.requires.due c.owes_first_look.ensures c.if-owes_first_look.false

pub next_of_end-requires-clause-whole : goal.next_of_end-requires-clause-whole
next_of_end-requires-clause-whole c = failed_lacks c.args.self.now _ (sym c.has_failed.ensures ∙ c.if-has_failed.true)

pub next_of_end-requires-clause-bare : goal.next_of_end-requires-clause-bare
next_of_end-requires-clause-bare c = c.requires.chosen.bare (sym c.has_failed.ensures ∙ c.if-has_failed.true)

pub next_of_going-requires-clause-free : goal.next_of_going-requires-clause-free
next_of_going-requires-clause-free c = free_of c.args.self.now.progress c.args.command.now _ c.requires.at c.requires.due c.owes_first_look.ensures c.if-owes_first_look.false

pub next_of_going-requires-clause-want : goal.next_of_going-requires-clause-want
next_of_going-requires-clause-want c = sym (c.next.ensures c.args.self.now.progress.opens)

pub returns-then-accepts_again-clause-next : goal.returns-then-accepts_again-clause-next
returns-then-accepts_again-clause-next c = once_more c.args.self.now c.args.command.now (free_of c.args.self.now.progress c.args.command.now _ c.requires.at c.requires.due c.owes_first_look.ensures c.if-owes_first_look.false) (sym c.accepts_again.ensures ∙ c.if-accepts_again.true)

pub returns-then-owes_first_look-clause-is : goal.returns-then-owes_first_look-clause-is
returns-then-owes_first_look-clause-is c = choice_free c.args.self.now _ c.requires.due ∙ free_look c.args.self.now _ (sym c.owes_first_look.ensures ∙ ap not c.if-owes_first_look.true)

pub returns-then-accepts_again-clause-is : goal.returns-then-accepts_again-clause-is
returns-then-accepts_again-clause-is c = choice_free c.args.self.now _ c.requires.due ∙ free_again c.args.self.now _ (sym c.owes_first_look.ensures ∙ ap not c.if-owes_first_look.false) (sym c.accepts_again.ensures ∙ c.if-accepts_again.true)

pub returns-then-has_failed-clause-is : goal.returns-then-has_failed-clause-is
returns-then-has_failed-clause-is c = choice_free c.args.self.now _ c.requires.due ∙ free_failed c.args.self.now _ (sym c.owes_first_look.ensures ∙ ap not c.if-owes_first_look.false) (sym c.accepts_again.ensures ∙ c.if-accepts_again.false) (sym c.has_failed.ensures ∙ c.if-has_failed.true) ∙ c.next_of_end.ensures.is

pub returns-clause-is : goal.returns-clause-is
returns-clause-is c = choice_free c.args.self.now _ c.requires.due ∙ free_going c.args.self.now _ (sym c.owes_first_look.ensures ∙ ap not c.if-owes_first_look.false) (sym c.accepts_again.ensures ∙ c.if-accepts_again.false) (sym c.has_failed.ensures ∙ c.if-has_failed.false) ∙ c.next_of_going.ensures.is
