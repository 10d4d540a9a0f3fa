use Rattle.std.proofs.Common.{Some, ◌∙◌, ap, subst}
use Rattle.backend_core.specs.declared.next.Next.TheVariants as nexts
use Rattle.backend_core.specs.Steps.{IsNextOf, Remains, Left}
use Rattle.backend_core.proofs.Choosing.Nexting.{reads_now}
use Rattle.backend_core.proofs.Choosing.Sound.{choice_sound}
use Rattle.backend_core.proofs.Entries.Inside.{then_so}
use Rattle.backend_core.proofs.backend.Backend.enter_next.Goals as goal

pub next-next-requires-clause-reads : goal.next-next-requires-clause-reads
next-next-requires-clause-reads g c = reads_now _ _ c.args.self.now c.requires.ready.waits c.requires.ready.course

pub next-next-requires-clause-chosen : goal.next-next-requires-clause-chosen
next-next-requires-clause-chosen g c = choice_sound _ _ c.args.self.now c.requires.ready.waits c.requires.ready.course

pub returns-clause-makes : goal.returns-clause-makes
returns-clause-makes g c = then_so c.enter.result Remains c.enter.ensures.enters

pub returns-clause-noted : goal.returns-clause-noted
returns-clause-noted g c = then_so c.enter.result (λ noted. record { next = c.next-next.result; chosen = c.next-next.ensures.is; needs = c.next-next.ensures.next; noted = noted }) c.enter.ensures.noted

pub returns-then-leaves-clause-makes : goal.returns-then-leaves-clause-makes
returns-then-leaves-clause-makes g c = Left c.leave.ensures.left c.leave.ensures.steps

pub returns-then-leaves-clause-noted : goal.returns-then-leaves-clause-noted
returns-then-leaves-clause-noted g c = record { next = nexts.Leave; chosen = c.next-next.ensures.is ∙ ap Some (c.leaves.ensures.0 c.if-leaves.true); needs = subst (IsNextOf c.args.self.now) (c.leaves.ensures.0 c.if-leaves.true) c.next-next.ensures.next; noted = c.leave.ensures.noted }
