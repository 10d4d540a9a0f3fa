use Rattle.std.proofs.Common.{◌∙◌, sym, ap}
use Rattle.cacheless.proofs.Allowed.AllowedHistories.{plays_on_course}
use Rattle.backend_core.specs.Words.{has_left}
use Rattle.backend_core.proofs.Entries.Inside.{made_refused, then_so, if_refused}
use Rattle.backend_core.proofs.Stepped.{settled_steps, remains, leaves, notes_on, notes_left}
use Rattle.backend_core.proofs.backend.Backend.step.Goals as goal

pub returns-clause-steps : goal.returns-clause-steps
returns-clause-steps g c = settled_steps _ _ _ _ _ _ _ _ _ (plays_on_course _ _ c.requires.spelled c.requires.legal c.requires.plays).0
    (remains _ _ _ _ _ _ _ c.in_ok-enter_in_turn.ensures.makes (sym c.is_stopped.ensures ∙ c.if-is_stopped.false)) c.settle.ensures.settles

pub returns-clause-noted : goal.returns-clause-noted
returns-clause-noted g c = then_so c.settle.result (λ settles. notes_on _ _ _ c.args.self.now _ _ c.in_ok-enter_in_turn.ensures.noted
    (settles _ _ (remains _ _ _ _ _ _ _ c.in_ok-enter_in_turn.ensures.makes (sym c.is_stopped.ensures ∙ c.if-is_stopped.false)).agrees).noted) c.settle.ensures.settles

pub returns-then-is_stopped-clause-noted : goal.returns-then-is_stopped-clause-noted
returns-then-is_stopped-clause-noted g c = notes_left _ _ _ c.args.self.now _ c.in_ok-enter_in_turn.ensures.noted

pub returns-then-is_stopped-clause-steps : goal.returns-then-is_stopped-clause-steps
returns-then-is_stopped-clause-steps g c = leaves _ _ _ _ _ c.args.self.now _ c.in_ok-enter_in_turn.ensures.makes (sym c.is_stopped.ensures ∙ c.if-is_stopped.true)

pub returns-clause-refused : goal.returns-clause-refused
returns-clause-refused g c = made_refused _ _ _ _ _ _ c.settle.result (remains _ _ _ _ _ c.args.self.now _ c.in_ok-enter_in_turn.ensures.makes (sym c.is_stopped.ensures ∙ c.if-is_stopped.false)).makes

pub returns-in_err-enter_in_turn-clause-stays : goal.returns-in_err-enter_in_turn-clause-stays
returns-in_err-enter_in_turn-clause-stays g c = if_refused c.from_residual.result (ap has_left c.in_err-enter_in_turn.ensures.life ∙ c.requires.alive)

pub returns-clause-stays : goal.returns-clause-stays
returns-clause-stays g c = if_refused c.settle.result (ap has_left c.settle.ensures.life ∙ sym c.is_stopped.ensures ∙ c.if-is_stopped.false)
