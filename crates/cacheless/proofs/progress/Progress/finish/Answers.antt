use Rattle.std.proofs.Common.{◌≡◌, ◌∙◌, ◌+◌, ◌&&◌, true, false, ℕ, Some, None, List, ap, sym, refl, is_some, arith}
use Rattle.std.specs.Option.{option_map}
use Rattle.std.proofs.lemmas.Option.{slice_get_within}
use Rattle.history_model.proofs.ListSteps.{given_at, none_at}
use Rattle.local_caches.specs.Caches.{kept_of, is_pinned}
use Rattle.ddl_effect.specs.Opens.{has_open}
use Rattle.cacheless.specs.Types.{Line}
use Rattle.cacheless.specs.Session.{held_in}
use Rattle.cacheless.proofs.Lacking.{same_known}
use Rattle.cacheless.proofs.Passing.{none_answered, finish_code}
use Rattle.cacheless.proofs.progress.Progress.finish.Goals as goal

pub returns-clause-passes : goal.returns-clause-passes
returns-clause-passes c = finish_code c.args.self.now _ _ _ _ _ _ _ _ _ _ c.as_slice-3.result.now c.as_slice-2.result.now c.as_slice-4.result.now c.as_slice-5.result.now c.in-Some.command.now c.requires.finishes
    (given_at c.args.self.now.commands c.as_slice.result.now c.args.self.now.finished c.in-Some.command.now c.as_slice.ensures (c.in-Some.ensures.lookup.3).0 c.in-Some.ensures.lookup.1)
    (c.in_ok-pass.ensures c.args.self.now.opens) c.as_slice-3.ensures c.as_slice-2.ensures c.in_ok-opens.ensures c.as_slice-5.ensures c.as_slice-4.ensures c.in_ok-next.ensures.plan c.in_ok-next.ensures.blocked c.none-self.ensures (c.in_ok-opened.ensures ∙ ap (held_in _) c.as_slice-6.ensures) c.in_ok-unpin_others.ensures.kept (λ rel. c.in_ok-unpin_others.ensures.pins rel ∙ (λ i. has_open rel (c.as_slice-7.ensures i) && is_pinned c.args.self.now.caches rel)) c.take.ensures.after

pub returns-clause-less : goal.returns-clause-less
returns-clause-less c =
    let fresh = none_answered c.take.new.self c.in-Some-take.ensures.after in
    omega (arith, fresh, c.in_ok-next.ensures.few, slice_get_within c.args.self.now.commands c.args.self.now.finished c.requires.finishes.command c.requires.finishes.at)

pub unreachable-requires : goal.unreachable-requires
unreachable-requires c = let both : Some c.requires.finishes.command ≡ None = sym c.requires.finishes.at ∙ none_at c.args.self.now.commands c.as_slice.result.now c.args.self.now.finished c.as_slice.ensures c.in_default.ensures.lookup.0 in absurd (cc both)

pub overflow_add-number : goal.overflow_add-number
overflow_add-number c = omega (arith, c.requires.few, slice_get_within c.args.self.now.commands c.args.self.now.finished c.requires.finishes.command c.requires.finishes.at)

pub invariant_of-self-2 : goal.invariant_of-self-2
invariant_of-self-2 c = record { known = c.hold_others.ensures (same_known (kept_of c.args.self.now.caches) (kept_of c.unpin_others.new.caches) c.args.self.now.opened c.args.self.now.opened c.args.self.now.suspects c.in_ok-unpin_others.ensures.kept refl c.args.self.now.known) }

pub invariant_of-self-in-Break-branch-5 : goal.invariant_of-self-in-Break-branch-5
invariant_of-self-in-Break-branch-5 c = record { known = same_known (kept_of c.args.self.now.caches) (kept_of c.unpin_others.new.caches) c.args.self.now.opened c.args.self.now.opened c.args.self.now.suspects c.in_err-unpin_others.ensures.kept refl c.args.self.now.known }

pub invariant_of-self-in-Break-branch-4 : goal.invariant_of-self-in-Break-branch-4
invariant_of-self-in-Break-branch-4 c = record { known = c.args.self.now.known }

pub returns-clause-line : goal.returns-clause-line
returns-clause-line c = sym (ap (option_map {T = List ℕ} {U = Line} (λ text. record { backend = c.args.self.now.id; command = c.args.self.now.finished + 1; text = text })) c.in-Some-take.ensures.value)

pub same-text : goal.same-text
same-text c = refl

pub same-opens : goal.same-opens
same-opens c = refl

pub invariant_of-self-in-Break-branch-3 : goal.invariant_of-self-in-Break-branch-3
invariant_of-self-in-Break-branch-3 c = record { known = c.args.self.now.known }

pub unreachable-requires-in_default-take : goal.unreachable-requires-in_default-take
unreachable-requires-in_default-take c = let both : true ≡ false = sym c.requires.finishes.answered ∙ sym (ap is_some c.in_default-take.ensures.value) in absurd (cc both)

pub returns-clause-answer : goal.returns-clause-answer
returns-clause-answer c = c.in-Some-take.ensures.after

pub returns-clause-same : goal.returns-clause-same
returns-clause-same c = refl
