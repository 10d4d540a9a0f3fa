use Rattle.std.proofs.Common.{◌≡◌, ◌+◌, ◌∙◌, refl, sym, ap, subst, take, drop, length, replicate, slice_get, true, false, arith}
use Rattle.std.proofs.lemmas.List.{with_items_is}
use Rattle.base_types.specs.Scenario.{IsBackend}
use Rattle.history_model.proofs.ListSteps.{prefix_more}
use Rattle.cacheless.specs.Schedule.{pass_stopped}
use Rattle.check_tool.specs.Turning.{TellStopped}
use Rattle.check_tool.proofs.Schedule.{Follows, HasTaken, follows_none, follows_more, follows_here, follows_whole, taken_none, taken_more, turn_by_steps, steps_in_range, passed_over, step_within, step_number}
use Rattle.check_tool.proofs.scheduled.by_steps.Goals as goal

pub loop-at-init : goal.loop-at-init
loop-at-init c = record {
  held = follows_none c.args.script.now c.in_ok-stopped.stopped.items (c.in_ok-stopped.ensures ∙ ap (λ n. replicate n false) c.backends.ensures.value);
  taken = taken_none c.args.script.now c.in_ok-steps.steps.items (omega (arith, c.requires)) c.in_ok-steps.ensures;
}

pub pass-taken-requires-clause-range : goal.pass-taken-requires-clause-range
pass-taken-requires-clause-range c =
    steps_in_range c.args.script.now (take c.loop-at.at c.args.entries.now) c.loop-at.stopped.items c.deref-in-loop-at.result.now c.in_ok-steps.steps.items c.deref.result.now c.backends.ensures.kept c.loop-at.invariant.held
    c.deref-in-loop-at.ensures.value c.deref.ensures.value c.in_ok-steps.ensures

pub pass-taken-requires-clause-within : goal.pass-taken-requires-clause-within
pass-taken-requires-clause-within c = omega (arith, c.loop-at.invariant.taken.within, ap length c.deref.ensures.value)

pub returns-then-not-is_turn_of : goal.returns-then-not-is_turn_of
returns-then-not-is_turn_of c =
    let seen = take c.loop-at.at c.args.entries.now in
    let passed : pass_stopped seen (drop c.loop-at.taken c.in_ok-steps.steps.items) ≡ drop c.pass-taken.result c.in_ok-steps.steps.items =
    passed_over c.args.script.now seen c.loop-at.stopped.items c.deref-in-loop-at.result.now c.in_ok-steps.steps.items c.deref.result.now c.loop-at.taken c.pass-taken.result c.loop-at.invariant.held
    c.deref-in-loop-at.ensures.value c.deref.ensures.value c.pass-taken.ensures.passed in
    follows_here c.args.script.now c.args.entries.now c.loop-at.at c.index-entries-at.result _ c.step_at-turn.result c.loop-at-test.true c.index-entries-at.is c.loop-at.invariant.held.follows
    (turn_by_steps c.args.script.now seen c.in_ok-steps.steps.items c.loop-at.taken c.pass-taken.result c.step_at-turn.result c.loop-at.invariant.taken passed (c.step_at-turn.ensures ∙ ap (λ xs. slice_get xs c.pass-taken.result) c.deref-in-loop-at-2.ensures.value))
    (λ own. let never : false ≡ true = sym c.if-not-is_turn_of.true ∙ c.is_turn_of.ensures.1 own in absurd cc)

pub note-requires : goal.note-requires
note-requires c =
    let number : IsBackend (length c.loop-at.stopped.items) c.index-entries-at.result.backend =
    step_number c.loop-at.stopped.items c.in_ok-steps.steps.items c.pass-taken.result c.index-entries-at.result.backend c.step_at-turn.result
    (steps_in_range c.args.script.now (take c.loop-at.at c.args.entries.now) c.loop-at.stopped.items c.loop-at.stopped.items c.in_ok-steps.steps.items c.in_ok-steps.steps.items c.backends.ensures.kept c.loop-at.invariant.held refl refl c.in_ok-steps.ensures)
    (c.step_at-turn.ensures ∙ ap (λ xs. slice_get xs c.pass-taken.result) c.deref-in-loop-at-2.ensures.value) (c.is_turn_of.ensures.0 c.if-not-is_turn_of.false) in
    subst (λ n. IsBackend n c.index-entries-at.result.backend) (sym (ap length c.deref_mut.ensures.value)) number

pub loop-at-preserved : goal.loop-at-preserved
loop-at-preserved c =
    let seen = take c.loop-at.at c.args.entries.now in
    let turn = c.step_at-turn.ensures ∙ ap (λ xs. slice_get xs c.pass-taken.result) c.deref-in-loop-at-2.ensures.value in
    let passed : pass_stopped seen (drop c.loop-at.taken c.in_ok-steps.steps.items) ≡ drop c.pass-taken.result c.in_ok-steps.steps.items =
    passed_over c.args.script.now seen c.loop-at.stopped.items c.deref-in-loop-at.result.now c.in_ok-steps.steps.items c.deref.result.now c.loop-at.taken c.pass-taken.result c.loop-at.invariant.held
    c.deref-in-loop-at.ensures.value c.deref.ensures.value c.pass-taken.ensures.passed in
    record {
      held = subst (Follows c.args.script.now (take (c.loop-at.at + 1) c.args.entries.now)) (sym (with_items_is c.loop-at.stopped c.note.new.stopped (c.note.ensures.count ∙ c.deref_mut.ensures.len)))
          (follows_more c.args.script.now c.args.entries.now c.loop-at.at c.index-entries-at.result _ c.loop-at.stopped.items c.note.new.stopped c.step_at-turn.result c.loop-at-test.true c.index-entries-at.is c.loop-at.invariant.held
          (turn_by_steps c.args.script.now seen c.in_ok-steps.steps.items c.loop-at.taken c.pass-taken.result c.step_at-turn.result c.loop-at.invariant.taken passed turn)
          (c.is_turn_of.ensures.0 c.if-not-is_turn_of.false)
          (λ history tell. c.note.ensures.tell history (subst (TellStopped history) (sym c.deref_mut.ensures.value) tell))
          (c.note.ensures.count ∙ ap length c.deref_mut.ensures.value));
      taken = subst (λ history. HasTaken c.args.script.now history c.in_ok-steps.steps.items (c.pass-taken.result + 1)) (sym (prefix_more c.args.entries.now c.loop-at.at c.index-entries-at.result _ c.loop-at-test.true c.index-entries-at.is))
          (taken_more c.args.script.now seen c.index-entries-at.result c.in_ok-steps.steps.items c.loop-at.taken c.pass-taken.result (omega (arith, c.requires)) c.loop-at.invariant.taken passed
          (step_within c.in_ok-steps.steps.items c.pass-taken.result c.index-entries-at.result.backend c.step_at-turn.result turn (c.is_turn_of.ensures.0 c.if-not-is_turn_of.false)));
    }

pub pass-left-requires-clause-range : goal.pass-left-requires-clause-range
pass-left-requires-clause-range c =
    steps_in_range c.args.script.now (take c.loop-at.at c.args.entries.now) c.loop-at.stopped.items c.deref-3.result.now c.in_ok-steps.steps.items c.deref-2.result.now c.backends.ensures.kept c.loop-at.invariant.held
    c.deref-3.ensures.value c.deref-2.ensures.value c.in_ok-steps.ensures

pub pass-left-requires-clause-within : goal.pass-left-requires-clause-within
pass-left-requires-clause-within c = omega (arith, c.loop-at.invariant.taken.within, ap length c.deref-2.ensures.value)

pub returns : goal.returns
returns c =
    let seen = take c.loop-at.at c.args.entries.now in
    let passed : pass_stopped seen (drop c.loop-at.taken c.in_ok-steps.steps.items) ≡ drop c.pass-left.result c.in_ok-steps.steps.items =
    passed_over c.args.script.now seen c.loop-at.stopped.items c.deref-3.result.now c.in_ok-steps.steps.items c.deref-2.result.now c.loop-at.taken c.pass-left.result c.loop-at.invariant.held
    c.deref-3.ensures.value c.deref-2.ensures.value c.pass-left.ensures.passed in
    follows_whole c.args.script.now c.args.entries.now c.loop-at.at c.step_at.result (omega (arith, c.loop-at-test.false)) c.loop-at.invariant.held.follows
    (turn_by_steps c.args.script.now seen c.in_ok-steps.steps.items c.loop-at.taken c.pass-left.result c.step_at.result c.loop-at.invariant.taken passed (c.step_at.ensures ∙ ap (λ xs. slice_get xs c.pass-left.result) c.deref-4.ensures.value))
