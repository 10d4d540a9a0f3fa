use Rattle.std.proofs.Common.{◌∙◌, ◌++◌, ◌∷◌, [], sym, ap, append-nil, append_assoc, replicate, arith}
use Rattle.std.proofs.lemmas.List.{replicate-append-replicate}
use Rattle.check_tool.proofs.scheduled.push_turns.Goals as goal

pub loop-step-init : goal.loop-step-init
loop-step-init c = sym (append-nil c.args.steps.now.items)

pub loop-step-preserved : goal.loop-step-preserved
loop-step-preserved c =
    c.in_ok-push.ensures.items ∙ ap (λ steps. steps ++ c.args.turns.now.backend ∷ []) c.loop-step.invariant
    ∙ append_assoc c.args.steps.now.items (replicate c.loop-step._step c.args.turns.now.backend) (c.args.turns.now.backend ∷ [])
    ∙ ap (λ more. c.args.steps.now.items ++ more) (replicate-append-replicate c.loop-step._step 1 c.args.turns.now.backend)

pub returns : goal.returns
returns c = c.loop-step.invariant ∙ ap (λ n. c.args.steps.now.items ++ replicate n c.args.turns.now.backend) (omega (arith, c.loop-step-test.false, c.loop-step.auto._step-end))
