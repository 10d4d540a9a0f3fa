use Rattle.std.proofs.Common.{◌∙◌, ◌++◌, ◌∷◌, [], false, ap, replicate, arith}
use Rattle.std.proofs.lemmas.List.{replicate-append-replicate}
use Rattle.check_tool.proofs.stopped.all_running.Goals as goal

pub loop-number-init : goal.loop-number-init
loop-number-init c = c.new-stopped.ensures.items

pub loop-number-preserved : goal.loop-number-preserved
loop-number-preserved c = c.in_ok-push.ensures.items ∙ ap (λ stopped. stopped ++ false ∷ []) c.loop-number.invariant ∙ replicate-append-replicate c.loop-number._number 1 false

pub returns : goal.returns
returns c = c.loop-number.invariant ∙ ap (λ n. replicate n false) (omega (arith, c.loop-number-test.false, c.loop-number.auto._number-end))
