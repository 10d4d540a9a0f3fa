use Rattle.std.proofs.Common.{◌∙◌, ◌++◌, ◌∷◌, [], None, ap, length, arith}
use Rattle.std.proofs.lemmas.List.{length-replicate, replicate-append-replicate}
use Rattle.check_tool.proofs.Places.{tell_none}
use Rattle.check_tool.proofs.looking.Queue.new.Goals as goal

pub loop-number-init : goal.loop-number-init
loop-number-init c = c.new-places.ensures.items

pub loop-number-preserved : goal.loop-number-preserved
loop-number-preserved c = c.in_ok-push.ensures.items ∙ ap (λ places. places ++ None ∷ []) c.loop-number.invariant ∙ replicate-append-replicate c.loop-number._number 1 None

pub returns-clause-tell : goal.returns-clause-tell
returns-clause-tell c = tell_none c.loop-number._number c.loop-number.places.items c.loop-number.invariant

pub returns-clause-count : goal.returns-clause-count
returns-clause-count c = ap length c.loop-number.invariant ∙ length-replicate c.loop-number._number None ∙ omega (arith, c.loop-number-test.false, c.loop-number.auto._number-end)
