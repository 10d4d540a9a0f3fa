use Rattle.std.proofs.Common.{◌∙◌, ap, sym, arith}
use Rattle.std.specs.List.{flat_map}
use Rattle.std.proofs.lemmas.List.{take_all}
use Rattle.cacheless.specs.Locks.{locked_by}
use Rattle.cacheless.specs.State.{locks_made}
use Rattle.history_lines.proofs.TakenWrites.{none_still, made_first}
use Rattle.history_lines.proofs.writing.relation_made.Goals as goal

pub loop-item-preserved : goal.loop-item-preserved
loop-item-preserved c = none_still c.args.items.now c.loop-item.item-index c.item-item.result c.loop-item-test.true c.item-item.is (λ command. c.made_by.ensures command ∙ ap (locks_made command) c.in_default.is) c.loop-item.invariant

pub returns-in-Some : goal.returns-in-Some
returns-in-Some c = made_first c.args.items.now c.loop-item.item-index c.item-item.result c.in-Some.rel c.requires c.loop-item-test.true c.item-item.is (λ command. c.made_by.ensures command ∙ ap (locks_made command) c.in-Some.is) c.loop-item.invariant

pub returns : goal.returns
returns c = λ command. sym (ap (flat_map (locked_by command)) (take_all c.loop-item.item-index c.args.items.now (omega (arith, c.loop-item-test.false)))) ∙ c.loop-item.invariant command
