use Rattle.std.proofs.Common.{◌++◌, arith}
use Rattle.std.specs.List.{flat_map}
use Rattle.history_model.specs.Held.{granted_by}
use Rattle.history_model.proofs.ListSteps.{all_done}
use Rattle.history_ledger.proofs.entering.grant_new.Goals as goal

pub returns-clause-ok : goal.returns-clause-ok
returns-clause-ok c = all_done (λ items. c.args.locks.now ++ flat_map (granted_by c.args.b c.args.c) items) c.args.items.now c.loop-item.item-index _ (omega (arith, c.loop-item-test.false)) c.loop-item.invariant
