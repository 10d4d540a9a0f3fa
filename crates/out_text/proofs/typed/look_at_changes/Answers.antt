use Rattle.std.proofs.Common.{◌<◌, length, arith, subst}
use Rattle.std.specs.List.{All}
use Rattle.std.proofs.lemmas.List.{take_all}
use Rattle.std.proofs.lemmas.List.Elements.{All-more}
use Rattle.event_kinds.specs.Entries.{IsItem}
use Rattle.out_text.proofs.typed.look_at_changes.Goals as goal

pub loop-change-preserved : goal.loop-change-preserved
loop-change-preserved c =
    let within : c.loop-change.change-index < length c.args.changes.now = omega arith in
    All-more IsItem c.args.changes.now c.loop-change.change-index _ within c.loop-change.invariant (subst IsItem c.change-item.is c.push_item.ensures.spelled)

pub returns : goal.returns
returns c = subst (All IsItem) (take_all c.loop-change.change-index c.args.changes.now (omega arith)) c.loop-change.invariant
