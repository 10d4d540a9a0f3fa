use Rattle.std.proofs.Common.{◌<◌, length, arith, subst}
use Rattle.std.specs.List.{All}
use Rattle.std.proofs.lemmas.List.{take_all}
use Rattle.std.proofs.lemmas.List.Elements.{All-more}
use Rattle.out_text.specs.Typed.{IsTyped}
use Rattle.out_text.proofs.typed.look_at_entries.Goals as goal

pub loop-entry-preserved : goal.loop-entry-preserved
loop-entry-preserved c =
    let within : c.loop-entry.entry-index < length c.args.history.now = omega arith in
    All-more IsTyped c.args.history.now c.loop-entry.entry-index _ within c.loop-entry.invariant (subst IsTyped c.entry-item.is c.look_at_entry.ensures)

pub returns : goal.returns
returns c = subst (All IsTyped) (take_all c.loop-entry.entry-index c.args.history.now (omega arith)) c.loop-entry.invariant
