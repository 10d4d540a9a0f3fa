use Rattle.std.proofs.Common.{◌<◌, length, arith, subst}
use Rattle.std.specs.List.{All}
use Rattle.std.proofs.lemmas.List.{take_all}
use Rattle.std.proofs.lemmas.List.Elements.{All-more}
use Rattle.event_kinds.specs.Entries.{IsLine}
use Rattle.out_text.proofs.typed.look_at_lines.Goals as goal

pub loop-line-preserved : goal.loop-line-preserved
loop-line-preserved c =
    let within : c.loop-line.line-index < length c.args.lines.now = omega arith in
    All-more IsLine c.args.lines.now c.loop-line.line-index _ within c.loop-line.invariant (subst IsLine c.line-item.is c.look_at_line.ensures)

pub returns : goal.returns
returns c = subst (All IsLine) (take_all c.loop-line.line-index c.args.lines.now (omega arith)) c.loop-line.invariant
