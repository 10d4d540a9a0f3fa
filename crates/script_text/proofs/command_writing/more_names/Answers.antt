use Rattle.std.proofs.Common.{◌∷◌, codes}
use Rattle.script_text.specs.Spelling.{name_pieces}
use Rattle.script_text.proofs.PieceByPiece.{pieces_more}
use Rattle.script_text.proofs.command_writing.more_names.Goals as goal

pub loop-name-preserved : goal.loop-name-preserved
loop-name-preserved c =
    pieces_more (λ n. codes "," ∷ name_pieces n) c.args.names.now c.loop-name.name-index c.name-item.result c.args.out.now.items c.loop-name.out.items _
    c.loop-name-test.true c.name-item.is c.loop-name.invariant c.in_ok-named.ensures
