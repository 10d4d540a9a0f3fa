use Rattle.script_text.specs.Spelling.{placed_pieces}
use Rattle.script_text.proofs.PieceByPiece.{pieces_more}
use Rattle.script_text.proofs.writing.commands.Goals as goal

pub loop-command-preserved : goal.loop-command-preserved
loop-command-preserved c =
    pieces_more placed_pieces c.args.commands.now c.loop-command.command-index c.command-item.result c.args.out.now.items c.loop-command.out.items _
    c.loop-command-test.true c.command-item.is c.loop-command.invariant c.in_ok-placed.ensures
