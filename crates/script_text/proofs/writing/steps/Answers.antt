use Rattle.script_text.specs.Spelling.{steps_pieces}
use Rattle.script_text.proofs.PieceByPiece.{pieces_more}
use Rattle.script_text.proofs.writing.steps.Goals as goal

pub loop-line-preserved : goal.loop-line-preserved
loop-line-preserved c =
    pieces_more steps_pieces c.args.lines.now c.loop-line.line-index c.line-item.result c.args.out.now.items c.loop-line.out.items _
    c.loop-line-test.true c.line-item.is c.loop-line.invariant (rw c.as_slice.ensures at c.in_ok-steps_line.ensures)
