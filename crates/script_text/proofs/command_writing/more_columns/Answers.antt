use Rattle.std.proofs.Common.{◌∷◌, codes}
use Rattle.script_text.specs.Spelling.{column_pieces}
use Rattle.script_text.proofs.PieceByPiece.{pieces_more}
use Rattle.script_text.proofs.command_writing.more_columns.Goals as goal

pub loop-item-preserved : goal.loop-item-preserved
loop-item-preserved c =
    pieces_more (λ x. codes "," ∷ column_pieces x) c.args.columns.now c.loop-item.item-index c.item-item.result c.args.out.now.items c.loop-item.out.items _
    c.loop-item-test.true c.item-item.is c.loop-item.invariant (rw c.in_ok-words.ensures at c.in_ok-column.ensures)
