use Rattle.script_text.proofs.command_writing.rename_column.Goals as goal

pub returns : goal.returns
returns c = rw c.in_ok-altered.ensures at c.named.ensures
