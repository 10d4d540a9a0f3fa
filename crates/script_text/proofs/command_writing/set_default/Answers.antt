use Rattle.script_text.proofs.command_writing.set_default.Goals as goal

pub returns : goal.returns
returns c = rw (c.in_ok-words.ensures, c.in_ok-altered.ensures, c.as_bytes.ensures.text) at c.piece.ensures
