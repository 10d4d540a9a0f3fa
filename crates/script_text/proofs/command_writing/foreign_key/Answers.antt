use Rattle.script_text.proofs.command_writing.foreign_key.Goals as goal

pub returns : goal.returns
returns c = rw c.in_ok-two_names.ensures at c.referred.ensures
