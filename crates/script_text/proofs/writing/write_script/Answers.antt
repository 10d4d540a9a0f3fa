use Rattle.std.proofs.Common.{rules}
use Rattle.script_text.specs.Spelling.{script_spelling}
use Rattle.script_text.proofs.ReadBack.{is_read_back}
use Rattle.script_text.proofs.writing.write_script.Goals as goal

pub returns-clause-back : goal.returns-clause-back
unfolding script_spelling
returns-clause-back c = is_read_back c.args.script.now _ c.backends.ensures.kept (search rules)
