use Rattle.script_text.specs.Tokens.{tokens}
use Rattle.script_text.proofs.ReadCommands.{long_made}
use Rattle.script_text.proofs.lines_so_far.command.Goals as goal

pub returns-clause-spelled : goal.returns-clause-spelled
returns-clause-spelled c = long_made (tokens c.args.line.now) c.long.result c.long.ensures
