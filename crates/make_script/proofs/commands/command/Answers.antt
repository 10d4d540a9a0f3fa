use Rattle.std.proofs.Common.{arith}
use Rattle.make_script.proofs.Digits.{table_named, column_named}
use Rattle.make_script.proofs.commands.command.Goals as goal

pub numbered-name-requires-clause-name : goal.numbered-name-requires-clause-name
numbered-name-requires-clause-name c = table_named c.args.table (omega arith)

pub numbered-requires-clause-name : goal.numbered-requires-clause-name
numbered-requires-clause-name c = column_named c.below.result (omega arith)

pub numbered-requires-in-6-clause-name : goal.numbered-requires-in-6-clause-name
numbered-requires-in-6-clause-name c = column_named c.below-in-6.result (omega arith)
