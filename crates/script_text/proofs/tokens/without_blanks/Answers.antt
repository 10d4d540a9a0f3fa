use Rattle.std.proofs.lemmas.List.{take_rest}
use Rattle.script_text.proofs.TokenLengths.{skips}
use Rattle.script_text.proofs.tokens.without_blanks.Goals as goal

pub returns-clause-same : goal.returns-clause-same
returns-clause-same c = rw (take_rest c.args.line.now c.blanks.result, c.blanks.ensures.value) (skips c.args.line.now).0

pub returns-clause-starts : goal.returns-clause-starts
returns-clause-starts c = rw (take_rest c.args.line.now c.blanks.result, c.blanks.ensures.value) (skips c.args.line.now).1
