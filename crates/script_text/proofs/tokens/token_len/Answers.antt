use Rattle.std.proofs.Common.{◌∙◌, sym}
use Rattle.script_text.proofs.TokenLengths.{word_token, mark_token}
use Rattle.script_text.proofs.tokens.token_len.Goals as goal

pub returns-then-in_word-clause-token : goal.returns-then-in_word-clause-token
returns-then-in_word-clause-token c = rw c.word_len.ensures.value (word_token c.args.line.now c.requires.some (sym c.in_word.ensures ∙ c.if-in_word.true))

pub returns-else-in_word-clause-token : goal.returns-else-in_word-clause-token
returns-else-in_word-clause-token c = mark_token c.args.line.now c.requires.starts c.requires.some (sym c.in_word.ensures ∙ c.if-in_word.false)
