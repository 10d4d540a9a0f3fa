use Rattle.std.proofs.Common.{◌≡◌, length}
use Rattle.script_text.specs.Tokens.{tokens, after_words}
use Rattle.script_text.proofs.tokens.Tokens.words.Given as goal

abbrev pub invariant-words : goal.invariant-words
invariant-words l = after_words l.wanted l.self ≡ after_words (tokens l.fn.words) l.fn.self

abbrev pub decreases-words : goal.decreases-words
decreases-words l = length l.wanted
