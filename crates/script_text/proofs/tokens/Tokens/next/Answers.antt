use Rattle.std.proofs.Common.{◌≡◌, ◌∙◌, [], sym}
use Rattle.script_text.specs.Tokens.{tokens}
use Rattle.script_text.proofs.TokenLengths.{no_tokens}
use Rattle.script_text.proofs.tokens.Tokens.next.Goals as goal

pub returns-then-is_empty : goal.returns-then-is_empty
returns-then-is_empty c =
    let none : tokens c.without_blanks-line.result.now ≡ [] = no_tokens c.without_blanks-line.result.now (sym c.is_empty.ensures ∙ c.if-is_empty.true) in
    (sym c.self.view_is ∙ sym c.without_blanks-line.ensures.same ∙ none, none)
