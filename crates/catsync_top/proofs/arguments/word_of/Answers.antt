use Rattle.std.proofs.Common.{◌∙◌, ◌∷◌, [], ap, codes}
use Rattle.std.specs.String.{string_bytes}
use Rattle.catsync_top.proofs.Words.{first_asked}
use Rattle.catsync_top.proofs.arguments.word_of.Goals as goal

pub returns-in_ok-kind_of-in-len2 : goal.returns-in_ok-kind_of-in-len2
returns-in_ok-kind_of-in-len2 c =
    first_asked string_bytes c.args.arguments.now c.first-item.result c.second-item.result c.as_str-then-arguments-lt3.result.now (codes "check") c.as_str-in-len2.result.now c.eq.result c.in-len2.len_at_least c.in-len2.len_below c.first-item.is c.second-item.is
    c.as_str-then-arguments-lt3.ensures.value c.eq.ensures c.if-eq.true c.as_str-in-len2.ensures.value
    ∙ ap (λ t. codes "check" ∷ t ∷ []) c.in_ok-kind_of-in-len2.ensures
