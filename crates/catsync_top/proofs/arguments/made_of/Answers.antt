use Rattle.std.proofs.Common.{codes, map}
use Rattle.std.specs.String.{string_bytes}
use Rattle.catsync_top.proofs.Numbers.{asked_after}
use Rattle.catsync_top.proofs.Words.{first_asked}
use Rattle.catsync_top.proofs.arguments.made_of.Goals as goal

pub returns-in-len2 : goal.returns-in-len2
returns-in-len2 c =
    asked_after (map string_bytes c.args.arguments.now) c.as_str-in-len2.result.now c.number_of.result
    (first_asked string_bytes c.args.arguments.now c.first-item.result c.second-item.result c.as_str.result.now (codes "make") c.as_str-in-len2.result.now c.eq.result c.in-len2.len_at_least c.in-len2.len_below c.first-item.is c.second-item.is c.as_str.ensures.value c.eq.ensures c.if-eq.true c.as_str-in-len2.ensures.value)
    c.number_of.ensures
