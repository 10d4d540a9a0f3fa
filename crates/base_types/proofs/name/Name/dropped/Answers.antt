use Rattle.std.proofs.Common.{rules, inr}
use Rattle.base_types.proofs.name.Name.dropped.Goals as goal

pub invariant_of-result : goal.invariant_of-result
invariant_of-result c = inr (c.args.num, record { some = c.requires.some; most = c.requires.most; is = search rules })
