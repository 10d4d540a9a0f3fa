use Rattle.std.proofs.Common.{IsTrue}
use Rattle.base_types.proofs.DroppedNumbers.{not_this}
use Rattle.base_types.proofs.dropped.dropped_number.Goals as goal

pub returns-in_default-clause-none : goal.returns-in_default-clause-none
returns-in_default-clause-none c = not_this c.args.text.now c.in-Some.num c.in-Some.ensures.same (λ d. let yes : IsTrue c.is_dropped.result = c.is_dropped.ensures.1 d in cc)

pub returns-in_default-2-clause-none : goal.returns-in_default-2-clause-none
returns-in_default-2-clause-none c = λ d. c.in_default.ensures.none d.0 d.1
