use Rattle.std.proofs.Common.{◌<◌, ◌^◌, arith}
use Rattle.std.proofs.lemmas.Grind.{common_steps}
use Rattle.std.proofs.lemmas.List.Elements.{All-more}
use Rattle.base_types.proofs.field_item.push_nums.Goals as goal

pub loop-num-preserved : goal.loop-num-preserved
loop-num-preserved c = record {
  text = record { text = grind (arith, common_steps); short = omega arith };
  numbers = All-more (λ number. number < 2 ^ 32) _ c.loop-num.num-index 0 (omega arith) c.loop-num.invariant.numbers c.push_next.ensures.number;
}
