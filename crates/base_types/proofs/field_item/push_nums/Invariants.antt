use Rattle.std.proofs.Common.{◌<◌, ◌^◌, take}
use Rattle.std.specs.List.{All}
use Rattle.base_types.proofs.Joining.{HasNums}
use Rattle.base_types.proofs.field_item.push_nums.Given as goal

abbrev pub invariant-loop-num : goal.invariant-loop-num
invariant-loop-num l = record {
  text : HasNums l.initial.line l.rest l.num-index l.line;
  numbers : All (λ number. number < 2 ^ 32) (take l.num-index l.rest);
}
