use Rattle.base_types.proofs.Padding.{copied_to_zeros}
use Rattle.base_types.proofs.nums.padded.Goals as goal

pub returns : goal.returns
returns c = copied_to_zeros 32 c.copy_from_slice.new.self c.args.nums.now c.copy_from_slice.ensures.after
