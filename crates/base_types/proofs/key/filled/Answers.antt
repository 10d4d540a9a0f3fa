use Rattle.base_types.specs.CacheKeys.{no_part}
use Rattle.base_types.proofs.Padding.{copied_to_start}
use Rattle.base_types.proofs.key.filled.Goals as goal

pub returns : goal.returns
returns c = copied_to_start no_part 4 c.copy_from_slice.new.self c.args.parts.now c.copy_from_slice.ensures.after
