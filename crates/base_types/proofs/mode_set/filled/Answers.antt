use Rattle.base_types.specs.Types.{AccessShare}
use Rattle.base_types.proofs.Padding.{copied_to_start}
use Rattle.base_types.proofs.mode_set.filled.Goals as goal

pub returns : goal.returns
returns c = copied_to_start AccessShare 8 c.copy_from_slice.new.self c.args.modes.now c.copy_from_slice.ensures.after
