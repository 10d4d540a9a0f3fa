use Rattle.base_types.proofs.Padding.{copied_to_zeros}
use Rattle.base_types.proofs.short_text.padded.Goals as goal

pub returns : goal.returns
returns c = copied_to_zeros 63 c.copy_from_slice.new.self c.args.text.now c.copy_from_slice.ensures.after
