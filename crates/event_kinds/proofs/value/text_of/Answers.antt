use Rattle.std.proofs.Common.{◌∙◌}
use Rattle.event_kinds.proofs.Leaves.{text_found}
use Rattle.event_kinds.proofs.value.text_of.Goals as goal

pub returns : goal.returns
returns c = c.ok.ensures.value ∙ text_found c.args.text.now c.new.result c.new.ensures.ok c.new.ensures.err
