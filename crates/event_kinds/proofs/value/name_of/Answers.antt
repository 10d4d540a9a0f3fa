use Rattle.std.proofs.Common.{◌∙◌}
use Rattle.event_kinds.proofs.Leaves.{name_found}
use Rattle.event_kinds.proofs.value.name_of.Goals as goal

pub returns : goal.returns
returns c = c.ok.ensures.value ∙ name_found c.args.text.now c.new_or_dropped.result c.new_or_dropped.ensures.ok c.new_or_dropped.ensures.err
