use Rattle.std.proofs.Common.{◌∙◌}
use Rattle.rel_desc.proofs.KeptRows.{all_rows}
use Rattle.rel_desc.proofs.kept_scans.KeptScans.rows.Goals as goal

pub returns : goal.returns
returns c = c.as_slice.ensures.value ∙ all_rows c.args.self.now c.self.inside.rel c.self.inside.parts.items c.self.inside.rows.items c.self.view_is c.self.invariant
