use Rattle.std.proofs.Common.{◌∙◌}
use Rattle.rel_desc.proofs.KeptRows.{place_seen}
use Rattle.rel_desc.proofs.kept_scans.KeptScans.place.Goals as goal

pub returns : goal.returns
returns c = (rw (c.as_slice.ensures.value, c.read_by.ensures) at c.place_for.ensures) ∙ place_seen c.args.self.now c.self.inside.rel c.args.field c.self.inside.parts.items c.self.inside.rows.items c.self.view_is
