use Rattle.backend_core.proofs.Fields.{field_fresh}
use Rattle.backend_core.proofs.backend.Backend.field.Goals as goal

pub returns-in-Some-clause-fresh : goal.returns-in-Some-clause-fresh
returns-in-Some-clause-fresh c = field_fresh c.args.self.now c.args.name.now c.args.field _ _ _ _ c.latest_open.ensures c.as_slice.ensures c.in-Some.is c.field_of.ensures
