use Rattle.catalog_rows.proofs.Ended.{ended_all}
use Rattle.catalog_rows.proofs.writing.end_versions.Goals as goal

pub returns : goal.returns
returns c = ended_all c.args.committed.now c.args.stamp c.args.change.now c.args.list.now c.args.slots.now c.end_listed.new.slots c.requires c.end_listed.ensures
