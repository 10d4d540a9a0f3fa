use Rattle.catalog_rows.proofs.Serving.{serves_ends}
use Rattle.catalog_rows.proofs.indexes.Indexes.ends.Goals as goal

pub returns-in-Some : goal.returns-in-Some
returns-in-Some c = λ committed slots stamp numbered only current n ended.
    serves_ends committed slots stamp c.args.change.now c.in-Some.key c.of_key.result c.at.result.now c.in-Some.ensures c.of_key.ensures (c.at.ensures committed slots numbered only current) n ended
