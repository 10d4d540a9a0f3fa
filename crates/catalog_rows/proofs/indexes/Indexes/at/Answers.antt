use Rattle.catalog_rows.proofs.Serving.{serves_all, serves_current}
use Rattle.catalog_rows.proofs.indexes.Indexes.at.Goals as goal

pub returns-then-self : goal.returns-then-self
returns-then-self c = λ committed slots numbered only current. serves_all committed slots c.args.self.now.all c.args.place c.at.result.now c.at.ensures numbered

pub returns-else-self : goal.returns-else-self
returns-else-self c = λ committed slots numbered only current. serves_current committed slots c.args.self.now c.args.place c.at-else-self.result.now c.at-else-self.ensures c.if-self.false only current
