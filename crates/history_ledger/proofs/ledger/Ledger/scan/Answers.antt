use Rattle.std.proofs.Common.{◌∙◌, ap}
use Rattle.history_model.specs.Segment.{Standing}
use Rattle.history_model.specs.After.{segment_of}
use Rattle.segment_rows.specs.Kept.{xid_in}
use Rattle.history_ledger.proofs.Readers.{xid_same}
use Rattle.history_ledger.proofs.ledger.Ledger.scan.Goals as goal

pub returns-clause-answer : goal.returns-clause-answer
returns-clause-answer c = λ seen k.
    c.scan.ensures.answer (segment_of seen) c.args.b k.rows (xid_same seen c.args.self.now c.args.b c.xid.result k (c.xid.ensures ∙ ap (λ (x : Standing). xid_in x.running) c.get.ensures))
