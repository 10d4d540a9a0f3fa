use Rattle.history_ledger.proofs.Entered.{reads_start}
use Rattle.history_ledger.proofs.ledger.Ledger.new.Goals as goal

pub returns : goal.returns
returns c = reads_start _ c.new.ensures c.new-2.ensures c.new-3.ensures.items c.new-4.ensures
