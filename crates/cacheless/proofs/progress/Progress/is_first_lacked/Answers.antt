use Rattle.std.proofs.Common.{sym}
use Rattle.cacheless.proofs.progress.Progress.is_first_lacked.Goals as goal

pub is_next_of-requires : goal.is_next_of-requires
is_next_of-requires c = record { want = sym (c.next.ensures c.args.self.now.opens) }
