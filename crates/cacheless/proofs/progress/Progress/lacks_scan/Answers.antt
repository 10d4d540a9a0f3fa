use Rattle.std.proofs.Common.{sym}
use Rattle.cacheless.proofs.progress.Progress.lacks_scan.Goals as goal

pub act_lacks-requires : goal.act_lacks-requires
act_lacks-requires c = record { want = sym (c.next.ensures c.args.self.now.opens) }
