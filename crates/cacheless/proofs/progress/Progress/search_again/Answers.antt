use Rattle.std.proofs.Common.{refl}
use Rattle.cacheless.specs.State.{SearchesAgain}
use Rattle.cacheless.proofs.Lacking.{with_known}
use Rattle.cacheless.proofs.progress.Progress.search_again.Goals as goal

pub returns : goal.returns
returns c = with_known (SearchesAgain c.args.self.now) (record c.args.self.now { exec = c.search_again.new.self }) _ (record { plan = c.search_again.ensures c.args.self.now.opens; is = refl })
