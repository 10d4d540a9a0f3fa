use Rattle.std.proofs.Common.{refl}
use Rattle.cacheless.specs.State.{IsLockedIn}
use Rattle.cacheless.specs.Holds.{Rests}
use Rattle.cacheless.proofs.Lacking.{with_known}
use Rattle.cacheless.proofs.Resting.{rests_reserved}
use Rattle.cacheless.proofs.progress.Progress.reserve_lock.Goals as goal

pub returns-clause-same : goal.returns-clause-same
returns-clause-same c = with_known (IsLockedIn c.args.self.now.locks.items c.args.self.now) (record c.args.self.now { locks = c.reserve.new.self }) _ (record { locks_are = c.reserve.ensures.same; is = refl })

pub returns-clause-rests : goal.returns-clause-rests
returns-clause-rests c = λ scenario seen rests. with_known (Rests scenario seen) (record c.args.self.now { locks = c.reserve.new.self }) _ (rests_reserved scenario seen c.args.self.now c.reserve.new.self c.reserve.ensures.same rests)
