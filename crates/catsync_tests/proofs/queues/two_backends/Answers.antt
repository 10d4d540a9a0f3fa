use Rattle.std.proofs.Common.{refl, arith}
use Rattle.catsync_tests.proofs.queues.two_backends.Goals as goal

pub new-requires-clause-size : goal.new-requires-clause-size
new-requires-clause-size c = record { power = 7; is = refl; least = omega arith; most = omega arith }
