use Rattle.std.proofs.Common.{refl, arith}
use Rattle.catsync_tests.proofs.queues.of_size.Goals as goal

pub queue_of-requires-clause-size : goal.queue_of-requires-clause-size
queue_of-requires-clause-size c = record { power = 6; is = refl; least = omega arith; most = omega arith }

pub queue_of-requires-in-128-clause-size : goal.queue_of-requires-in-128-clause-size
queue_of-requires-in-128-clause-size c = record { power = 7; is = refl; least = omega arith; most = omega arith }
