use Rattle.std.proofs.Common.{refl, arith}
use Rattle.catsync_tests.proofs.queues.sleepers_are_reset_and_a_reader_is_not.Goals as goal

pub queue_of-requires-clause-size : goal.queue_of-requires-clause-size
queue_of-requires-clause-size c c' = record { power = 6; is = refl; least = omega arith; most = omega arith }
