use Rattle.std.proofs.Common.{refl, arith}
use Rattle.layer_runs.proofs.ring.new_queue.Goals as goal

pub new-requires-clause-size : goal.new-requires-clause-size
new-requires-clause-size c = record { power = 12; is = refl; least = omega arith; most = omega arith }
