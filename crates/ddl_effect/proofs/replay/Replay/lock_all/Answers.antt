use Rattle.std.proofs.Common.{arith}
use Rattle.std.proofs.lemmas.Grind.{common_steps}
use Rattle.ddl_effect.proofs.Replays.{after_fails, locks_next}
use Rattle.ddl_effect.proofs.replay.Replay.lock_all.Goals as goal

pub returns-then-has_open : goal.returns-then-has_open
returns-then-has_open c = grind (arith, common_steps, after_fails, locks_next)
