use Rattle.std.proofs.lemmas.Bool.{lt-ltb}
use Rattle.std.proofs.lemmas.Result.{on_ok_weaker}
use Rattle.local_caches.specs.Caches.{is_pinned}
use Rattle.local_caches.proofs.Letting.{has_kept}
use Rattle.local_caches.proofs.local_caches.LocalCaches.pin.Goals as goal

pub returns-clause-pinned : goal.returns-clause-pinned
unfolding is_pinned
returns-clause-pinned c = on_ok_weaker c.pin.result (λ so scan home kept. lt-ltb 0 _ (so (has_kept c.args.self.now c.args.rel scan home kept))) c.pin.ensures.pinned
