use Rattle.std.proofs.Common.{◌≡◌, ◌∙◌, ap, length, map, arith}
use Rattle.std.proofs.lemmas.List.{take_at}
use Rattle.cacheless.specs.State.{kept_at, is_kept}
use Rattle.backend_core.specs.Frames.{restarted}
use Rattle.backend_core.proofs.frames.Frames.restart.Goals as goal

pub returns-then-not-fails : goal.returns-then-not-fails
returns-then-not-fails c =
    let whole : length c.restart_each.new.frames ≡ c.self.inside.items.len = omega (arith, c.restart_each.auto.frames, c.deref_mut.ensures.len, c.self.inside.items.ok) in
    rw c.if-not-fails.true (take_at c.restart_each.new.frames _ _ whole ∙ c.restart_each.ensures ∙ ap (map (restarted (is_kept (kept_at c.args.progress.now)))) (c.deref_mut.ensures.value ∙ c.self.view_is))
