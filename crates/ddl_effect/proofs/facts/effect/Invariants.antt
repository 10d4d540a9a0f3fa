use Rattle.std.proofs.Common.{◌≡◌}
use Rattle.base_types.specs.Scans.{scan_of}
use Rattle.ddl_effect.specs.Commands.{plan_of}
use Rattle.ddl_effect.specs.Effects.{effect_of}
use Rattle.ddl_effect.specs.Stages.{plan_at, acts_left}
use Rattle.ddl_effect.proofs.facts.effect.Given as goal

abbrev pub invariant-acts : goal.invariant-acts
invariant-acts l = effect_of (λ scan. scan_of scan l.facts.rows) (plan_at l.facts.opened l.exec) ≡ effect_of (λ scan. scan_of scan l.facts.rows) (plan_of l.facts.opened l.command)

abbrev pub decreases-acts : goal.decreases-acts
decreases-acts l = acts_left l.exec
