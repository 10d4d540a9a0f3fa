use Rattle.std.proofs.Common.{◌∙◌, ◌&&◌, ap, sym}
use Rattle.ddl_effect.specs.Stages.{plan_at}
use Rattle.cacheless.specs.Rule.{is_clash}
use Rattle.cacheless.specs.State.{kept_at}
use Rattle.cacheless.proofs.progress.Progress.may_clash.Goals as goal

pub returns-then-owes_nothing : goal.returns-then-owes_nothing
returns-then-owes_nothing c =
    c.gives_name.ensures c.args.self.now.opens
    ∙ ap (λ t. t && is_clash (kept_at c.args.self.now) c.args.name (plan_at c.args.self.now.opens c.args.self.now.exec)) (sym c.if-owes_nothing.true ∙ c.owes_nothing.ensures)
