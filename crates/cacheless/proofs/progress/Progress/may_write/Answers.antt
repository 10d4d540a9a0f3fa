use Rattle.std.proofs.Common.{◌∙◌, ◌&&◌, ap, sym}
use Rattle.ddl_effect.specs.Stages.{plan_at}
use Rattle.cacheless.specs.Rule.{is_write}
use Rattle.cacheless.proofs.progress.Progress.may_write.Goals as goal

pub returns-then-owes_nothing : goal.returns-then-owes_nothing
returns-then-owes_nothing c =
    c.writes_items.ensures c.args.self.now.opens
    ∙ ap (λ t. t && is_write c.args.next_oid c.args.items.now (plan_at c.args.self.now.opens c.args.self.now.exec)) (sym c.if-owes_nothing.true ∙ c.owes_nothing.ensures)
