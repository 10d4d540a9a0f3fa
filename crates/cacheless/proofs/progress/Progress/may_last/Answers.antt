use Rattle.std.proofs.Common.{◌∙◌, ◌&&◌, ap, sym}
use Rattle.cacheless.specs.Rule.{may_look_in, may_last}
use Rattle.cacheless.specs.State.{facts_at, work_at}
use Rattle.cacheless.proofs.progress.Progress.may_last.Goals as goal

pub returns-then-is_some : goal.returns-then-is_some
returns-then-is_some c = c.may_look.ensures
    ∙ ap (λ t. t && may_look_in (facts_at c.args.self.now) (work_at c.args.self.now)) (sym (sym c.is_some.ensures ∙ c.if-is_some.true))
    ∙ ap (may_last (facts_at c.args.self.now) (work_at c.args.self.now)) (sym c.in-Look.is)

pub returns-else-is_some : goal.returns-else-is_some
returns-else-is_some c = c.if-is_some.false
    ∙ ap (λ t. t && may_look_in (facts_at c.args.self.now) (work_at c.args.self.now)) (sym (sym c.is_some.ensures ∙ c.if-is_some.false))
    ∙ ap (may_last (facts_at c.args.self.now) (work_at c.args.self.now)) (sym c.in-Look.is)
