use Rattle.std.proofs.Common.{◌≡◌, ◌∙◌, not, ap, sym, rules}
use Rattle.ddl_effect.specs.declared.want.Want.TheVariants as wants
use Rattle.ddl_effect.specs.Stages.{plan_at}
use Rattle.cacheless.proofs.WantedPlans.{build_of_want, build_wanted, no_build}
use Rattle.cacheless.proofs.progress.Progress.act_lacks_build.Goals as goal

pub returns-in_default : goal.returns-in_default
returns-in_default c =
    sym (build_wanted c.args.self.now (plan_at c.args.self.now.opens c.args.self.now.exec)
    ∙ ap (build_of_want c.args.self.now) (sym (c.next.ensures c.args.self.now.opens))
    ∙ no_build c.args.self.now c.next.result c.in_default.not-Open c.in_default.not-Read)

pub returns-in-Read : goal.returns-in-Read
returns-in-Read c =
    ap not c.has.ensures ∙ sym (build_wanted c.args.self.now (plan_at c.args.self.now.opens c.args.self.now.exec) ∙ ap (build_of_want c.args.self.now) (sym (c.next.ensures c.args.self.now.opens) ∙ c.in-Read.is))

pub returns-in-Open : goal.returns-in-Open
returns-in-Open c =
    let lacks : c.is_some.result ≡ build_of_want c.args.self.now (wants.Open c.in-Open.rel c.in-Open.kind) = search rules in
    lacks ∙ sym (build_wanted c.args.self.now (plan_at c.args.self.now.opens c.args.self.now.exec) ∙ ap (build_of_want c.args.self.now) (sym (c.next.ensures c.args.self.now.opens) ∙ c.in-Open.is))
