use Rattle.std.proofs.Common.{◌≡◌, ◌∙◌, ap, sym, rules}
use Rattle.ddl_effect.specs.declared.want.Want.TheVariants as wants
use Rattle.ddl_effect.specs.Stages.{plan_at}
use Rattle.backend_core.proofs.Wanted.{unfound_of_want, unfound_wanted, not_unfound}
use Rattle.backend_core.proofs.backend.Backend.is_unfound.Goals as goal

pub returns-then-has : goal.returns-then-has
returns-then-has c =
    let goes : c.is_none-then-has.result ≡ unfound_of_want c.args.self.now.progress (wants.Lookup c.in-Lookup.name c.in-Lookup.mode) = search rules in
    goes ∙ sym (unfound_wanted c.args.self.now.progress (plan_at c.args.self.now.progress.opens c.args.self.now.progress.exec) ∙ ap (unfound_of_want c.args.self.now.progress) (sym (c.next.ensures c.args.self.now.progress.opens) ∙ c.in-Lookup.is))

pub returns-else-has : goal.returns-else-has
returns-else-has c =
    let goes : c.if-is_none.value ≡ unfound_of_want c.args.self.now.progress (wants.Lookup c.in-Lookup.name c.in-Lookup.mode) = search rules in
    goes ∙ sym (unfound_wanted c.args.self.now.progress (plan_at c.args.self.now.progress.opens c.args.self.now.progress.exec) ∙ ap (unfound_of_want c.args.self.now.progress) (sym (c.next.ensures c.args.self.now.progress.opens) ∙ c.in-Lookup.is))

pub returns-in_default : goal.returns-in_default
returns-in_default c =
    sym (unfound_wanted c.args.self.now.progress (plan_at c.args.self.now.progress.opens c.args.self.now.progress.exec) ∙ ap (unfound_of_want c.args.self.now.progress) (sym (c.next.ensures c.args.self.now.progress.opens)) ∙ not_unfound c.args.self.now.progress c.next.result c.in_default.not-Lookup)
