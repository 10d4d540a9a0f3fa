use Rattle.std.proofs.Common.{◌∙◌, ap}
use Rattle.shared_seg.specs.Kept.{Kept}
use Rattle.shared_seg.proofs.Unchanged.{keeps_retold}
use Rattle.shared_seg.proofs.shared.Shared.retell.Goals as goal

pub invariant_of-self : goal.invariant_of-self
invariant_of-self g c = keeps_retold c.self.inside.script.scenario _ _ _ _ _ _ _ _ c.retold-retold.ensures (g.R.Retold.is_script c.args.by.now _ c.self.invariant.folds.script_is) (g.R.Retold.backends c.args.by.now _) (g.R.Retold.size c.args.by.now _) (g.R.Retold.from c.args.by.now _) c.self.invariant

pub returns-clause-script : goal.returns-clause-script
returns-clause-script g c = c.retold-retold.ensures ∙ ap (λ (k : Kept). g.R.Retold.retold c.args.by.now k.script) c.self.view_is
