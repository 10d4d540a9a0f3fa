use Rattle.std.proofs.Common.{◌∙◌, ap, sym}
use Rattle.cacheless.specs.Silently.{opened_for}
use Rattle.cacheless.proofs.WantedPlans.{opens_none}
use Rattle.cacheless.proofs.progress.Progress.act.Goals as goal

pub open-requires-clause-opens : goal.open-requires-clause-opens
open-requires-clause-opens c = sym (c.next.ensures c.args.self.now.opens) ∙ c.in-Open.is

pub find-requires : goal.find-requires
find-requires c = record { acts = c.requires.acts; other = ap opened_for (sym (c.next.ensures c.args.self.now.opens)) ∙ opens_none c.next.result c.in_default.not-Open }
