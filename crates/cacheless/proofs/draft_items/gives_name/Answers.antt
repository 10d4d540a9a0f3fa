use Rattle.std.proofs.Common.{◌∙◌}
use Rattle.ddl_effect.specs.Stages.{plan_at}
use Rattle.local_caches.specs.Caches.{kept_of}
use Rattle.cacheless.proofs.DraftNext.{clash_by, no_clash}
use Rattle.cacheless.proofs.draft_items.gives_name.Goals as goal

pub returns-in-Some : goal.returns-in-Some
returns-in-Some c = λ opens. c.draft_gives.ensures ∙ clash_by (kept_of c.args.caches.now) c.args.name c.in-Some.draft.now (plan_at opens c.args.exec.now) (c.in-Some.ensures opens)

pub returns-in-None : goal.returns-in-None
returns-in-None c = λ opens. no_clash (kept_of c.args.caches.now) c.args.name (plan_at opens c.args.exec.now) (c.in-None.ensures opens)
