use Rattle.std.proofs.Common.{◌∙◌}
use Rattle.ddl_effect.specs.Stages.{plan_at}
use Rattle.cacheless.proofs.DraftNext.{write_by, no_write}
use Rattle.cacheless.proofs.draft_items.writes_items.Goals as goal

pub returns-in-Some : goal.returns-in-Some
returns-in-Some c = λ opens. c.writes_draft.ensures ∙ write_by c.args.next c.args.items.now c.in-Some.draft.now (plan_at opens c.args.exec.now) (c.in-Some.ensures opens)

pub returns-in-None : goal.returns-in-None
returns-in-None c = λ opens. no_write c.args.next c.args.items.now (plan_at opens c.args.exec.now) (c.in-None.ensures opens)
