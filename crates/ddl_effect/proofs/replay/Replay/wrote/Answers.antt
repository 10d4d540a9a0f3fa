use Rattle.std.proofs.Common.{◌∙◌, Ok, ap, subst, sym}
use Rattle.std.specs.Option.{option_copied}
use Rattle.ddl_effect.specs.Parts.{writing}
use Rattle.ddl_effect.specs.Replays.{Comes}
use Rattle.ddl_effect.specs.declared.step.Step.TheVariants as steps
use Rattle.ddl_effect.specs.declared.told.Told.TheVariants as tells
use Rattle.ddl_effect.proofs.Replays.{comes_wrote}
use Rattle.ddl_effect.proofs.replay.Replay.wrote.Goals as goal

pub returns-in-Some : goal.returns-in-Some
returns-in-Some c = λ was draft.
    subst (λ left. Comes (Ok (steps.Done tells.Ok)) left (writing draft)) c.self.view_is
    (comes_wrote c.self.inside.left.now c.in-Some.field-0.now draft (sym c.first.ensures.value ∙ ap option_copied c.in-Some.is))
