use Rattle.std.proofs.Common.{◌∙◌, ap, sym}
use Rattle.cacheless.specs.Rule.{same_end}
use Rattle.cacheless.proofs.CommandEnds.{publishes_next}
use Rattle.cacheless.proofs.progress.Progress.is_next_of_commit.Goals as goal

pub returns : goal.returns
returns c = c.is_publish.ensures ∙ ap (λ e. same_end e c.args.event.now) (publishes_next c.args.self.now c.args.first c.unpublished-unsent.result.now (sym c.has_write_since.ensures ∙ c.if-not-has_write_since.false) (sym c.is_visible.ensures ∙ c.if-not-is_visible.false) c.unpublished-unsent.ensures.next c.if-unsent-eq0.false)
