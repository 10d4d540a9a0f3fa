use Rattle.std.proofs.Common.{◌∙◌, sym}
use Rattle.backend_core.proofs.Choosing.Nexting.{publish_comes}
use Rattle.backend_core.proofs.backend.Backend.next_of_commit.Goals as goal

pub returns : goal.returns
returns c = publish_comes c.args.self.now.progress c.args.first _ (sym c.has_write_since.ensures ∙ c.if-not-has_write_since.false) (sym c.is_visible.ensures ∙ c.if-not-is_visible.false) c.unpublished.ensures.next (sym c.is_empty.ensures ∙ c.if-is_empty.false)
