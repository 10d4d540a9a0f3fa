use Rattle.std.proofs.Common.{◌∙◌, sym}
use Rattle.backend_core.proofs.Stacking.Stacks.{top_none}
use Rattle.backend_core.proofs.Choosing.ByChoice.{going_top, going_bare}
use Rattle.backend_core.proofs.backend.Backend.next_of_going.Goals as goal

pub next_of_rebuild-requires-clause-top : goal.next_of_rebuild-requires-clause-top
next_of_rebuild-requires-clause-top c = sym c.top.ensures ∙ c.in-Some.is

pub next_of_want-requires-clause-bare : goal.next_of_want-requires-clause-bare
next_of_want-requires-clause-bare c = top_none _ (sym c.top.ensures ∙ c.in-None.is)

pub next_of_want-requires-clause-whole : goal.next_of_want-requires-clause-whole
next_of_want-requires-clause-whole c = c.requires.chosen.whole _ c.requires.free.at (top_none _ (sym c.top.ensures ∙ c.in-None.is)) c.requires.goes

pub returns-in-Some-clause-is : goal.returns-in-Some-clause-is
returns-in-Some-clause-is c = going_top c.args.self.now _ _ (sym c.top.ensures ∙ c.in-Some.is) ∙ c.next_of_rebuild.ensures.is

pub returns-in-None-clause-is : goal.returns-in-None-clause-is
returns-in-None-clause-is c = going_bare c.args.self.now _ _ (sym c.top.ensures ∙ c.in-None.is) c.requires.want ∙ c.next_of_want.ensures.is
