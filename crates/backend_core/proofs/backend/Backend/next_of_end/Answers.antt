use Rattle.std.proofs.Common.{◌∙◌, sym, ap}
use Rattle.cacheless.specs.Endings.{end_of_ending}
use Rattle.backend_core.proofs.Choosing.Nexting.{never_ends, commits_next, takes_back_next}
use Rattle.backend_core.proofs.backend.Backend.next_of_end.Goals as goal

pub returns-in-Commits-clause-next : goal.returns-in-Commits-clause-next
returns-in-Commits-clause-next c = (commits_next c.args.self.now _ _ _ c.requires.still c.requires.free c.requires.out c.requires.whole c.requires.bare c.requires.accepted (sym c.end.ensures ∙ ap end_of_ending c.in-Commits.is) c.next_of_commit.ensures).0

pub returns-in-Commits-clause-is : goal.returns-in-Commits-clause-is
returns-in-Commits-clause-is c = (commits_next c.args.self.now _ _ _ c.requires.still c.requires.free c.requires.out c.requires.whole c.requires.bare c.requires.accepted (sym c.end.ensures ∙ ap end_of_ending c.in-Commits.is) c.next_of_commit.ensures).1

pub returns-in-TakesBack-clause-next : goal.returns-in-TakesBack-clause-next
returns-in-TakesBack-clause-next c = (takes_back_next c.args.self.now _ _ _ c.requires.still c.requires.free c.requires.out c.requires.whole c.requires.bare c.requires.accepted (sym c.end.ensures ∙ ap end_of_ending c.in-TakesBack.is) c.next_of_back.ensures).0

pub returns-in-TakesBack-clause-is : goal.returns-in-TakesBack-clause-is
returns-in-TakesBack-clause-is c = (takes_back_next c.args.self.now _ _ _ c.requires.still c.requires.free c.requires.out c.requires.whole c.requires.bare c.requires.accepted (sym c.end.ensures ∙ ap end_of_ending c.in-TakesBack.is) c.next_of_back.ensures).1

pub unreachable-requires : goal.unreachable-requires
unreachable-requires c = never_ends c.args.self.now c.args.command.now c.requires.still c.requires.free c.requires.out c.requires.whole (sym c.end.ensures ∙ ap end_of_ending c.in-Ends.is)
