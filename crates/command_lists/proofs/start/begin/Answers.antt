use Rattle.std.proofs.Common.{◌++◌, subst}
use Rattle.std.specs.Option.{option_to_list}
use Rattle.command_lists.specs.Starts.{AreWithin}
use Rattle.command_lists.proofs.Registering.{last-before}
use Rattle.command_lists.proofs.start.begin.Goals as goal

pub returns-then-start-command-clause-before : goal.returns-then-start-command-clause-before
returns-then-start-command-clause-before c =
    last-before c.args.ended.now.items c.in-Some.start c.args.end (subst (λ running. AreWithin (c.args.ended.now.items ++ option_to_list running) c.args.end) c.in-Some.is c.requires.within)
