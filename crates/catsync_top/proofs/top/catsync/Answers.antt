use Rattle.std.proofs.Common.{rules, map}
use Rattle.std.specs.String.{string_bytes}
use Rattle.edge_io.specs.Taken.{Grows, GrowsByFront}
use Rattle.cacheless.specs.declared.check_kind.CheckKind.TheVariants as kinds
use Rattle.catsync_top.specs.declared.arguments.Word.TheVariants as words
use Rattle.catsync_top.specs.Top.{Ask}
use Rattle.catsync_top.proofs.Asked.{ran_as_asked}
use Rattle.catsync_top.proofs.Made.{same_script}
use Rattle.catsync_top.proofs.Numbers.{one_number}
use Rattle.catsync_top.proofs.top.catsync.Goals as goal

pub returns-in-Some-clause-made : goal.returns-in-Some-clause-made
returns-in-Some-clause-made g c =
    λ number ask done. same_script c.in-Some.number number _ _ Grows (one_number (map string_bytes c.args.arguments.now) c.in-Some.number number c.in-Some.ensures ask) (c.write_made.ensures.made done)

pub returns-in-Some-clause-made_front : goal.returns-in-Some-clause-made_front
returns-in-Some-clause-made_front g c =
    λ number ask failed. same_script c.in-Some.number number _ _ GrowsByFront (one_number (map string_bytes c.args.arguments.now) c.in-Some.number number c.in-Some.ensures ask) (c.write_made.ensures.write_front failed)

pub returns-in-Output-Walk-clause-coherent : goal.returns-in-Output-Walk-clause-coherent
returns-in-Output-Walk-clause-coherent g c =
    let asks : Ask (map string_bytes c.args.arguments.now) (words.Output kinds.Walk) = search rules in
    λ asked ask done. ran_as_asked (map string_bytes c.args.arguments.now) kinds.Walk asked _ _ _ _ Grows _ asks ask (c.walk_script.ensures.done done)

pub returns-in-Output-Walk-clause-coherent_front : goal.returns-in-Output-Walk-clause-coherent_front
returns-in-Output-Walk-clause-coherent_front g c =
    let asks : Ask (map string_bytes c.args.arguments.now) (words.Output kinds.Walk) = search rules in
    λ asked ask failed. ran_as_asked (map string_bytes c.args.arguments.now) kinds.Walk asked _ _ _ _ GrowsByFront _ asks ask (c.walk_script.ensures.write_front failed)

pub returns-in-Output-Run-clause-coherent : goal.returns-in-Output-Run-clause-coherent
returns-in-Output-Run-clause-coherent g c =
    let asks : Ask (map string_bytes c.args.arguments.now) (words.Output kinds.Run) = search rules in
    λ asked ask done. ran_as_asked (map string_bytes c.args.arguments.now) kinds.Run asked _ _ _ _ Grows _ asks ask (c.run_script.ensures.done done)

pub returns-in-Output-Run-clause-coherent_front : goal.returns-in-Output-Run-clause-coherent_front
returns-in-Output-Run-clause-coherent_front g c =
    let asks : Ask (map string_bytes c.args.arguments.now) (words.Output kinds.Run) = search rules in
    λ asked ask failed. ran_as_asked (map string_bytes c.args.arguments.now) kinds.Run asked _ _ _ _ GrowsByFront _ asks ask (c.run_script.ensures.write_front failed)
