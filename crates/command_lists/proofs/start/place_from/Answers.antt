use Rattle.std.proofs.Common.{◌≡◌, ◌++◌, nat_le, filter, subst, sym, arith}
use Rattle.std.specs.Option.{option_to_list}
use Rattle.std.proofs.lemmas.Grind.{common_steps}
use Rattle.command_lists.specs.Starts.{IsBefore, first_of}
use Rattle.command_lists.proofs.Parts.{order-left, cut-before}
use Rattle.command_lists.proofs.start.place_from.Goals as goal

pub count_before-requires : goal.count_before-requires
count_before-requires c = order-left c.args.ended.now (option_to_list c.args.running) c.requires.order

pub returns-in-Some : goal.returns-in-Some
returns-in-Some c =
    let place : c.in-Some.start.now.at ≡ first_of (filter (λ start. nat_le c.args.from start.command) (c.args.ended.now ++ option_to_list c.args.running)) c.args.end = grind (arith, common_steps) in
    record { before = subst (λ at. IsBefore at c.args.end) (sym place) (cut-before c.args.from _ c.args.end c.requires.order c.requires.within); place = place }

pub returns-in-Some-running : goal.returns-in-Some-running
returns-in-Some-running c =
    let place : c.in-Some-running.start.at ≡ first_of (filter (λ start. nat_le c.args.from start.command) (c.args.ended.now ++ option_to_list c.args.running)) c.args.end = grind (arith, common_steps) in
    record { before = subst (λ at. IsBefore at c.args.end) (sym place) (cut-before c.args.from _ c.args.end c.requires.order c.requires.within); place = place }
