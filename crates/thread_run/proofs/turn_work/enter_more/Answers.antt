use Rattle.std.proofs.Common.{◌∙◌, refl, sym, arith}
use Rattle.std.proofs.lemmas.Bool.{both_ways}
use Rattle.backend_core.proofs.PlacesWanted.{kept_only}
use Rattle.thread_run.proofs.Played.{more_least, plays_same, plays_then, comes_here, comes_over, comes_then, taken_right, goes_to, goes_far, goes_may, backend_still}
use Rattle.thread_run.proofs.turn_work.enter_more.Goals as goal

pub entering-init : goal.entering-init
entering-init g c = record { plays = plays_same refl refl c.requires.taken.run (λ a apart. refl) (kept_only refl); few = omega arith; full = omega arith; comes = comes_here c.requires.taken }

pub returns-then-is_stopped-clause-plays : goal.returns-then-is_stopped-clause-plays
returns-then-is_stopped-clause-plays g c = c.entering.invariant.plays

pub returns-then-is_stopped-clause-comes : goal.returns-then-is_stopped-clause-comes
returns-then-is_stopped-clause-comes g c = c.entering.invariant.comes

pub go_to_command-requires : goal.go_to_command-requires
go_to_command-requires g c = record { right = taken_right c.entering.invariant.comes.taken (sym c.is_stopped.ensures ∙ c.if-is_stopped.false) }

pub returns-in_err-go_to_command-clause-plays : goal.returns-in_err-go_to_command-clause-plays
returns-in_err-go_to_command-clause-plays g c = c.entering.invariant.plays

pub returns-then-branch-clause-plays : goal.returns-then-branch-clause-plays
returns-then-branch-clause-plays g c = c.entering.invariant.plays

pub returns-then-branch-clause-comes : goal.returns-then-branch-clause-comes
returns-then-branch-clause-comes g c = comes_then c.entering.invariant.comes (goes_to c.entering.invariant.comes.taken (sym c.is_stopped.ensures ∙ c.if-is_stopped.false) c.in_ok-go_to_command.ensures c.if-branch.true)

pub enter_one-requires : goal.enter_one-requires
enter_one-requires g c = let i = c.entering.invariant in record {
  may = goes_may (backend_still i.plays.script c.requires.backend) i.comes.taken (sym c.is_stopped.ensures ∙ c.if-is_stopped.false) c.in_ok-go_to_command.ensures c.if-branch.false;
}

pub returns-in_err-enter_one-clause-plays : goal.returns-in_err-enter_one-clause-plays
returns-in_err-enter_one-clause-plays g c = plays_then c.entering.invariant.plays c.in_err-enter_one.ensures.plays

pub returns-then-branch-2-clause-plays : goal.returns-then-branch-2-clause-plays
returns-then-branch-2-clause-plays g c = plays_then c.entering.invariant.plays c.in_ok-enter_one.ensures.plays

pub returns-then-branch-2-clause-comes : goal.returns-then-branch-2-clause-comes
returns-then-branch-2-clause-comes g c = let i = c.entering.invariant in
    comes_then (comes_then i.comes (goes_far i.comes.taken (sym c.is_stopped.ensures ∙ c.if-is_stopped.false) c.in_ok-go_to_command.ensures c.if-branch.false)) (comes_over c.if-branch-2.true c.in_ok-enter_one.ensures.comes)

pub entering-preserved : goal.entering-preserved
entering-preserved g c = let i = c.entering.invariant in record {
  plays = plays_then i.plays c.in_ok-enter_one.ensures.plays;
  few = let few = i.few in let one = c.in_ok-enter_one.ensures.few in omega (arith, few, one);
  full = let full = i.full in let one = more_least c.in_ok-enter_one.ensures.more in omega (arith, full, one);
  comes = comes_then (comes_then i.comes (goes_far i.comes.taken (sym c.is_stopped.ensures ∙ c.if-is_stopped.false) c.in_ok-go_to_command.ensures c.if-branch.false)) (comes_over c.if-branch-2.false c.in_ok-enter_one.ensures.comes);
}

pub returns-clause-plays : goal.returns-clause-plays
returns-clause-plays g c = c.entering.invariant.plays

pub returns-clause-comes : goal.returns-clause-comes
returns-clause-comes g c = c.entering.invariant.comes

pub returns-then-is_stopped-clause-full : goal.returns-then-is_stopped-clause-full
returns-then-is_stopped-clause-full g c = λ over stays. absurd (both_ways _ stays (sym c.is_stopped.ensures ∙ c.if-is_stopped.true))

pub returns-then-branch-clause-full : goal.returns-then-branch-clause-full
returns-then-branch-clause-full g c = λ over. absurd (cc over)

pub returns-then-branch-2-clause-full : goal.returns-then-branch-2-clause-full
returns-then-branch-2-clause-full g c = λ over. absurd (cc over)
