use Rattle.std.proofs.Common.{◌≡◌, ◌∙◌, ◌+◌, inl, inr, refl, ap, length}
use Rattle.thread_run.specs.AskedBefore.{asked_before}
use Rattle.thread_run.proofs.Asking.{asked_next, asked_far, stops_at, stops_next}
use Rattle.thread_run.proofs.Counted.{way_counted, way_few}
use Rattle.thread_run.proofs.Workers.{on_its_way, goes_over, goes_far, comes_over}
use Rattle.thread_run.proofs.worker.go_on.Goals as goal

pub ask_at-requires-clause-few : goal.ask_at-requires-clause-few
ask_at-requires-clause-few g c κs within = way_few c.args.backend.now c.requires.right

pub ask_at-requires-clause-count : goal.ask_at-requires-clause-count
ask_at-requires-clause-count g c κs within = way_counted c.args.backend.now c.requires.right

pub returns-in_err-ask_at-clause-command : goal.returns-in_err-ask_at-clause-command
returns-in_err-ask_at-clause-command g c = λ is. inl (c.in_err-ask_at.ensures.command, refl)

pub returns-in_err-ask_at-clause-stopped : goal.returns-in_err-ask_at-clause-stopped
returns-in_err-ask_at-clause-stopped g c = λ is. stops_at g.G.Gate.stops g.G.Gate.asked c.args.over c.args.backend.now c.args.gate.now c.ask_at.new.gate c.in_err-ask_at.ensures.command c.in_err-ask_at.ensures.asked

pub returns-in_err-ask_at-clause-some : goal.returns-in_err-ask_at-clause-some
returns-in_err-ask_at-clause-some g c = record { upto = c.args.backend.now.progress.finished + 1; asks = c.ask_at.ensures.asks }

pub going-init : goal.going-init
going-init g c = record { agrees = λ scenario seen is. (is, refl); steady = c.in_ok-ask_at.ensures.stops; asks = c.ask_at.ensures.asks }

pub go_to_command-requires : goal.go_to_command-requires
go_to_command-requires g c = record { right = on_its_way c.args.backend.now c.going.backend c.going.invariant.agrees c.requires.right }

pub returns-in_err-go_to_command-clause-some : goal.returns-in_err-go_to_command-clause-some
returns-in_err-go_to_command-clause-some g c = record { upto = c.going.backend.progress.finished + 1; asks = c.going.invariant.asks }

pub returns-then-not-branch-clause-waits : goal.returns-then-not-branch-clause-waits
returns-then-not-branch-clause-waits g c = goes_far c.in_ok-go_to_command.field-0 c.args.backend.now c.going.backend c.go_to_command.new.self c.going.invariant.agrees c.in_ok-go_to_command.ensures c.if-not-branch.true

pub returns-then-not-branch-clause-asks : goal.returns-then-not-branch-clause-asks
returns-then-not-branch-clause-asks g c = asked_far c.in_ok-go_to_command.field-0 c.args.backend.now c.going.backend c.go_to_command.new.self (asked_before c.args.over c.args.backend.now) (g.G.Gate.asked c.args.gate.now) (g.G.Gate.asked c.going.gate)
    c.requires.right c.going.invariant.agrees c.in_ok-go_to_command.ensures c.if-not-branch.true c.going.invariant.asks

pub returns-then-not-branch-clause-some : goal.returns-then-not-branch-clause-some
returns-then-not-branch-clause-some g c = record { upto = c.going.backend.progress.finished + 1; asks = c.going.invariant.asks }

pub ask-requires-clause-few : goal.ask-requires-clause-few
ask-requires-clause-few g c κs within = way_few c.go_to_command.new.self (on_its_way c.args.backend.now c.go_to_command.new.self (goes_over c.in_ok-go_to_command.field-0 c.args.backend.now c.going.backend c.go_to_command.new.self c.going.invariant.agrees c.in_ok-go_to_command.ensures) c.requires.right)

pub going-preserved : goal.going-preserved
going-preserved g c = let now = c.go_to_command.new.self in let over = c.in_ok-go_to_command.field-0 in
    let agrees = goes_over over c.args.backend.now c.going.backend now c.going.invariant.agrees c.in_ok-go_to_command.ensures in record {
      agrees = agrees;
      steady = c.in_ok-ask.ensures.stops ∙ c.going.invariant.steady;
      asks = asked_next over c.args.backend.now c.going.backend now (asked_before c.args.over c.args.backend.now) (length now.lines + 1) (g.G.Gate.asked c.args.gate.now) (g.G.Gate.asked c.going.gate) (g.G.Gate.asked c.ask.new.gate)
          c.requires.right c.going.invariant.agrees c.in_ok-go_to_command.ensures c.if-not-branch.false (ap (λ n. n + 1) (way_counted now (on_its_way c.args.backend.now now agrees c.requires.right))) c.going.invariant.asks c.ask.ensures.asked;
    }

pub returns-in_err-ask-clause-command : goal.returns-in_err-ask-clause-command
returns-in_err-ask-clause-command g c = λ is. inr (comes_over c.in_ok-go_to_command.field-0 c.args.backend.now c.going.backend c.go_to_command.new.self c.going.invariant.agrees c.in_ok-go_to_command.ensures c.if-not-branch.false)

pub returns-in_err-ask-clause-stopped : goal.returns-in_err-ask-clause-stopped
returns-in_err-ask-clause-stopped g c = let now = c.go_to_command.new.self in let over = c.in_ok-go_to_command.field-0 in
    let agrees = goes_over over c.args.backend.now c.going.backend now c.going.invariant.agrees c.in_ok-go_to_command.ensures in
    λ is. stops_next g.G.Gate.stops g.G.Gate.asked over c.args.backend.now c.going.backend now (asked_before c.args.over c.args.backend.now) (length now.lines + 1) c.args.gate.now c.going.gate c.ask.new.gate
    c.requires.right c.going.invariant.agrees c.in_ok-go_to_command.ensures c.if-not-branch.false (ap (λ n. n + 1) (way_counted now (on_its_way c.args.backend.now now agrees c.requires.right))) c.going.invariant.steady c.going.invariant.asks c.ask.ensures.asked

pub returns-in_err-ask-clause-some : goal.returns-in_err-ask-clause-some
returns-in_err-ask-clause-some g c = let now = c.go_to_command.new.self in let over = c.in_ok-go_to_command.field-0 in
    let agrees = goes_over over c.args.backend.now c.going.backend now c.going.invariant.agrees c.in_ok-go_to_command.ensures in record {
      upto = now.progress.finished + 1;
      asks = asked_next over c.args.backend.now c.going.backend now (asked_before c.args.over c.args.backend.now) (length now.lines + 1) (g.G.Gate.asked c.args.gate.now) (g.G.Gate.asked c.going.gate) (g.G.Gate.asked c.ask.new.gate)
          c.requires.right c.going.invariant.agrees c.in_ok-go_to_command.ensures c.if-not-branch.false (ap (λ n. n + 1) (way_counted now (on_its_way c.args.backend.now now agrees c.requires.right))) c.going.invariant.asks c.ask.ensures.asked;
    }

pub returns-then-not-branch-clause-command : goal.returns-then-not-branch-clause-command
returns-then-not-branch-clause-command g c = λ is. absurd (cc is)

pub returns-then-not-branch-clause-stopped : goal.returns-then-not-branch-clause-stopped
returns-then-not-branch-clause-stopped g c = λ is. absurd (cc is)
