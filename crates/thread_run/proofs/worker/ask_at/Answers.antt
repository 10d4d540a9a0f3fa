use Rattle.std.proofs.Common.{◌+◌, ◌∙◌, [], ◌∷◌, ◌++◌, ap, length}
use Rattle.thread_run.specs.Asks.{ask_of}
use Rattle.thread_run.proofs.Asking.{asked_at, asked_within}
use Rattle.thread_run.proofs.Workers.{any_err}
use Rattle.thread_run.proofs.worker.ask_at.Goals as goal

pub returns-then-over-clause-command : goal.returns-then-over-clause-command
returns-then-over-clause-command g c = any_err c.ask.result c.if-over.true

pub returns-then-over-clause-asked : goal.returns-then-over-clause-asked
returns-then-over-clause-asked g c = any_err c.ask.result (c.ask.ensures.asked ∙ ap (λ n. g.G.Gate.asked c.args.gate.now ++ ask_of c.args.backend.now.progress.id (n + 1) ∷ []) c.requires.count)

pub returns-then-over-clause-asks : goal.returns-then-over-clause-asks
returns-then-over-clause-asks g c = asked_at c.args.over c.args.backend.now (length c.args.backend.now.lines + 1) (g.G.Gate.asked c.args.gate.now) (g.G.Gate.asked c.ask.new.gate) c.if-over.true (ap (λ n. n + 1) c.requires.count) c.ask.ensures.asked

pub returns-clause-asks : goal.returns-clause-asks
returns-clause-asks g c = asked_within c.args.over c.args.backend.now (g.G.Gate.asked c.args.gate.now) c.if-over.false
