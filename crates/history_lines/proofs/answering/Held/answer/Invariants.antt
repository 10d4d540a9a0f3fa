use Rattle.std.proofs.Common.{◌≡◌, take}
use Rattle.history_lines.specs.AllowedNext.{lines_held}
use Rattle.history_lines.proofs.answering.Held.answer.Given as goal

abbrev pub invariant-loop-session : goal.invariant-loop-session
invariant-loop-session l = l.lines.items ≡ lines_held (take l.session-index l.self.sessions.items)
