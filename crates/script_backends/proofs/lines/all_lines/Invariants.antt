use Rattle.std.proofs.Common.{◌≡◌, take}
use Rattle.script_backends.specs.Sessions.{transcripts_of}
use Rattle.script_backends.proofs.lines.all_lines.Given as goal

abbrev pub invariant-loop-backend : goal.invariant-loop-backend
invariant-loop-backend l = l.lines.items ≡ transcripts_of (take l.backend-index l.backends)
