use Rattle.std.proofs.Common.{◌≡◌, ◌<◌, ℕ, true, get_or}
use Rattle.event_kinds.specs.Reading.{in_token}
use Rattle.event_kinds.proofs.cursor.token_len.Given as goal

abbrev pub invariant-loop-i : goal.invariant-loop-i
invariant-loop-i l = (k : ℕ) → k < l.i → in_token (get_or l.bytes k 0) ≡ true
