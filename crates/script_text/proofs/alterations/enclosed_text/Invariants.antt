use Rattle.std.proofs.Common.{◌≡◌, ◌≤◌, length}
use Rattle.script_text.specs.Commands.{enclosed}
use Rattle.script_text.proofs.ItemByItem.{with_text}
use Rattle.script_text.proofs.alterations.enclosed_text.Given as goal

abbrev pub invariant-tokens : goal.invariant-tokens
invariant-tokens l = record {
  read : with_text l.text (enclosed l.tokens) ≡ enclosed l.fn.tokens;
  short : length l.text ≤ 63;
}

abbrev pub decreases-tokens : goal.decreases-tokens
decreases-tokens l = length l.tokens
