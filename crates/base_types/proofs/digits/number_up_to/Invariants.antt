use Rattle.std.proofs.Common.{◌≡◌, ◌≤◌, take}
use Rattle.base_types.specs.Names.{number_of_digits}
use Rattle.base_types.proofs.digits.number_up_to.Given as goal

abbrev pub invariant-loop-byte : goal.invariant-loop-byte
invariant-loop-byte l = record { same : l.number ≡ number_of_digits (take l.byte-index l.digits); low : l.number ≤ l.most }
