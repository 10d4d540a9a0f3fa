use Rattle.std.proofs.Common.{take}
use Rattle.std.specs.List.{All}
use Rattle.out_text.specs.Typed.{IsTyped}
use Rattle.out_text.proofs.typed.look_at_entries.Given as goal

abbrev pub invariant-loop-entry : goal.invariant-loop-entry
invariant-loop-entry l = All IsTyped (take l.entry-index l.history)
