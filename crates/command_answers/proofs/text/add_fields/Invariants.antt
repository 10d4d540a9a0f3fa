use Rattle.std.proofs.Common.{◌≡◌, ◌++◌, take}
use Rattle.base_types.specs.Names.{IsInLine}
use Rattle.command_answers.specs.Answers.{shown_list}
use Rattle.command_answers.proofs.text.add_fields.Given as goal

abbrev pub invariant-loop-shown : goal.invariant-loop-shown
invariant-loop-shown l = record {
  text : l.out.items ≡ l.fn.out.items ++ shown_list (take l.shown-index l.fields);
  in_line : IsInLine (shown_list (take l.shown-index l.fields));
}
