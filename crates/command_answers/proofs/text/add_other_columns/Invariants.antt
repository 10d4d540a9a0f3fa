use Rattle.std.proofs.Common.{◌≡◌, ◌++◌, codes, take}
use Rattle.std.specs.List.{flat_map}
use Rattle.base_types.specs.Names.{IsInLine}
use Rattle.command_answers.specs.Answers.{column_text}
use Rattle.command_answers.proofs.text.add_other_columns.Given as goal

abbrev pub invariant-loop-column : goal.invariant-loop-column
invariant-loop-column l = record {
  text : l.out.items ≡ l.fn.out.items ++ flat_map (λ column. codes " " ++ column_text column) (take l.column-index l.columns);
  in_line : IsInLine (flat_map (λ column. codes " " ++ column_text column) (take l.column-index l.columns));
}
