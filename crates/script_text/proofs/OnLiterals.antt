-- What a proof unfolds to compute the grammar at tokens that are written out.
use Rattle.std.specs.Prelude.{⊤}
use Rattle.script_text.specs.TextLines.{text_lines, bare, counts}
use Rattle.script_text.specs.Tokens.{tokens, after_words, after, is_end, ends}
use Rattle.script_text.specs.Operands.{number_of, number_within, stat_of, plain_name_of, word_of, check_text_of, type_of, field_of}
use Rattle.script_text.specs.Commands.{command_of, short_command, alter_command, long_command, bare_command, savepoint_command, name_command, show_command, table_command, pair_command, regclass_command, lock_command, one_name, two_names, names_after, lock_mode, enclosed_text, check_part, referred_part, key_part, enclosed_names, enclosed_columns, shown_after, optional_field, add_column_command, rename_column_command, default_command, statistics_command, fillfactor_command, foreign_command, check_command, create_table_command, create_index_command, validity, enclosed, columns_at, names_at}
use Rattle.script_text.specs.LineForms.{ring_of, from_part, first_of, size_of, backends_of, steps_of, all_turns, addressed}
use Rattle.script_text.specs.Grammar.{ring_line, backends_line, steps_line, command_line, body_line, tokens_line, line_after, any_line, lines_from, script_of}

-- the forms of commands, over tokens
unfoldable pub command_forms : ⊤
unfolding tokens after_words after is_end ends command_of short_command alter_command long_command bare_command savepoint_command name_command show_command table_command pair_command regclass_command lock_command one_name two_names names_after lock_mode enclosed_text check_part referred_part key_part enclosed_names enclosed_columns shown_after optional_field add_column_command rename_column_command default_command statistics_command fillfactor_command foreign_command check_command create_table_command create_index_command validity
command_forms = tt

-- scripts, from their bytes on
unfoldable pub whole_scripts : ⊤
unfolding command_forms text_lines bare counts number_of number_within stat_of plain_name_of word_of check_text_of type_of field_of enclosed columns_at names_at ring_of from_part first_of size_of backends_of steps_of all_turns addressed ring_line backends_line steps_line command_line body_line tokens_line line_after any_line lines_from script_of
whole_scripts = tt
