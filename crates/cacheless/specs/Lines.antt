-- What each finished command answers, read off the history alone.
use Rattle.std.specs.Prelude.{ℕ, Bool, true, false, Option, Some, None, List, [], ◌∷◌, ◌+◌, take, map}
use Rattle.std.specs.Option.{option_map_or}
use Rattle.std.specs.List.{flat_map, range_with_len}
use Rattle.base_types.specs.Fields.{fields_of, read_by}
use Rattle.base_types.specs.declared.row.Row.TheVariants as rows
use Rattle.base_types.specs.declared.scan.Purpose.TheVariants.{RelName, RelOid}
use Rattle.command_answers.specs.declared.answer.Answer.TheVariants as answers
use Rattle.command_answers.specs.Answers.{answer_text}
use Rattle.ddl_effect.specs.Commands.{plan_of, commands_of, absent_error}
use Rattle.txn_blocks.specs.Blocks.{Block, Failed}
use Rattle.ddl_effect.specs.Effects.{Effect, Nothing, Refuses, Unknown, Writes, effect_at}
use Rattle.ddl_effect.specs.declared.told.Told.TheVariants as tells
use Rattle.history_model.specs.Versions.{answer_of, fresh_text}
use Rattle.history_model.specs.Transactions.{has_written}
use Rattle.history_model.specs.Read.{place_read}
use Rattle.cacheless.specs.Types.{Oid, Kind, Field, Row, Command, Scenario, CommandError, Answer, Shown, Told, Entry, Line}
use Rattle.cacheless.specs.Session.{Finished}
use Rattle.cacheless.specs.Sessions.{session_of}
use Rattle.cacheless.specs.Protected.{is_protected}

-- a field as it was read, with the place of the scan that read it
abbrev pub read_field : List Entry → ℕ → Oid → Field → Shown
read_field history b rel field = let at = place_read history b (read_by field rel) in record { field = field; value = fresh_text (take at history) b rel field; at = Some at }

-- a field under locks that protect it is shown as it is now; any other as it was read
abbrev pub shown_field : Scenario → List Entry → ℕ → Oid → Kind → Field → Shown
shown_field scenario history b rel kind field = elim (is_protected scenario history b rel kind field) [ true ↦ record { field = field; value = fresh_text history b rel field; at = None } | false ↦ read_field history b rel field ]

-- the name of a relation, by its row
abbrev pub name_in : List Row → Option (List ℕ)
name_in (rows.Class oid name kind fill ∷ more) = Some name
name_in given = None

-- the name of an oid as it was read, with the place of the scan that read it
abbrev pub read_name : List Entry → ℕ → Oid → Answer
read_name history b oid = let at = place_read history b (RelOid oid) in answers.Regclass oid (name_in (answer_of (take at history) b (RelOid oid))) at

-- a commit of a failed block is a rollback
abbrev pub commit_answer : Block → Answer
commit_answer Failed = answers.RolledBack
commit_answer block = answers.Ok

-- what a command answers that didn't fail, by what it tells, judged by these entries
abbrev pub answer_well : Scenario → List Entry → ℕ → Finished → Told → Answer
answer_well scenario history b f tells.Ok = answers.Ok
answer_well scenario history b f (tells.Relation rel kind) = answers.Shown kind rel (map (shown_field scenario history b rel kind) (fields_of kind))
answer_well scenario history b f (tells.Field rel kind field) = answers.One (shown_field scenario history b rel kind field)
answer_well scenario history b f (tells.Columns columns) = answers.Columns columns
answer_well scenario history b f (tells.Column num col_type) = answers.Column num col_type
answer_well scenario history b f (tells.Regclass oid) = read_name history b oid
answer_well scenario history b f tells.Commit = commit_answer f.block

-- what a command answers, by what it comes to
abbrev pub answer_by : Scenario → List Entry → ℕ → Finished → Command → Effect → Answer
answer_by scenario history b f command (Nothing told) = answer_well scenario history b f told
answer_by scenario history b f command (Refuses error) = answers.Error error
answer_by scenario history b f command (Unknown name) = answers.Error (absent_error command name (place_read history b (RelName name)))
answer_by scenario history b f command (Writes draft) = answers.Ok

-- what a command comes to: one that has written has no other cause
abbrev pub effect_judged : List Entry → ℕ → Finished → Bool → Command → Effect
effect_judged history b f true command = Nothing tells.Ok
effect_judged history b f false command = effect_at (answer_of history b) f.found (plan_of f.opens command)

-- what a command answers: the error that the blocks or an entry showed, or else by what it comes to
abbrev pub answer_judged : Scenario → List Entry → ℕ → ℕ → Finished → Command → Option CommandError → Answer
answer_judged scenario history b c f command (Some error) = answers.Error error
answer_judged scenario history b c f command None = answer_by scenario history b f command (effect_judged history b f (has_written history b c) command)

-- the answer line of a command, judged by the entries up to the place where it is judged
abbrev pub line_of : Scenario → List Entry → ℕ → ℕ → Finished → Command → Line
line_of scenario history b c f command = record { backend = b; command = c; text = answer_text (answer_judged scenario (take f.judged history) b c f command f.refused) }

-- the lines of finished commands, the first of which has this number
abbrev pub lines_from : Scenario → List Entry → ℕ → ℕ → List Finished → List Command → List Line
lines_from scenario history b c [] commands = []
lines_from scenario history b c (f ∷ finished) [] = []
lines_from scenario history b c (f ∷ finished) (command ∷ commands) = line_of scenario history b c f command ∷ lines_from scenario history b (c + 1) finished commands

-- the lines of a backend's finished commands, in order
abbrev pub lines_of_backend : Scenario → List Entry → ℕ → List Line
lines_of_backend scenario history b = lines_from scenario history b 1 (option_map_or (λ s. s.finished) (session_of scenario history b) []) (commands_of scenario b)

-- the lines of all backends, in order of backend and command
abbrev pub lines_of : Scenario → List Entry → List Line
lines_of scenario history = flat_map (lines_of_backend scenario history) (range_with_len 1 scenario.backends)
