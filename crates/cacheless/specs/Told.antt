-- What the running command answers, by what the last scans of its backend gave and by its locks.
use Rattle.std.specs.Prelude.{ℕ, Bool, true, false, Some, None, List, map, if◌then◌else◌}
use Rattle.base_types.specs.Fields.{field_text, fields_of, read_by}
use Rattle.base_types.specs.declared.scan.Purpose.TheVariants as scans
use Rattle.command_answers.specs.declared.answer.Answer.TheVariants as answers
use Rattle.lock_modes.specs.Own.{clear_modes}
use Rattle.ddl_effect.specs.declared.told.Told.TheVariants as tells
use Rattle.ddl_effect.specs.Commands.{absent_error}
use Rattle.ddl_effect.specs.Plans.{Plan, Done, Fails, Absent}
use Rattle.txn_blocks.specs.Blocks.{Block}
use Rattle.history_model.specs.Read.{place_read, rows_read}
use Rattle.cacheless.specs.Types.{Oid, Kind, Field, Row, Purpose, Command, OwnLock, Answer, Shown, Told, Entry}
use Rattle.cacheless.specs.Lines.{name_in, commit_answer}
use Rattle.cacheless.specs.Protected.{protects}
use Rattle.cacheless.specs.Session.{Session}

-- a field by what the last scan for it gave and where that stands, which is told unless locks protect the field
abbrev pub told_field : (Purpose → List Row) → (Purpose → ℕ) → List OwnLock → Oid → Kind → Field → Shown
told_field rows places locks rel kind field = record { field = field; value = field_text field rel (rows (read_by field rel)); at = if protects (clear_modes locks rel) kind field then None else Some (places (read_by field rel)) }

-- the name of an oid by what the last scan for it gave
abbrev pub told_name : (Purpose → List Row) → (Purpose → ℕ) → Oid → Answer
told_name rows places oid = answers.Regclass oid (name_in (rows (scans.RelOid oid))) (places (scans.RelOid oid))

-- of a command that began in this block and came out well, by what it tells
abbrev pub told_well : (Purpose → List Row) → (Purpose → ℕ) → List OwnLock → Block → Told → Answer
told_well rows places locks block tells.Ok = answers.Ok
told_well rows places locks block (tells.Relation rel kind) = answers.Shown kind rel (map (told_field rows places locks rel kind) (fields_of kind))
told_well rows places locks block (tells.Field rel kind field) = answers.One (told_field rows places locks rel kind field)
told_well rows places locks block (tells.Columns columns) = answers.Columns columns
told_well rows places locks block (tells.Column num col_type) = answers.Column num col_type
told_well rows places locks block (tells.Regclass oid) = told_name rows places oid
told_well rows places locks block tells.Commit = commit_answer block

-- by the plan that is left of it
abbrev pub told_left : (Purpose → List Row) → (Purpose → ℕ) → List OwnLock → Block → Command → Plan → Answer
told_left rows places locks block command (Done told) = told_well rows places locks block told
told_left rows places locks block command (Fails error) = answers.Error error
told_left rows places locks block command (Absent name) = answers.Error (absent_error command name (places (scans.RelName name)))
told_left rows places locks block command plan = answers.Ok

-- what is told rests on scans, and not only on the command
abbrev pub tells_of_scans : Told → Bool
tells_of_scans tells.Ok = false
tells_of_scans tells.Commit = false
tells_of_scans told = true

-- what the running command answers, once it has come out
abbrev pub told : (Purpose → List Row) → (Purpose → ℕ) → Command → Session → Answer
told rows places command s = told_left rows places s.locks s.blocks.block command s.left

-- what it answers by the last scans of its backend in a history
abbrev pub told_read : List Entry → ℕ → Command → Session → Answer
told_read history b command s = told (rows_read history b) (place_read history b) command s
