-- The text of a script.
use Rattle.std.specs.Prelude.{◌≡◌, Result, OnOk, ℕ, Bool, true, false, not, Option, Some, None, List, [], ◌∷◌, ◌++◌, ◌-◌, ◌==◌, ◌&&◌, ◌||◌, length, get_or, fold, flat_map, codes, decimal, if◌then◌else◌}
use Rattle.std.specs.Fmt.{signed_decimal}
use Rattle.base_types.specs.Words.{type_word, field_word}
use Rattle.base_types.specs.Scenario.{Scenario}
use Rattle.base_types.specs.declared.command.Command.{Command}
use Rattle.base_types.specs.declared.command.Command.TheVariants.{Begin, Commit, Rollback, Savepoint, Release, RollbackTo, Show, Columns, Column, Regclass, LockTable, OpenRel, Peek, CloseRel, CreateTable, DropTable, RenameTable, AddColumn, DropColumn, RenameColumn, SetDefault, SetStatistics, SetFillfactor, AddCheck, AddForeign, ValidateConstraint, DropConstraint, SetTrigger, CreateTrigger, CreateIndex, DropIndex, RenameIndex}
use Rattle.base_types.specs.declared.command.NewColumn.{NewColumn}
use Rattle.base_types.specs.declared.command.Placed.{Placed}
use Rattle.base_types.specs.declared.command.Turns.{Turns}
use Rattle.base_types.specs.declared.field.Field.{Field}
use Rattle.script_text.specs.declared.limits.TheConstants.{QUEUE_SIZE}
use Rattle.script_text.specs.Operands.{lock_words}

-- no blank comes after this byte: a line feed, an opening parenthesis, an asterisk
abbrev pub takes_none_after : ℕ → Bool
takes_none_after byte = (byte == 10) || (byte == 40) || (byte == 42)

-- no blank comes before this byte: a line feed, a closing parenthesis, a comma, a colon, an asterisk
abbrev pub takes_none_before : ℕ → Bool
takes_none_before byte = (byte == 10) || (byte == 41) || (byte == 44) || (byte == 58) || (byte == 42)

-- a blank is due between a text and the piece after it; none is due at the start of a text
abbrev pub needs_blank : List ℕ → List ℕ → Bool
needs_blank text piece = not (takes_none_after (get_or text (length text - 1) 10)) && not (takes_none_before (get_or piece 0 10))

-- a text with a piece after it
unfoldable pub with_piece : List ℕ → List ℕ → List ℕ
with_piece text piece = if needs_blank text piece then text ++ 32 ∷ [] ++ piece else text ++ piece

-- a text with pieces after it
abbrev pub with_pieces : List ℕ → List (List ℕ) → List ℕ
with_pieces text pieces = fold with_piece text pieces

-- these pieces were added at the end of a text; where memory was refused, no more is known of it
abbrev pub AddsPieces : {T E : Type 0} → List ℕ → List ℕ → Result T E → List (List ℕ) → Type 0
AddsPieces old new result pieces = OnOk result (new ≡ with_pieces old pieces)

-- the words of a constraint that isn't valid at once
abbrev pub valid_pieces : Bool → List (List ℕ)
valid_pieces true = []
valid_pieces false = codes "not valid" ∷ []

-- a trigger is enabled or disabled
abbrev pub trigger_words : Bool → List ℕ
trigger_words true = codes "enable trigger"
trigger_words false = codes "disable trigger"

-- these words, a name, and a field if one is asked for
abbrev pub shown_pieces : List ℕ → List ℕ → Option Field → List (List ℕ)
shown_pieces words name None = words ∷ name ∷ []
shown_pieces words name (Some field) = words ∷ name ∷ field_word field ∷ []

-- a column in its pieces
abbrev pub column_pieces : NewColumn → List (List ℕ)
column_pieces column = column.name ∷ type_word column.col_type ∷ []

-- a name as a piece
abbrev pub name_pieces : List ℕ → List (List ℕ)
name_pieces name = name ∷ []

-- items with commas between them
unfoldable pub listed : {X : Type 0} → (X → List (List ℕ)) → List X → List (List ℕ)
listed pieces [] = []
listed pieces (x ∷ xs) = pieces x ++ flat_map (λ y. codes "," ∷ pieces y) xs

-- a command in its pieces; the first form where there are two
abbrev pub command_pieces : Command → List (List ℕ)
command_pieces Begin = codes "begin" ∷ []
command_pieces Commit = codes "commit" ∷ []
command_pieces Rollback = codes "rollback" ∷ []
command_pieces (Savepoint name) = codes "savepoint" ∷ name ∷ []
command_pieces (Release name) = codes "release" ∷ name ∷ []
command_pieces (RollbackTo name) = codes "rollback to" ∷ name ∷ []
command_pieces (Show name field) = shown_pieces (codes "show") name field
command_pieces (Columns name) = codes "columns" ∷ name ∷ []
command_pieces (Column name column) = codes "column" ∷ name ∷ column ∷ []
command_pieces (Regclass oid) = codes "regclass" ∷ decimal oid.0 ∷ []
command_pieces (LockTable name mode) = codes "lock table" ∷ name ∷ lock_words mode ∷ []
command_pieces (OpenRel name) = codes "open" ∷ name ∷ []
command_pieces (Peek name field) = shown_pieces (codes "peek") name field
command_pieces (CloseRel name) = codes "close" ∷ name ∷ []
command_pieces (CreateTable name columns) = codes "create table" ∷ name ∷ codes "(" ∷ listed column_pieces columns ++ codes ")" ∷ []
command_pieces (DropTable name) = codes "drop table" ∷ name ∷ []
command_pieces (RenameTable name to) = codes "alter table" ∷ name ∷ codes "rename to" ∷ to ∷ []
command_pieces (AddColumn name column col_type) = codes "alter table" ∷ name ∷ codes "add column" ∷ column ∷ type_word col_type ∷ []
command_pieces (DropColumn name column) = codes "alter table" ∷ name ∷ codes "drop column" ∷ column ∷ []
command_pieces (RenameColumn name column to) = codes "alter table" ∷ name ∷ codes "rename column" ∷ column ∷ codes "to" ∷ to ∷ []
command_pieces (SetDefault name column word) = codes "alter table" ∷ name ∷ codes "alter column" ∷ column ∷ codes "set default" ∷ word ∷ []
command_pieces (SetStatistics name column stat) = codes "alter table" ∷ name ∷ codes "alter column" ∷ column ∷ codes "set statistics" ∷ signed_decimal stat ∷ []
command_pieces (SetFillfactor name fill) = codes "alter table" ∷ name ∷ codes "set (fillfactor =" ∷ decimal fill ∷ codes ")" ∷ []
command_pieces (AddCheck name constraint text valid) = codes "alter table" ∷ name ∷ codes "add constraint" ∷ constraint ∷ codes "check (" ∷ text ∷ codes ")" ∷ valid_pieces valid
command_pieces (AddForeign name constraint column refers ref_column valid) = codes "alter table" ∷ name ∷ codes "add constraint" ∷ constraint ∷ codes "foreign key (" ∷ column ∷ codes ") references" ∷ refers ∷ codes "(" ∷ ref_column ∷ codes ")" ∷ valid_pieces valid
command_pieces (ValidateConstraint name constraint) = codes "alter table" ∷ name ∷ codes "validate constraint" ∷ constraint ∷ []
command_pieces (DropConstraint name constraint) = codes "alter table" ∷ name ∷ codes "drop constraint" ∷ constraint ∷ []
command_pieces (SetTrigger name trigger on) = codes "alter table" ∷ name ∷ trigger_words on ∷ trigger ∷ []
command_pieces (CreateTrigger name trigger) = codes "create trigger" ∷ trigger ∷ codes "on" ∷ name ∷ []
command_pieces (CreateIndex name on_table columns) = codes "create index" ∷ name ∷ codes "on" ∷ on_table ∷ codes "(" ∷ listed name_pieces columns ++ codes ")" ∷ []
command_pieces (DropIndex name) = codes "drop index" ∷ name ∷ []
command_pieces (RenameIndex name to) = codes "alter index" ∷ name ∷ codes "rename to" ∷ to ∷ []

-- the end of a line
abbrev pub line_end : List ℕ
line_end = 10 ∷ []

-- a command's line
abbrev pub placed_pieces : Placed → List (List ℕ)
placed_pieces placed = decimal placed.backend ∷ codes ":" ∷ command_pieces placed.command ++ line_end ∷ []

-- a backend, and how many steps it has where that isn't one
abbrev pub turns_pieces : Turns → List (List ℕ)
turns_pieces turns = if turns.count == 1 then decimal turns.backend ∷ [] else decimal turns.backend ∷ codes "*" ∷ decimal turns.count ∷ []

-- a line of steps
abbrev pub steps_pieces : List Turns → List (List ℕ)
steps_pieces steps = codes "steps" ∷ flat_map turns_pieces steps ++ line_end ∷ []

-- the number of the first message, where it isn't 0
abbrev pub from_pieces : ℕ → List (List ℕ)
from_pieces from = if from == 0 then [] else codes "from" ∷ decimal from ∷ []

-- the queue, where it isn't what holds without a line
abbrev pub ring_pieces : ℕ → ℕ → List (List ℕ)
ring_pieces size from = if (size == QUEUE_SIZE) && (from == 0) then [] else codes "ring" ∷ decimal size ∷ from_pieces from ++ line_end ∷ []

-- the text of a script
unfoldable pub script_spelling : Scenario → List ℕ
script_spelling script =
    with_pieces (with_pieces (with_pieces (with_pieces (with_pieces []
    (ring_pieces script.size script.from))
    (codes "backends" ∷ decimal script.backends ∷ line_end ∷ []))
    (flat_map placed_pieces script.commands))
    (flat_map steps_pieces script.steps))
    (codes "end" ∷ line_end ∷ [])
