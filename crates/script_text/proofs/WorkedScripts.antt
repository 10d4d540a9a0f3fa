-- Worked examples of scripts and of faults.
use Rattle.std.proofs.Common.{◌≡◌, ℕ, true, false, Ok, Err, Some, None, negsuc, List, [], ◌∷◌, ◌++◌, codes, refl}
use Rattle.base_types.specs.declared.command.Command.TheVariants.{Begin, Commit, Rollback, Savepoint, Release, RollbackTo, Show, Columns, Column, Regclass, LockTable, OpenRel, Peek, CloseRel, CreateTable, DropTable, RenameTable, AddColumn, DropColumn, RenameColumn, SetDefault, SetStatistics, SetFillfactor, AddCheck, AddForeign, ValidateConstraint, DropConstraint, SetTrigger, CreateTrigger, CreateIndex, DropIndex, RenameIndex}
use Rattle.base_types.specs.declared.field.Field.TheVariants as fields
use Rattle.base_types.specs.declared.mode.Mode.TheVariants.{ShareRowExclusive}
use Rattle.base_types.specs.declared.col_type.ColType.TheVariants as types
use Rattle.script_text.specs.declared.fault.ScriptCause.TheVariants.{BadByte, BadRing, NoBackends, BadCount, NoEnd, BadSteps, TooManySteps, UnknownBackend, LateCommand, BadCommand, AfterEnd}
use Rattle.script_text.specs.declared.fault.Rest.TheVariants.{Refused, Given}
use Rattle.script_text.specs.Tokens.{tokens}
use Rattle.script_text.specs.Commands.{command_of}
use Rattle.std.specs.Fmt.{digits}
use Rattle.script_text.specs.Spelling.{with_piece, listed, script_spelling}
use Rattle.script_text.specs.Grammar.{script_of}
use Rattle.script_text.proofs.OnLiterals.{whole_scripts}

-- a text with a line feed after each line
abbrev text : List (List ℕ) → List ℕ
text [] = []
text (line ∷ lines) = line ++ 10 ∷ text lines

-- upper case, a carriage return, a semicolon, and a last line with no line feed
upper_case : script_of Refused (text ((codes "BACKENDS 1" ++ 13 ∷ []) ∷ codes "1: CREATE TABLE t (a INT);" ∷ []) ++ codes "end")
    ≡ Ok (record { script = record { size = 4096; from = 0; backends = 1; commands = record { backend = 1; command = CreateTable (codes "t") (record { name = codes "a"; col_type = types.Int4 } ∷ []) } ∷ []; steps = [] }; rest_at = 42 })
unfolding whole_scripts
upper_case = refl

-- faults, each with its line
faults :
    (script_of Refused [] ≡ Err (1, NoBackends)) ×
    (script_of Refused (text (codes "backends 1" ∷ codes "1: begin" ∷ [])) ≡ Err (3, NoEnd)) ×
    (script_of Refused (text (codes "-- a comment" ∷ codes "" ∷ codes " " ∷ codes "backends 65" ∷ codes "end" ∷ [])) ≡ Err (4, BadCount)) ×
    (script_of Refused (text (codes "backends 0" ∷ codes "end" ∷ [])) ≡ Err (1, BadCount)) ×
    (script_of Refused (text (codes "ring 63" ∷ codes "backends 1" ∷ codes "end" ∷ [])) ≡ Err (1, BadRing)) ×
    (script_of Refused (text (codes "ring 64 from 16777216" ∷ codes "backends 1" ∷ codes "end" ∷ [])) ≡ Err (1, BadRing)) ×
    (script_of Refused (text (codes "backends 1" ∷ codes "ring 64" ∷ codes "end" ∷ [])) ≡ Err (2, BadRing)) ×
    (script_of Refused (text (codes "ring 64" ∷ codes "ring 64" ∷ codes "end" ∷ [])) ≡ Err (2, BadRing)) ×
    (script_of Refused (text (codes "end" ∷ [])) ≡ Err (1, NoBackends)) ×
    (script_of Refused (text (codes "backends 2" ∷ codes "steps 1*5 3" ∷ codes "end" ∷ [])) ≡ Err (2, BadSteps)) ×
    (script_of Refused (text (codes "backends 2" ∷ codes "steps" ∷ codes "end" ∷ [])) ≡ Err (2, BadSteps)) ×
    (script_of Refused (text (codes "backends 2" ∷ codes "steps 1*1000000" ∷ codes "steps 2" ∷ codes "end" ∷ [])) ≡ Err (3, TooManySteps)) ×
    (script_of Refused (text (codes "backends 2" ∷ codes "3: begin" ∷ codes "end" ∷ [])) ≡ Err (2, UnknownBackend)) ×
    (script_of Refused (text (codes "backends 2" ∷ codes "end;" ∷ codes "end" ∷ [])) ≡ Err (2, UnknownBackend)) ×
    (script_of Refused (text (codes "backends 2" ∷ codes "+1: begin" ∷ codes "end" ∷ [])) ≡ Err (2, UnknownBackend)) ×
    (script_of Refused (text (codes "backends 2" ∷ codes "steps 1" ∷ codes "1: begin" ∷ codes "end" ∷ [])) ≡ Err (3, LateCommand)) ×
    (script_of Refused (text (codes "backends 2" ∷ codes "1: begin;;" ∷ codes "end" ∷ [])) ≡ Err (2, BadCommand)) ×
    (script_of Refused (text (codes "backends 2" ∷ codes "1: create index i on t ()" ∷ codes "end" ∷ [])) ≡ Err (2, BadCommand)) ×
    (script_of Refused (text (codes "backends 2" ∷ codes "end" ∷ codes "end" ∷ [])) ≡ Err (3, AfterEnd)) ×
    (script_of Refused (text (codes "backends 2" ∷ codes "end" ∷ codes "1: bugin" ∷ [])) ≡ Err (3, BadCommand)) ×
    (script_of Refused (codes "backends 1" ++ 13 ∷ 13 ∷ 10 ∷ []) ≡ Err (1, BadByte)) ×
    (script_of Refused (codes "backends 1" ++ 10 ∷ codes "end" ++ 13 ∷ []) ≡ Err (2, BadByte))
unfolding whole_scripts
faults = (refl, refl, refl, refl, refl, refl, refl, refl, refl, refl, refl, refl, refl, refl, refl, refl, refl, refl, refl, refl, refl, refl)

-- the place is that after the `end` line, whatever is asked of the rest
place_of_the_rest :
    (script_of Refused (text (codes "backends 1" ∷ codes "end" ∷ codes "-- x" ∷ [])) ≡ Ok (record { script = record { size = 4096; from = 0; backends = 1; commands = []; steps = [] }; rest_at = 15 })) ×
    (script_of Given (text (codes "backends 1" ∷ codes "end" ∷ codes "-- x" ∷ [])) ≡ Ok (record { script = record { size = 4096; from = 0; backends = 1; commands = []; steps = [] }; rest_at = 15 }))
unfolding whole_scripts
place_of_the_rest = (refl, refl)

-- a rest, at its place, and a ring line
rest_is_left : script_of Given (text (codes "ring 64 from 16777215" ∷ codes "backends 02" ∷ codes "steps 1 * 3 2" ∷ codes "end" ∷ codes "h 1 0 start" ∷ []))
    ≡ Ok (record { script = record { size = 64; from = 16777215; backends = 2; commands = []; steps = (record { backend = 1; count = 3 } ∷ record { backend = 2; count = 1 } ∷ []) ∷ [] }; rest_at = 52 })
unfolding whole_scripts
rest_is_left = refl

-- the forms of commands
forms :
    (command_of (tokens (codes "begin")) ≡ Some (Begin)) ×
    (command_of (tokens (codes "commit ;")) ≡ Some (Commit)) ×
    (command_of (tokens (codes "rollback")) ≡ Some (Rollback)) ×
    (command_of (tokens (codes "savepoint s")) ≡ Some (Savepoint (codes "s"))) ×
    (command_of (tokens (codes "release s")) ≡ Some (Release (codes "s"))) ×
    (command_of (tokens (codes "release savepoint s")) ≡ Some (Release (codes "s"))) ×
    (command_of (tokens (codes "release savepoint")) ≡ Some (Release (codes "savepoint"))) ×
    (command_of (tokens (codes "rollback to s")) ≡ Some (RollbackTo (codes "s"))) ×
    (command_of (tokens (codes "rollback to savepoint s")) ≡ Some (RollbackTo (codes "s"))) ×
    (command_of (tokens (codes "show t")) ≡ Some (Show (codes "t") None)) ×
    (command_of (tokens (codes "show t of")) ≡ Some (Show (codes "t") (Some fields.Of))) ×
    (command_of (tokens (codes "columns t")) ≡ Some (Columns (codes "t"))) ×
    (command_of (tokens (codes "column t c")) ≡ Some (Column (codes "t") (codes "c"))) ×
    (command_of (tokens (codes "regclass 16384")) ≡ Some (Regclass (record { 0 = 16384 }))) ×
    (command_of (tokens (codes "lock table t in share row exclusive mode")) ≡ Some (LockTable (codes "t") ShareRowExclusive)) ×
    (command_of (tokens (codes "open t")) ≡ Some (OpenRel (codes "t"))) ×
    (command_of (tokens (codes "peek t")) ≡ Some (Peek (codes "t") None)) ×
    (command_of (tokens (codes "peek t triggers")) ≡ Some (Peek (codes "t") (Some fields.Triggers))) ×
    (command_of (tokens (codes "close t")) ≡ Some (CloseRel (codes "t"))) ×
    (command_of (tokens (codes "create table t ( )")) ≡ Some (CreateTable (codes "t") [])) ×
    (command_of (tokens (codes "create table t (a boolean,b timestamptz)")) ≡ Some (CreateTable (codes "t") (record { name = codes "a"; col_type = types.Bool } ∷ record { name = codes "b"; col_type = types.Timestamptz } ∷ []))) ×
    (command_of (tokens (codes "drop table t")) ≡ Some (DropTable (codes "t"))) ×
    (command_of (tokens (codes "alter table t rename to u")) ≡ Some (RenameTable (codes "t") (codes "u"))) ×
    (command_of (tokens (codes "alter table t add column c bigint")) ≡ Some (AddColumn (codes "t") (codes "c") types.Int8)) ×
    (command_of (tokens (codes "alter table t drop column c")) ≡ Some (DropColumn (codes "t") (codes "c"))) ×
    (command_of (tokens (codes "alter table t rename column c to d")) ≡ Some (RenameColumn (codes "t") (codes "c") (codes "d"))) ×
    (command_of (tokens (codes "alter table t alter column c set default -x")) ≡ Some (SetDefault (codes "t") (codes "c") (codes "-x"))) ×
    (command_of (tokens (codes "alter table t alter column c set statistics -1")) ≡ Some (SetStatistics (codes "t") (codes "c") (negsuc 0))) ×
    (command_of (tokens (codes "alter table t set (fillfactor=70)")) ≡ Some (SetFillfactor (codes "t") 70)) ×
    (command_of (tokens (codes "alter table t add constraint k check (a = b * c)")) ≡ Some (AddCheck (codes "t") (codes "k") (codes "a=b*c") true)) ×
    (command_of (tokens (codes "alter table t add constraint k check (a) not valid;")) ≡ Some (AddCheck (codes "t") (codes "k") (codes "a") false)) ×
    (command_of (tokens (codes "alter table t add constraint k foreign key (c) references u (d)")) ≡ Some (AddForeign (codes "t") (codes "k") (codes "c") (codes "u") (codes "d") true)) ×
    (command_of (tokens (codes "alter table t validate constraint k")) ≡ Some (ValidateConstraint (codes "t") (codes "k"))) ×
    (command_of (tokens (codes "alter table t drop constraint k")) ≡ Some (DropConstraint (codes "t") (codes "k"))) ×
    (command_of (tokens (codes "alter table t enable trigger g")) ≡ Some (SetTrigger (codes "t") (codes "g") true)) ×
    (command_of (tokens (codes "alter table t disable trigger g")) ≡ Some (SetTrigger (codes "t") (codes "g") false)) ×
    (command_of (tokens (codes "create trigger g on t")) ≡ Some (CreateTrigger (codes "t") (codes "g"))) ×
    (command_of (tokens (codes "create index i on t (a, b)")) ≡ Some (CreateIndex (codes "i") (codes "t") (codes "a" ∷ codes "b" ∷ []))) ×
    (command_of (tokens (codes "drop index i")) ≡ Some (DropIndex (codes "i"))) ×
    (command_of (tokens (codes "alter index i rename to j")) ≡ Some (RenameIndex (codes "i") (codes "j")))
unfolding whole_scripts
forms = (refl, refl, refl, refl, refl, refl, refl, refl, refl, refl, refl, refl, refl, refl, refl, refl, refl, refl, refl, refl, refl, refl, refl, refl, refl, refl, refl, refl, refl, refl, refl, refl, refl, refl, refl, refl, refl, refl, refl, refl)

-- what is no command
others :
    (command_of (tokens (codes "")) ≡ None) ×
    (command_of (tokens (codes "bugin")) ≡ None) ×
    (command_of (tokens (codes "show")) ≡ None) ×
    (command_of (tokens (codes "show 1t")) ≡ None) ×
    (command_of (tokens (codes "show t name name")) ≡ None) ×
    (command_of (tokens (codes "release")) ≡ None) ×
    (command_of (tokens (codes "rollback to")) ≡ None) ×
    (command_of (tokens (codes "create table t")) ≡ None) ×
    (command_of (tokens (codes "create table t (a)")) ≡ None) ×
    (command_of (tokens (codes "create table t (a int4,)")) ≡ None) ×
    (command_of (tokens (codes "alter table t add constraint k check ()")) ≡ None) ×
    (command_of (tokens (codes "alter table t add constraint k check (a b))")) ≡ None) ×
    (command_of (tokens (codes "alter table t alter column c set statistics +1")) ≡ None) ×
    (command_of (tokens (codes "alter table t alter column c set statistics - 1")) ≡ None) ×
    (command_of (tokens (codes "regclass 1234567890")) ≡ None) ×
    (command_of (tokens (codes "lock table t in shared mode")) ≡ None) ×
    (command_of (tokens (codes "create index i on t (a,)")) ≡ None) ×
    (command_of (tokens (codes "begin ; ;")) ≡ None)
unfolding whole_scripts
others = (refl, refl, refl, refl, refl, refl, refl, refl, refl, refl, refl, refl, refl, refl, refl, refl, refl, refl)

-- the spelling of the script in upper case
spelled_small : script_spelling (record { size = 4096; from = 0; backends = 1; commands = record { backend = 1; command = CreateTable (codes "t") (record { name = codes "a"; col_type = types.Int4 } ∷ []) } ∷ []; steps = [] })
    ≡ text (codes "backends 1" ∷ codes "1: create table t (a int4)" ∷ codes "end" ∷ [])
unfolding with_piece listed script_spelling digits
spelled_small = refl

-- every kind of gap
spelled_gaps : script_spelling (record {
  size = 64;
  from = 5;
  backends = 2;
  commands = record { backend = 2; command = AddForeign (codes "t") (codes "k") (codes "c") (codes "u") (codes "d") false } ∷ record { backend = 1; command = CreateIndex (codes "i") (codes "t") (codes "a" ∷ codes "b" ∷ []) } ∷ record { backend = 1; command = SetFillfactor (codes "t") 70 } ∷ [];
  steps = (record { backend = 1; count = 5 } ∷ record { backend = 2; count = 1 } ∷ []) ∷ [];
})
    ≡ text (codes "ring 64 from 5" ∷ codes "backends 2" ∷ codes "2: alter table t add constraint k foreign key (c) references u (d) not valid" ∷ codes "1: create index i on t (a, b)" ∷ codes "1: alter table t set (fillfactor = 70)" ∷ codes "steps 1*5 2" ∷ codes "end" ∷ [])
unfolding with_piece listed script_spelling digits
spelled_gaps = refl
