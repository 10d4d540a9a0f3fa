-- The commands that a script may hold: names, words and texts without fault, and numbers of nine digits at most.
use Rattle.std.specs.Prelude.{⊤, ◌<◌, ℕ, nat_abs, List, [], ◌∷◌}
use Rattle.std.specs.List.{AllByRecursion}
use Rattle.base_types.specs.Names.{IsName, IsWord, IsText}
use Rattle.base_types.specs.declared.command.Command.{Command}
use Rattle.base_types.specs.declared.command.Command.TheVariants.{Begin, Commit, Rollback, Savepoint, Release, RollbackTo, Show, Columns, Column, Regclass, LockTable, OpenRel, Peek, CloseRel, CreateTable, DropTable, RenameTable, AddColumn, DropColumn, RenameColumn, SetDefault, SetStatistics, SetFillfactor, AddCheck, AddForeign, ValidateConstraint, DropConstraint, SetTrigger, CreateTrigger, CreateIndex, DropIndex, RenameIndex}

-- a number of nine digits at most
abbrev pub IsShortNumber : ℕ → Type 0
IsShortNumber n = n < 1000000000

-- at least one
abbrev pub IsNonEmpty : {X : Type 0} → List X → Type 0
IsNonEmpty [] = ⊥
IsNonEmpty (x ∷ xs) = ⊤

-- the parts of a command have forms that a line may have
abbrev pub IsCommand : Command → Type 0
IsCommand Begin = ⊤
IsCommand Commit = ⊤
IsCommand Rollback = ⊤
IsCommand (Savepoint name) = IsName name
IsCommand (Release name) = IsName name
IsCommand (RollbackTo name) = IsName name
IsCommand (Show name field) = IsName name
IsCommand (Columns name) = IsName name
IsCommand (Column name column) = IsName name × IsName column
IsCommand (Regclass oid) = IsShortNumber oid.0
IsCommand (LockTable name mode) = IsName name
IsCommand (OpenRel name) = IsName name
IsCommand (Peek name field) = IsName name
IsCommand (CloseRel name) = IsName name
IsCommand (CreateTable name columns) = IsName name × AllByRecursion (λ column. IsName column.name) columns
IsCommand (DropTable name) = IsName name
IsCommand (RenameTable name to) = IsName name × IsName to
IsCommand (AddColumn name column col_type) = IsName name × IsName column
IsCommand (DropColumn name column) = IsName name × IsName column
IsCommand (RenameColumn name column to) = IsName name × IsName column × IsName to
IsCommand (SetDefault name column word) = IsName name × IsName column × IsWord word
IsCommand (SetStatistics name column stat) = IsName name × IsName column × IsShortNumber (nat_abs stat)
IsCommand (SetFillfactor name fill) = IsName name × IsShortNumber fill
IsCommand (AddCheck name constraint text valid) = IsName name × IsName constraint × IsText text
IsCommand (AddForeign name constraint column refers ref_column valid) = IsName name × IsName constraint × IsName column × IsName refers × IsName ref_column
IsCommand (ValidateConstraint name constraint) = IsName name × IsName constraint
IsCommand (DropConstraint name constraint) = IsName name × IsName constraint
IsCommand (SetTrigger name trigger on) = IsName name × IsName trigger
IsCommand (CreateTrigger name trigger) = IsName name × IsName trigger
IsCommand (CreateIndex name on_table columns) = IsName name × IsName on_table × IsNonEmpty columns × AllByRecursion IsName columns
IsCommand (DropIndex name) = IsName name
IsCommand (RenameIndex name to) = IsName name × IsName to
