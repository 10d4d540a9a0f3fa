-- Which commands alter a table: their lines begin alike.
use Rattle.std.specs.Prelude.{Bool, true, false}
use Rattle.base_types.specs.declared.command.Command.{Command}
use Rattle.base_types.specs.declared.command.Command.TheVariants.{RenameTable, AddColumn, DropColumn, RenameColumn, SetDefault, SetStatistics, SetFillfactor, AddCheck, AddForeign, ValidateConstraint, DropConstraint, SetTrigger}

-- the command alters a table
abbrev pub is_alteration : Command → Bool
is_alteration (RenameTable name to) = true
is_alteration (AddColumn name column col_type) = true
is_alteration (DropColumn name column) = true
is_alteration (RenameColumn name column to) = true
is_alteration (SetDefault name column word) = true
is_alteration (SetStatistics name column stat) = true
is_alteration (SetFillfactor name fill) = true
is_alteration (AddCheck name constraint text valid) = true
is_alteration (AddForeign name constraint column refers ref_column valid) = true
is_alteration (ValidateConstraint name constraint) = true
is_alteration (DropConstraint name constraint) = true
is_alteration (SetTrigger name trigger on) = true
is_alteration command = false
