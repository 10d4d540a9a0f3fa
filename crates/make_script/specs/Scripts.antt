-- The script of a number.
use Rattle.std.specs.Prelude.{ℕ, Bool, pos, None, List, [], ◌∷◌, ◌++◌, ◌+◌, ◌==◌, ◌||◌, zero, suc, replicate, codes, decimal, if◌then◌else◌}
use Rattle.base_types.specs.Scenario.{Scenario}
use Rattle.base_types.specs.declared.col_type.ColType.TheVariants as types
use Rattle.base_types.specs.declared.command.Command.{Command}
use Rattle.base_types.specs.declared.command.Command.TheVariants.{Show, Columns, CreateTable, DropTable, AddColumn, RenameColumn, SetStatistics, SetFillfactor, CreateIndex}
use Rattle.base_types.specs.declared.command.NewColumn.{NewColumn}
use Rattle.base_types.specs.declared.command.Placed.{Placed}
use Rattle.base_types.specs.declared.command.Turns.{Turns}
use Rattle.make_script.specs.Draws.{next, drawn}

-- a letter and a number: a table `t4`, an index `i4`, a column `c4`
abbrev pub numbered : List ℕ → ℕ → List ℕ
numbered letter number = letter ++ decimal number

-- the columns of each new table: a int4, b text
abbrev pub new_columns : List NewColumn
new_columns = record { name = codes "a"; col_type = types.Int4 } ∷ record { name = codes "b"; col_type = types.Text } ∷ []

-- the command of a kind, on the table of this number; where the kind needs a column, a target or a fillfactor, x draws it
abbrev pub command_of : ℕ → ℕ → ℕ → Command
command_of kind table x =
    if kind == 0 then CreateTable (numbered (codes "t") table) new_columns
    else if kind == 1 then DropTable (numbered (codes "t") table)
    else if kind == 2 then AddColumn (numbered (codes "t") table) (numbered (codes "c") (drawn 5 x)) types.Int8
    else if kind == 3 then SetStatistics (numbered (codes "t") table) (codes "a") (pos (drawn 100 x))
    else if kind == 4 then SetFillfactor (numbered (codes "t") table) (10 + drawn 91 x)
    else if kind == 5 then CreateIndex (numbered (codes "i") table) (numbered (codes "t") table) (codes "a" ∷ [])
    else if kind == 6 then RenameColumn (numbered (codes "t") table) (codes "b") (numbered (codes "c") (drawn 5 x))
    else if kind == 8 then Columns (numbered (codes "t") table)
    else Show (numbered (codes "t") table) None

-- these kinds draw once more
abbrev pub draws_more : ℕ → Bool
draws_more kind = (kind == 2) || (kind == 3) || (kind == 4) || (kind == 6)

-- the last number that a command of a kind uses, where its table was drawn by x
abbrev pub last_by : ℕ → ℕ → ℕ
last_by kind x = if draws_more kind then next x else x

-- what is drawn of a command first: its backend, its kind, its table; and the number by which the table was drawn
pub record Draw : Type 0 where
  pub backend : ℕ
  pub kind : ℕ
  pub table : ℕ
  pub by : ℕ

-- the draw of the command after the number x
unfoldable pub draw_after : ℕ → Draw
draw_after x =
    let first = next x in
    let second = next first in
    let third = next second in
    record { backend = 1 + drawn 4 first; kind = drawn 10 second; table = drawn 8 third; by = third }

-- the command of a draw, with its backend
abbrev pub placed_of : Draw → Placed
placed_of draw = record { backend = draw.backend; command = command_of draw.kind draw.table (next draw.by) }

-- the last number that the command of a draw uses
abbrev pub last_of : Draw → ℕ
last_of draw = last_by draw.kind draw.by

-- so many commands after the number x
unfoldable pub commands_after : ℕ → ℕ → List Placed
commands_after zero x = []
commands_after (suc n) x = placed_of (draw_after x) ∷ commands_after n (last_of (draw_after x))

-- a line of steps: 1*5 2*3 3*7 4*4
abbrev pub step_line : List Turns
step_line = record { backend = 1; count = 5 } ∷ record { backend = 2; count = 3 } ∷ record { backend = 3; count = 7 } ∷ record { backend = 4; count = 4 } ∷ []

-- the script of a number: a queue of 64, four backends, 1,000 commands, 4,000 lines of steps
unfoldable pub made_script : ℕ → Scenario
made_script number = record { size = 64; from = 0; backends = 4; commands = commands_after 1000 number; steps = replicate 4000 step_line }
