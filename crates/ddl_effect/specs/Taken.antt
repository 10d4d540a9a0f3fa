-- A command that is on its way, by what its acts gave.
use Rattle.std.specs.Prelude.{List}
use Rattle.ddl_effect.specs.Types.{Row, Command, OpenRelation}

-- the relations that its session had open as it began, the command, and what its acts gave so far
pub record Taken : Type 0 where
  pub opens : List OpenRelation
  pub command : Command
  pub given : List (List Row)
