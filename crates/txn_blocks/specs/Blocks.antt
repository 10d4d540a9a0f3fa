-- Transaction blocks, by the commands alone.
use Rattle.std.specs.Prelude.{ℕ, Bool, true, false, Option, Some, None, List, [], ◌∷◌, ◌++◌, ◌+◌, take}
use Rattle.std.specs.Option.{option_map_or, option_or}
use Rattle.std.specs.Str.{bytes_eq}
use Rattle.base_types.specs.declared.command.Command.TheVariants as commands
use Rattle.command_answers.specs.declared.error.CommandError.TheVariants as errors
use Rattle.txn_blocks.specs.Types.{Command, CommandError}
use Rattle.txn_blocks.specs.declared.level.Level.{Level as LevelOf}

-- outside a block, in one, or in one that has failed
pub data Block : Type 0 where
  Outside : Block
  Inside : Block
  Failed : Block

-- a level of a block: its first command, and the savepoint that began it, if one did
abbrev pub Level : Type 0
Level = LevelOf

-- whether a session is in a block, and the block's levels, the outermost first
pub record Blocks : Type 0 where
  pub block : Block
  pub levels : List Level

-- no block is open
abbrev pub no_block : Blocks
no_block = record { block = Outside; levels = [] }

-- a block, failed or not, is open
abbrev pub is_open : Blocks → Bool
is_open blocks = elim blocks.block [ Outside ↦ false | block ↦ true ]

-- a failed block is open
abbrev pub is_failed : Blocks → Bool
is_failed blocks = elim blocks.block [ Failed ↦ true | block ↦ false ]

-- the command ends a block, failed or not
abbrev pub ends_block : Command → Bool
ends_block commands.Commit = true
ends_block commands.Rollback = true
ends_block command = false

-- the command mends or ends a failed block
abbrev pub ends_failure : Command → Bool
ends_failure (commands.RollbackTo name) = true
ends_failure command = ends_block command

-- the command needs a block
abbrev pub needs_block : Command → Bool
needs_block (commands.Savepoint name) = true
needs_block (commands.Release name) = true
needs_block (commands.RollbackTo name) = true
needs_block (commands.LockTable name mode) = true
needs_block (commands.OpenRel name) = true
needs_block (commands.Peek name field) = true
needs_block (commands.CloseRel name) = true
needs_block command = false

-- why a block refuses a command, if it does, whatever its levels
abbrev pub refused_in : Block → Command → Option CommandError
refused_in Failed command = elim (ends_failure command) [ true ↦ None | false ↦ Some errors.BlockFailed ]
refused_in Outside command = elim (needs_block command) [ true ↦ Some errors.NoBlock | false ↦ None ]
refused_in Inside command = None

-- the level begins with a savepoint of this name
abbrev pub is_savepoint : List ℕ → Level → Bool
is_savepoint name level = option_map_or (bytes_eq name) level.savepoint false

-- the place of a level, if it begins with a savepoint of this name and none after it does
abbrev pub place_with : Bool → Option ℕ → Option ℕ
place_with begins (Some after) = Some (after + 1)
place_with true None = Some 0
place_with false None = None

-- the place of the latest savepoint of this name
abbrev pub place_of : List ℕ → List Level → Option ℕ
place_of name [] = None
place_of name (level ∷ levels) = place_with (is_savepoint name level) (place_of name levels)

-- the levels around the latest savepoint of this name: all, if there is none
abbrev pub levels_around : List ℕ → List Level → List Level
levels_around name levels = option_map_or (λ at. take at levels) (place_of name levels) levels

-- the levels around it and its own
abbrev pub levels_up_to : List ℕ → List Level → List Level
levels_up_to name levels = option_map_or (λ at. take (at + 1) levels) (place_of name levels) levels

-- there has to be a savepoint of this name
abbrev pub refused_without : List ℕ → Option ℕ → Option CommandError
refused_without name None = Some (errors.NoSavepoint name)
refused_without name (Some at) = None

-- why levels refuse a command, if they do: it names a savepoint that isn't there
abbrev pub refused_of : List Level → Command → Option CommandError
refused_of levels (commands.Release name) = refused_without name (place_of name levels)
refused_of levels (commands.RollbackTo name) = refused_without name (place_of name levels)
refused_of levels command = None

-- why the blocks refuse a command, if they do
abbrev pub refused_by : Blocks → Command → Option CommandError
refused_by blocks command = option_or (refused_in blocks.block command) (refused_of blocks.levels command)

-- the first command of the innermost level, or this one where there is no level
abbrev pub innermost : ℕ → List Level → ℕ
innermost number [] = number
innermost number (level ∷ levels) = innermost level.first levels

-- the blocks after a `begin`, which does nothing inside a block
abbrev pub blocks_begun : ℕ → Blocks → Blocks
blocks_begun number blocks = elim blocks.block [ Outside ↦ record { block = Inside; levels = record { first = number; savepoint = None } ∷ [] } | block ↦ blocks ]

-- the blocks after a command of this number that came out well
abbrev pub blocks_well : ℕ → Command → Blocks → Blocks
blocks_well number commands.Begin blocks = blocks_begun number blocks
blocks_well number commands.Commit blocks = no_block
blocks_well number commands.Rollback blocks = no_block
blocks_well number (commands.Savepoint name) blocks = record { block = blocks.block; levels = blocks.levels ++ record { first = number; savepoint = Some name } ∷ [] }
blocks_well number (commands.Release name) blocks = record { block = blocks.block; levels = levels_around name blocks.levels }
blocks_well number (commands.RollbackTo name) blocks = record { block = Inside; levels = levels_up_to name blocks.levels }
blocks_well number command blocks = blocks

-- the blocks after a command that failed
abbrev pub blocks_badly : Blocks → Blocks
blocks_badly blocks = elim blocks.block [ Outside ↦ blocks | block ↦ record { block = Failed; levels = blocks.levels } ]
