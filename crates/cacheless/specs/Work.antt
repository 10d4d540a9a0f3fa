-- What of a session decides what its backend may do next, and does without an entry.
use Rattle.std.specs.Prelude.{ℕ, Bool, Option, List}
use Rattle.ddl_effect.specs.Plans.{Plan}
use Rattle.txn_blocks.specs.Blocks.{Blocks}
use Rattle.cacheless.specs.Types.{Oid, Opening, OwnLock}
use Rattle.cacheless.specs.Session.{Session, Tally, number_of}

-- the number of the running command, the blocks before it, what is left of it, whether the blocks refused it and nothing is left behind, the descriptors that are held, the relation that its lookup has newly locked, whether its release is made, its tally, and the backend's locks
pub record Work : Type 0 where
  pub number : ℕ
  pub blocks : Blocks
  pub left : Plan
  pub blocked : Bool
  pub opened : List Opening
  pub taken : Option Oid
  pub ended : Bool
  pub tally : Tally
  pub locks : List OwnLock

-- that of a session
abbrev pub work_of : Session → Work
work_of s = record { number = number_of s; blocks = s.blocks; left = s.left; blocked = s.blocked; opened = s.opened; taken = s.taken; ended = s.ended; tally = s.tally; locks = s.locks }
