-- The transaction that a backend runs, by its blocks and its running command.
use Rattle.std.specs.Prelude.{◌≡◌, ◌≤◌, ◌+◌, ◌⊎◌, ⊤, ℕ, Bool, true, false, not, Option, Some, None, List, [], ◌∷◌, is_some}
use Rattle.std.specs.Option.{option_map_or}
use Rattle.inval_messages.specs.Lists.{has_write_from}
use Rattle.txn_blocks.specs.Blocks.{Block, Level, Blocks, Outside, Inside, Failed, is_open}
use Rattle.ddl_effect.specs.Opens.{opens_before}
use Rattle.ddl_effect.specs.Plans.{Done}
use Rattle.ddl_effect.specs.declared.told.Told.TheVariants as tells
use Rattle.history_model.specs.Changing.{is_empty}
use Rattle.history_model.specs.Transactions.{is_visible}
use Rattle.cacheless.specs.Types.{Command, OpenRelation}
use Rattle.cacheless.specs.declared.progress.Due.TheVariants as dues
use Rattle.cacheless.specs.Facts.{Facts}
use Rattle.cacheless.specs.Session.{Session, held_before, number_of, outcome_of, is_settled, plan_first, is_blocked}
use Rattle.cacheless.specs.Work.{work_of}
use Rattle.cacheless.specs.Owed.{begins_in, owed_after, owed_in}
use Rattle.cacheless.specs.Ends.{End, Commits, TakesBack, end_of_all, end_in}
use Rattle.cacheless.specs.Settled.{blocks_after}

-- the levels began one after another, none before the command of the first number, and all before that of the second
abbrev pub LevelsRise : ℕ → ℕ → List Level → Type 0
LevelsRise from number [] = from ≤ number
LevelsRise from number (level ∷ levels) = (from ≤ level.first) × LevelsRise (level.first + 1) number levels

-- the outermost level is the block's own: no savepoint began it
abbrev pub IsOutermostPlain : List Level → Type 0
IsOutermostPlain [] = ⊤
IsOutermostPlain (level ∷ levels) = level.savepoint ≡ None

-- the first command of the outermost level, or this one where there is no level
abbrev pub outermost : ℕ → List Level → ℕ
outermost number [] = number
outermost number (level ∷ levels) = level.first

-- the first command of the running transaction, or 0
abbrev pub first_at : Facts → ℕ
first_at facts = option_map_or (λ t. t.first) facts.running 0

-- the transaction of a command that begins one
pub record RunsAlone (facts : Facts) (o : Option Command) (s : Session) : Type 0 where
  pub command : Command
  pub at : o ≡ Some command
  pub begins : begins_in command (work_of s) ≡ true
  pub first : first_at facts ≡ number_of s

-- the transaction of a block, whichever command runs: its outermost level began it
pub record RunsBlock (facts : Facts) (levels : List Level) : Type 0 where
  pub runs : is_some facts.running ≡ true
  pub first : (command : ℕ) → first_at facts ≡ outermost command levels

-- the transaction of a block whose innermost level failed: none where that was the outermost one too
abbrev pub RunsFailed : Facts → List Level → Type 0
RunsFailed facts (level ∷ inner ∷ levels) = RunsBlock facts (level ∷ inner ∷ levels)
RunsFailed facts levels = facts.running ≡ None

-- the transaction between two commands, by the levels and the block
abbrev pub RunsAt : Facts → List Level → Block → Type 0
RunsAt facts levels Outside = facts.running ≡ None
RunsAt facts levels Inside = RunsBlock facts levels
RunsAt facts levels Failed = RunsFailed facts levels

-- the same by the blocks
abbrev pub RunsIn : Facts → Blocks → Type 0
RunsIn facts blocks = RunsAt facts blocks.levels blocks.block

-- the transaction in a command, by the blocks before it: outside a block the command's own, if it has begun
abbrev pub RunsBy : Facts → Option Command → Session → Block → Type 0
RunsBy facts o s Outside = (facts.running ≡ None) ⊎ RunsAlone facts o s
RunsBy facts o s block = RunsAt facts s.blocks.levels block

-- the transaction once the command's release is made, by the blocks after the command: none after the last one
abbrev pub RunsAfter : Facts → Option Command → Session → Type 0
RunsAfter facts None s = facts.running ≡ None
RunsAfter facts (Some command) s = RunsIn facts (blocks_after command s)

-- the transaction before the release, and after it
abbrev pub TransactionFits : Facts → Option Command → Session → Bool → Type 0
TransactionFits facts o s true = RunsAfter facts o s
TransactionFits facts o s false = RunsBy facts o s s.blocks.block

-- the end of the running command, or after the last one that of what still runs
abbrev pub end_by : Facts → Option Command → Session → End
end_by facts None s = end_of_all facts
end_by facts (Some command) s = end_in facts command (work_of s)

-- a commit on its way: it is that of the running transaction, and nothing has to come before its next entry
pub record OnCommit (facts : Facts) (o : Option Command) (s : Session) : Type 0 where
  pub command : Command
  pub at : o ≡ Some command
  pub going : s.ended ≡ false
  pub out : is_settled (outcome_of s.left) ≡ true
  pub free : owed_in facts command (work_of s) ≡ []
  pub end : end_in facts command (work_of s) ≡ Commits (first_at facts)
  pub written : has_write_from (first_at facts) facts.lists ≡ true

-- taking back on its way: nothing is left of it but the release
pub record OnTakingBack (facts : Facts) (o : Option Command) (s : Session) (from : ℕ) : Type 0 where
  pub runs : is_some facts.running ≡ true
  pub going : s.ended ≡ false
  pub out : is_settled (outcome_of s.left) ≡ true
  pub end : end_by facts o s ≡ TakesBack from
  pub none : has_write_from from facts.lists ≡ false

-- no relation is open outside a block
abbrev pub OpensIn : Block → List OpenRelation → Type 0
OpensIn Outside opens = opens ≡ []
OpensIn block opens = ⊤

-- what holds of a backend's transaction in its running command, or after the last one:
--   transaction  it is that of the command or of the block
--   first        it began in this command or in an earlier one
--   opens        there are levels in a block, and none outside
--   levels       they began one after another, before this command
--   plain        no savepoint began the outermost one
--   blocked      whether the blocks refuse the command, and nothing is left behind
--   settled      a command without an act is left as it began
--   written      where it has written it has an Xid
--   visible      where it is visible its commit is on its way
--   taken        where the last entry took writes back, only the release of that is left
--   accepts      where something is owed right after the last entry, it runs
--   past         after the last command nothing is left
--   inside       outside a block no relation is open
--   since        its commands opened all that are open
--   free         once the release is made and it runs no more, no descriptor is held
--   over         the release is made only once the command has come out
--   held         after the last command, and before the release, the descriptors of the relations that are open are held
pub record RunsFit (facts : Facts) (o : Option Command) (s : Session) : Type 0 where
  pub transaction : TransactionFits facts o s s.ended
  pub first : first_at facts ≤ number_of s
  pub opens : is_open s.blocks ≡ not (is_empty s.blocks.levels)
  pub levels : LevelsRise 0 (number_of s) s.blocks.levels
  pub plain : IsOutermostPlain s.blocks.levels
  pub blocked : s.blocked ≡ is_blocked s.blocks o
  pub settled : is_settled (outcome_of (plan_first s.blocks s.opens o)) ≡ true → s.left ≡ plan_first s.blocks s.opens o
  pub written : has_write_from 0 facts.lists ≡ true → option_map_or (λ t. is_some t.xid) facts.running false ≡ true
  pub visible : is_visible facts.running ≡ true → OnCommit facts o s
  pub taken : (from : ℕ) → facts.due ≡ dues.Gone from → OnTakingBack facts o s from
  pub accepts : is_empty (owed_after facts.due) ≡ false → is_some facts.running ≡ true
  pub past : o ≡ None → s.left ≡ Done tells.Ok
  pub inside : OpensIn s.blocks.block s.opens
  pub since : opens_before (first_at facts) s.opens ≡ []
  pub free : s.ended ≡ true → facts.running ≡ None → s.opened ≡ []
  pub over : s.ended ≡ true → is_settled (outcome_of s.left) ≡ true
  pub held : o ≡ None → s.ended ≡ false → s.opened ≡ held_before s
