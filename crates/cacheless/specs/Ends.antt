-- How a command ends.
use Rattle.std.specs.Prelude.{ℕ, Bool, true, false, Option, Some, None, zero, if◌then◌else◌, nat_le, length}
use Rattle.std.specs.Option.{option_map_or}
use Rattle.base_types.specs.declared.command.Command.TheVariants as commands
use Rattle.event_kinds.specs.declared.entry.Event.TheVariants as events
use Rattle.txn_blocks.specs.Blocks.{Block, Outside, Inside, Failed, innermost, levels_up_to}
use Rattle.inval_messages.specs.Lists.{has_write_from}
use Rattle.history_model.specs.Transactions.{is_visible}
use Rattle.history_model.specs.Sent.{unsent_in}
use Rattle.cacheless.specs.Types.{Command, Event}
use Rattle.cacheless.specs.Facts.{Facts}
use Rattle.cacheless.specs.Session.{Unsettled, Well, Badly, outcome_of}
use Rattle.cacheless.specs.Work.{Work}

-- with no entry, by a commit of the transaction with this first command, or by taking back the commands from this one on
pub data End : Type 0 where
  Ends : End
  Commits : (first : ℕ) → End
  TakesBack : (from : ℕ) → End

-- the running transaction as a whole is taken back, if one runs
abbrev pub end_of_all : Facts → End
end_of_all facts = option_map_or (λ t. TakesBack t.first) facts.running Ends

-- the end of a block, by `commit` or by `rollback`: a failed block is always taken back
abbrev pub end_of_block : Facts → Block → Bool → End
end_of_block facts Outside commits = Ends
end_of_block facts Inside true = option_map_or (λ t. Commits t.first) facts.running Ends
end_of_block facts Inside false = end_of_all facts
end_of_block facts Failed commits = end_of_all facts

-- the end of a command that came out well: `rollback to` takes back the level of the savepoint; outside a block a command is a transaction of its own
abbrev pub end_well_in : Facts → Command → Work → End
end_well_in facts commands.Begin w = Ends
end_well_in facts commands.Commit w = end_of_block facts w.blocks.block true
end_well_in facts commands.Rollback w = end_of_block facts w.blocks.block false
end_well_in facts (commands.RollbackTo name) w = TakesBack (innermost w.number (levels_up_to name w.blocks.levels))
end_well_in facts command w = elim w.blocks.block [ Outside ↦ Commits w.number | block ↦ Ends ]

-- the end of a command that failed: the innermost level is taken back, unless the blocks refused it and nothing is left behind
abbrev pub end_badly_in : Work → End
end_badly_in w = elim w.blocked [ true ↦ Ends | false ↦ TakesBack (innermost w.number w.blocks.levels) ]

-- the end of a command
abbrev pub end_in : Facts → Command → Work → End
end_in facts command w = elim (outcome_of w.left) [ Well ↦ end_well_in facts command w | Badly ↦ end_badly_in w | Unsettled ↦ Ends ]

-- the Xid of the running transaction
abbrev pub xid_of : Facts → ℕ
xid_of facts = option_map_or (λ t. option_map_or (λ xid. xid.0) t.xid 0) facts.running 0

-- while messages are unsent a publish of 64 at most, and then the release
abbrev pub next_sent : ℕ → ℕ → Event
next_sent first zero = events.Release first
next_sent first unsent = events.Publish (if nat_le unsent 64 then unsent else 64)

-- the next entry of a commit: the visibility step if it has a write, the publishes, the release
abbrev pub next_of_commit : Facts → ℕ → Event
next_of_commit facts first = elim (has_write_from first facts.lists) [ true ↦ elim (is_visible facts.running) [ true ↦ next_sent first (length (unsent_in facts.lists facts.running)) | false ↦ events.Visible (record { 0 = xid_of facts }) ] | false ↦ events.Release first ]

-- the next entry of taking back: `gone` if there is a write, the release
abbrev pub next_of_taking_back : Facts → ℕ → Event
next_of_taking_back facts from = elim (has_write_from from facts.lists) [ true ↦ events.Gone from | false ↦ events.Release from ]

-- the next entry of an end, if it has one
abbrev pub next_of_end : Facts → End → Option Event
next_of_end facts Ends = None
next_of_end facts (Commits first) = Some (next_of_commit facts first)
next_of_end facts (TakesBack from) = Some (next_of_taking_back facts from)

-- the next entry of the end of a command, if one is left
abbrev pub end_left_in : Facts → Command → Work → Option Event
end_left_in facts command w = elim w.ended [ true ↦ None | false ↦ next_of_end facts (end_in facts command w) ]
