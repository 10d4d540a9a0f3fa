-- The facts of a backend after an entry of its own.
use Rattle.std.specs.Prelude.{ℕ, List, ◌+◌, length}
use Rattle.event_kinds.specs.declared.entry.Event.TheVariants as events
use Rattle.inval_messages.specs.Lists.{lists_from, sent_in}
use Rattle.local_caches.specs.Kept.{Kept, nothing_kept, kept_with, kept_spared}
use Rattle.history_model.specs.Log.{fetched_by}
use Rattle.history_model.specs.Sent.{messages_written, lists_by, lists_of}
use Rattle.history_model.specs.Transactions.{running_by}
use Rattle.history_model.specs.Versions.{answer_of}
use Rattle.cacheless.specs.Types.{Entry, Event}
use Rattle.cacheless.specs.Facts.{Facts, due_after}

-- what is kept after an event
abbrev pub kept_by : List Entry → ℕ → Event → Kept → Kept
kept_by before b (events.Scan scan count) kept = kept_with scan (answer_of before b scan) (length before + 1) kept
kept_by before b (events.Fetch count) kept = kept_spared (fetched_by before b count) kept
kept_by before b events.FetchReset kept = nothing_kept
kept_by before b (events.Write xid items) kept = kept_spared (messages_written before b items) kept
kept_by before b (events.Gone from) kept = kept_spared (sent_in (lists_from from (lists_of before b))) kept
kept_by before b events.Fail kept = nothing_kept
kept_by before b event kept = kept

-- the facts after an entry of the backend
abbrev pub facts_by : List Entry → ℕ → ℕ → Event → Facts → Facts
facts_by before b command event old = record {
  due = due_after event;
  running = running_by command event old.running;
  lists = lists_by before b command event old.lists;
  kept = kept_by before b event old.kept;
}
