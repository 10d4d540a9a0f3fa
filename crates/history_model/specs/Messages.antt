-- The messages of a transaction's writes, and what of them is still to be sent; the queue as a log that is never shortened.
use Rattle.std.specs.Prelude.{ℕ, Bool, true, false, Option, List, [], ◌∷◌, ◌++◌, ◌+◌, ◌&&◌, nat_lt, fold, length, take, drop}
use Rattle.std.specs.Option.{option_map_or}
use Rattle.std.specs.List.{flat_map}
use Rattle.inval_messages.specs.Changes.{cats_of, rels_of}
use Rattle.inval_messages.specs.Lists.{Written, once_more, lists_before, left_after, unsent_after}
use Rattle.history_model.specs.Types.{Message, Rel, Item, Force, Event, Start, Look, Fetch, FetchReset, Write, Publish, Gone, Release}
use Rattle.history_model.specs.Segment.{Running, Standing, Segment, is_alive, ends_transaction}
use Rattle.history_model.specs.Rows.{old_at, added_row}

-- the messages of a change for the catalog caches
abbrev pub cats_at : Segment → ℕ → Item → List Message
cats_at s b item = cats_of (old_at s b item) (added_row item)

-- the messages of a change for descriptors
abbrev pub rels_at : Segment → ℕ → Item → List Message
rels_at s b (Force rel) = Rel rel ∷ []
rels_at s b item = rels_of (old_at s b item) (added_row item)

-- the messages of a write
abbrev pub written_at : Segment → ℕ → ℕ → List Item → Written
written_at s b command items = record { command = command; cats = flat_map (cats_at s b) items; rels = fold once_more [] (flat_map (rels_at s b) items) }

-- all messages of a write, those for the catalog caches first
abbrev pub messages_at : Segment → ℕ → List Item → List Message
messages_at s b items = flat_map (cats_at s b) items ++ fold once_more [] (flat_map (rels_at s b) items)

-- the changes of an event
abbrev pub items_in : Event → List Item
items_in (Write xid items) = items
items_in event = []

-- the writes that weren't taken back, after an event of their backend, which has these messages if it is a write
abbrev pub lists_after : Written → Event → Option Running → List Written → List Written
lists_after written (Write xid items) running old = old ++ written ∷ []
lists_after written (Gone from) running old = lists_before from old
lists_after written (Release from) running old = elim (ends_transaction from running) [ true ↦ [] | false ↦ old ]
lists_after written event running old = old

-- what of a transaction's messages isn't published yet
abbrev pub left_in : List Written → Option Running → List Message
left_in lists running = option_map_or (λ t. left_after t.published lists) running []

-- what one publish may send next: no publish goes over from one part to the other
abbrev pub unsent_in : List Written → Option Running → List Message
unsent_in lists running = option_map_or (λ t. unsent_after t.published lists) running []

-- of a backend
abbrev pub left_at : Standing → List Message
left_at own = left_in own.lists own.running

abbrev pub unsent_at : Standing → List Message
unsent_at own = unsent_in own.lists own.running

-- the log after an event of a backend
abbrev pub log_after : Standing → Event → List Message → List Message
log_after own (Publish count) old = old ++ take count (unsent_at own)
log_after own event old = old

-- the position of a backend after one of its events, where the log has so many messages
abbrev pub position_after : ℕ → Event → ℕ → ℕ
position_after end Start old = end
position_after end FetchReset old = end
position_after end (Fetch count) old = old + count
position_after end event old = old

-- the messages that a fetch of so many gives
abbrev pub fetched_at : Segment → ℕ → ℕ → List Message
fetched_at s b count = take count (drop (s.standing b).position s.log)

-- a message waits for the backend, where the log has so many messages
abbrev pub waits_at : ℕ → Standing → Bool
waits_at end own = is_alive own.life && nat_lt own.position end

-- whether a message waited at the backend's last entry that is no look, where one waits or not after the event
abbrev pub waited_after : Bool → Event → Bool → Bool
waited_after waits (Look some_wait) old = old
waited_after waits event old = waits
