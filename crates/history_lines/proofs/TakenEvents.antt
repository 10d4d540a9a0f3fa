-- What the calls that enter an event make of a session.
use Rattle.std.proofs.Common.{◌≡◌, ◌+◌, ◌∙◌, ◌&&◌, ℕ, Bool, true, false, Option, Some, None, Result, Ok, Err, OnOk, OnErr, List, length, slice_get, refl, sym, ap, subst}
use Rattle.event_kinds.specs.declared.entry.Event.TheVariants as events
use Rattle.history_model.specs.Log.{fetched_by}
use Rattle.history_model.specs.Versions.{answer_of}
use Rattle.history_ledger.specs.Held.{Reads}
use Rattle.inval_messages.specs.declared.message.Message.{Message}
use Rattle.base_types.specs.declared.row.Row.{Row}
use Rattle.base_types.specs.declared.scan.Purpose.{Purpose}
use Rattle.cacheless.specs.Holds.{Holds, Rests, HasEntered, entry_of}
use Rattle.cacheless.specs.Rule.{may_come}
use Rattle.cacheless.specs.May.{has_looked_at, is_next_at, may_play_now}
use Rattle.cacheless.specs.State.{IsLockedIn, facts_at, work_at}
use Rattle.cacheless.specs.Awaiting.{HasTaken, answer_after}
use Rattle.history_lines.specs.Takes.{ComesNext, MayTake}
use Rattle.history_lines.specs.Types.{Scenario, Command, Entry, Event, Ledger, Progress}

-- of three tests that hold the middle one holds
middle_of_three : (a b c : Bool) → (a && b && c) ≡ true → b ≡ true
middle_of_three true true c is = refl
middle_of_three true false c is = is
middle_of_three false b c is = absurd (cc)

-- a scan that may come next is the first that is lacked
pub scan_is_next : (next : ℕ) (s : Progress) (scan : Purpose) (count : ℕ) → may_play_now next s (events.Scan scan count) ≡ true → is_next_at scan s ≡ true
scan_is_next next s scan count may = by_command (slice_get s.commands s.finished) may
  where
    by_command : (command : Option Command) → may_come next (facts_at s) command (work_at s) (events.Scan scan count) ≡ true → is_next_at scan s ≡ true
    by_command (Some found) is = middle_of_three _ (is_next_at scan s) (has_looked_at s) is
    by_command None is = middle_of_three _ (is_next_at scan s) (has_looked_at s) is

-- so many messages were fetched
pub fetched_takes : (ledger : Ledger) (was now : Progress) (messages : List Message) (count : ℕ) → length messages ≡ count → ((seen : List Entry) → Reads seen ledger → messages ≡ fetched_by seen was.id count) → now.answer ≡ None
    → ((scenario : Scenario) (seen : List Entry) (rests : Rests scenario seen was) → messages ≡ fetched_by seen was.id (length messages) → HasEntered scenario seen was (events.Fetch (length messages)) rests now)
    → (scenario : Scenario) (seen : List Entry) (rests : Rests scenario seen was) → Reads seen ledger → HasTaken scenario seen was (events.Fetch count) rests now
fetched_takes ledger was now messages count same given none holds scenario seen rests reads = record {
  goes = subst (λ n. HasEntered scenario seen was (events.Fetch n) rests now) same (holds scenario seen rests (given seen reads ∙ ap (fetched_by seen was.id) (sym same)));
  answer = none;
}

-- a scan gave rows
pub scanned_takes : {E : Type 0} (result : Result (Unit {0}) E) (ledger : Ledger) (was now : Progress) (scan : Purpose) (rows : List Row) (at : ℕ) → ((seen : List Entry) → Reads seen ledger → rows ≡ answer_of seen was.id scan) → OnOk result (now.answer ≡ None)
    → OnOk result ((scenario : Scenario) (seen : List Entry) (count : ℕ) → (rests : Rests scenario seen was) → rows ≡ answer_of seen was.id scan → at ≡ length seen + 1 → HasEntered scenario seen was (events.Scan scan count) rests now)
    → OnOk result ((scenario : Scenario) (seen : List Entry) (count : ℕ) (rests : Rests scenario seen was) → Reads seen ledger → at ≡ length seen + 1 → HasTaken scenario seen was (events.Scan scan count) rests now)
scanned_takes (Ok done) ledger was now scan rows at given none holds = λ scenario seen count rests reads place. record {
  goes = holds scenario seen count rests (given seen reads) place;
  answer = none;
}
scanned_takes (Err e) ledger was now scan rows at given none holds = tt

-- a session with this room for locks
abbrev with_room : Progress → ℕ → Progress
with_room s room = record s { locks = record { items = s.locks.items; room = room } }

-- the one for which room for a lock was made
room_same : (s p : Progress) → IsLockedIn s.locks.items s p → p ≡ with_room s p.locks.room
room_same s p same = same.is ∙ (λ i. record s { locks = record { items = same.locks_are i; room = p.locks.room } })

-- it holds the same session
room_holds : (scenario : Scenario) (seen : List Entry) (s : Progress) (room : ℕ) → Holds scenario seen s → Holds scenario seen (with_room s room)
room_holds scenario seen s room h = record {
  number = h.number;
  commands = h.commands;
  few = h.few;
  most = h.most;
  rest = h.rest;
  count = h.count;
  is = h.is;
  facts = h.facts;
  counts = h.counts;
  order = h.order;
  sought = h.sought;
  puts = h.puts;
  pins = h.pins;
}

-- and rests where it did
room_rests : (scenario : Scenario) (seen : List Entry) (s : Progress) (room : ℕ) → Rests scenario seen s → Rests scenario seen (with_room s room)
unfolding room_holds
room_rests scenario seen s room rests = record { holds = room_holds scenario seen s room rests.holds; still = rests.still }

-- what it takes the session takes
room_takes : (scenario : Scenario) (seen : List Entry) (s : Progress) (room : ℕ) (event : Event) (now : Progress) (rests : Rests scenario seen s) → HasTaken scenario seen (with_room s room) event (room_rests scenario seen s room rests) now → HasTaken scenario seen s event rests now
unfolding room_rests
room_takes scenario seen s room event now rests takes = record {
  goes = record { holds = takes.goes.holds; session = takes.goes.session; moves = record { id = takes.goes.moves.id; commands = takes.goes.moves.commands; finished = takes.goes.moves.finished } };
  answer = takes.answer;
}

-- what a session takes for which room for a lock was made it takes
reserved_takes : (scenario : Scenario) (seen : List Entry) (s p : Progress) (event : Event) (now : Progress) → IsLockedIn s.locks.items s p → ((rests : Rests scenario seen p) → HasTaken scenario seen p event rests now) → (rests : Rests scenario seen s) → HasTaken scenario seen s event rests now
reserved_takes scenario seen s p event now same takes rests = room_takes scenario seen s p.locks.room event now rests (subst (λ x. (r : Rests scenario seen x) → HasTaken scenario seen x event r now) (room_same s p same) takes (room_rests scenario seen s p.locks.room rests))

-- whatever it reads of the ledger
pub reserved_taken : (ledger : Ledger) (at : ℕ) (s p : Progress) (event : Event) (now : Progress) → IsLockedIn s.locks.items s p → ((scenario : Scenario) (seen : List Entry) (rests : Rests scenario seen p) → Reads seen ledger → at ≡ length seen + 1 → HasTaken scenario seen p event rests now)
    → (scenario : Scenario) (seen : List Entry) (rests : Rests scenario seen s) → Reads seen ledger → at ≡ length seen + 1 → HasTaken scenario seen s event rests now
reserved_taken ledger at s p event now same takes scenario seen rests reads place = reserved_takes scenario seen s p event now same (λ r. takes scenario seen r reads place) rests

-- what may be taken may be taken once room for a lock was made
pub reserved_may : (ledger : Ledger) (s p : Progress) (event : Event) → IsLockedIn s.locks.items s p → ((scenario : Scenario) (seen : List Entry) → Rests scenario seen s → Rests scenario seen p) → MayTake ledger s event → MayTake ledger p event
reserved_may ledger s p event same rests may = record {
  scenario = may.scenario;
  seen = may.seen;
  reads = may.reads;
  counted = may.counted;
  rests = rests may.scenario may.seen may.rests;
  comes = subst (λ (x : Progress). ComesNext may.scenario may.seen (entry_of x.id (x.finished + 1) event)) (sym same.is) may.comes;
}

-- a call that enters an event takes it
pub event_takes : (was now : Progress) (given event : Event) → given ≡ event → ((scenario : Scenario) (seen : List Entry) (rests : Rests scenario seen was) → HasEntered scenario seen was event rests now) → now.answer ≡ answer_after event was.answer
    → (scenario : Scenario) (seen : List Entry) (rests : Rests scenario seen was) → HasTaken scenario seen was given rests now
event_takes was now given event is goes answer scenario seen rests = subst (λ e. HasTaken scenario seen was e rests now) (sym is) (record { goes = goes scenario seen rests; answer = answer })

-- what was taken is the event that is given
pub taken_as : (was now : Progress) (given event : Event) → given ≡ event → ((scenario : Scenario) (seen : List Entry) (rests : Rests scenario seen was) → HasTaken scenario seen was event rests now) → (scenario : Scenario) (seen : List Entry) (rests : Rests scenario seen was) → HasTaken scenario seen was given rests now
taken_as was now given event is takes scenario seen rests = subst (λ e. HasTaken scenario seen was e rests now) (sym is) (takes scenario seen rests)

-- a release, which takes memory
pub released_takes : {E : Type 0} (result : Result (Unit {0}) E) (ledger : Ledger) (at : ℕ) (was now : Progress) (given : Event) (from : ℕ) → given ≡ events.Release from
    → OnOk result ((scenario : Scenario) (seen : List Entry) (rests : Rests scenario seen was) → HasEntered scenario seen was (events.Release from) rests now) → OnOk result (now.answer ≡ was.answer)
    → OnOk result ((scenario : Scenario) (seen : List Entry) (rests : Rests scenario seen was) → Reads seen ledger → at ≡ length seen + 1 → HasTaken scenario seen was given rests now)
released_takes (Ok done) ledger at was now given from is goes answer = λ scenario seen rests reads place. event_takes was now given (events.Release from) is goes answer scenario seen rests
released_takes (Err e) ledger at was now given from is goes answer = tt

-- the event that a class takes is the one that is given
pub takes_alone : {E : Type 0} (result : Result (Unit {0}) E) (ledger : Ledger) (at : ℕ) (was now : Progress) (given event : Event) → given ≡ event → OnOk result ((scenario : Scenario) (seen : List Entry) (rests : Rests scenario seen was) → HasTaken scenario seen was event rests now)
    → OnOk result ((scenario : Scenario) (seen : List Entry) (rests : Rests scenario seen was) → Reads seen ledger → at ≡ length seen + 1 → HasTaken scenario seen was given rests now)
takes_alone (Ok done) ledger at was now given event is takes = λ scenario seen rests reads place. subst (λ e. HasTaken scenario seen was e rests now) (sym is) (takes scenario seen rests)
takes_alone (Err e) ledger at was now given event is takes = tt

-- where it reads the ledger
pub takes_reading : {E : Type 0} (result : Result (Unit {0}) E) (ledger : Ledger) (at : ℕ) (was now : Progress) (given event : Event) → given ≡ event → OnOk result ((scenario : Scenario) (seen : List Entry) (rests : Rests scenario seen was) → Reads seen ledger → HasTaken scenario seen was event rests now)
    → OnOk result ((scenario : Scenario) (seen : List Entry) (rests : Rests scenario seen was) → Reads seen ledger → at ≡ length seen + 1 → HasTaken scenario seen was given rests now)
takes_reading (Ok done) ledger at was now given event is takes = λ scenario seen rests reads place. subst (λ e. HasTaken scenario seen was e rests now) (sym is) (takes scenario seen rests reads)
takes_reading (Err e) ledger at was now given event is takes = tt

-- where it is a scan
pub takes_scan : {E : Type 0} (result : Result (Unit {0}) E) (ledger : Ledger) (at : ℕ) (was now : Progress) (given : Event) (scan : Purpose) (count : ℕ) → given ≡ events.Scan scan count
    → OnOk result ((scenario : Scenario) (seen : List Entry) (count : ℕ) (rests : Rests scenario seen was) → Reads seen ledger → at ≡ length seen + 1 → HasTaken scenario seen was (events.Scan scan count) rests now)
    → OnOk result ((scenario : Scenario) (seen : List Entry) (rests : Rests scenario seen was) → Reads seen ledger → at ≡ length seen + 1 → HasTaken scenario seen was given rests now)
takes_scan (Ok done) ledger at was now given scan count is takes = λ scenario seen rests reads place. subst (λ e. HasTaken scenario seen was e rests now) (sym is) (takes scenario seen count rests reads place)
takes_scan (Err e) ledger at was now given scan count is takes = tt

-- what holds whatever comes out holds where memory is refused
pub whatever_fails : {T E P : Type 0} (result : Result T E) → P → OnErr result P
whatever_fails (Ok done) holds = tt
whatever_fails (Err e) holds = holds
