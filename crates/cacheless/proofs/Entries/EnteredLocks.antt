-- What a granted lock, a refused one and a refused write make of what the code holds.
use Rattle.std.proofs.Common.{◌≡◌, ◌+◌, ◌∙◌, ◌||◌, ℕ, true, false, not, Option, Some, None, List, [], ◌∷◌, ◌++◌, refl, sym, ap, map, filter, slice_get, length, arith}
use Rattle.std.proofs.Math.Bool.{and-false}
use Rattle.event_kinds.specs.declared.entry.Event.TheVariants as events
use Rattle.command_answers.specs.declared.error.CommandError.TheVariants as errors
use Rattle.row_visibility.specs.declared.clash.Clash.TheVariants as clashes
use Rattle.lock_modes.specs.Own.{is_own, cleared}
use Rattle.lock_modes.specs.Rooms.{Roomy}
use Rattle.inval_messages.specs.Lists.{Written}
use Rattle.history_model.specs.Sent.{lists_by}
use Rattle.history_model.specs.Transactions.{begun, running_by}
use Rattle.txn_blocks.specs.declared.transaction.RunningTransaction.{RunningTransaction as Running}
use Rattle.history_model.specs.Changing.{is_empty}
use Rattle.cacheless.specs.Types.{Oid, Mode, Command, CommandError, Clash, Scenario, Entry, Event, OwnLock}
use Rattle.cacheless.specs.declared.progress.Due.TheVariants as dues
use Rattle.cacheless.specs.declared.progress.Progress.{Progress}
use Rattle.cacheless.specs.Facts.{facts_of, due_after}
use Rattle.cacheless.specs.Owed.{Owes, OwesLook, begins_in}
use Rattle.cacheless.specs.Sessions.{refused_with}
use Rattle.txn_blocks.specs.Transactions.{begun_own}
use Rattle.cacheless.specs.State.{Kept, work_at, owed_first, lacks_builds, is_in_accept, locks_accepted, clash_event, error_of, failed_with, Rest, rest_of, session_at}
use Rattle.cacheless.specs.Holds.{Rests, HasEntered}
use Rattle.cacheless.proofs.FactsAfter.{kept_by}
use Rattle.cacheless.proofs.Entries.Entering.{noted_after, with_locks, GoesOn, own_entered, runs_begun, counts_stay}
use Rattle.cacheless.proofs.Settling.{is_empty-after}

-- the state after a lock
abbrev pub granted : Progress → Oid → Roomy OwnLock → Progress
granted was rel locks = record was { due = dues.Look; running = Some (begun_own (was.finished + 1) was.running); tally = record was.tally { grants = was.tally.grants + 1 }; taken = Some rel; locks = locks; answer = None }

accepts_on : (s : Progress) (o : Option Command) → s.due ≡ dues.Look → is_in_accept s o ≡ true
accepts_on s None due = ap (λ d. is_in_accept (record s { due = d }) None) due
accepts_on s (Some command) due = ap (λ d. is_in_accept (record s { due = d }) (Some command)) due ∙ ap (λ t. not t || lacks_builds s) (is_empty-after (owed_first s command) (OwesLook ∷ []) refl)

-- a lock that is granted
pub granted_holds : (scenario : Scenario) (old : List Entry) (was : Progress) (rel : Oid) (mode : Mode) (locks : Roomy OwnLock) (rests : Rests scenario old was)
    → locks.items ≡ was.locks.items ++ record { rel = rel; mode = mode; command = was.finished + 1; clear = false } ∷ []
    → HasEntered scenario old was (events.LockOk rel mode) rests (granted was rel locks)
granted_holds scenario old was rel mode locks rests items = own_entered scenario old was (granted was rel locks) (events.LockOk rel mode) locks rests (record { session = λ _ _ _ _ _ _. refl; finished = λ _. refl }) (record {
  moves = record { id = refl; commands = refl; finished = refl };
  session = λ i. record (noted_after old was (events.LockOk rel mode) rests.holds.rest) { locks = sym items i };
  facts = let f = rests.holds.facts in λ i. record { due = dues.Look; running = Some (runs_begun (was.finished + 1) was f i); lists = (f i).lists; kept = (f i).kept };
  counts = let c = rests.holds.counts in record { looks = omega (arith, c.looks); scans = omega (arith, c.scans); grants = omega (arith, c.grants); unlocks = omega (arith, c.unlocks); fetches = omega (arith, c.fetches); full = c.full };
  order = rests.holds.order;
  sought = rests.holds.sought;
  puts = rests.holds.puts;
  pins = rests.holds.pins;
}) (ap (λ t. locks_accepted t locks.items) (sym (accepts_on (granted was rel locks) (slice_get was.commands was.finished) refl)))

-- the state after a lock is given back
abbrev pub gave_back : Progress → Roomy OwnLock → Progress
gave_back was locks = record was { due = dues.Nothing; running = Some (begun_own (was.finished + 1) was.running); tally = record was.tally { unlocks = was.tally.unlocks + 1 }; taken = None; locks = locks; answer = None }

pub unlock_holds : (scenario : Scenario) (old : List Entry) (was : Progress) (rel : Oid) (mode : Mode) (left locks : Roomy OwnLock) (rests : Rests scenario old was) → left.items ≡ filter (λ lock. not (is_own rel mode lock)) was.locks.items
    → locks.items ≡ locks_accepted (is_in_accept (gave_back was left) (slice_get was.commands was.finished)) left.items
    → HasEntered scenario old was (events.Unlock rel mode) rests (with_locks (gave_back was left) locks)
unlock_holds scenario old was rel mode left locks rests stay items = own_entered scenario old was (gave_back was left) (events.Unlock rel mode) locks rests (record { session = λ _ _ _ _ _ _. refl; finished = λ _. refl }) (record {
  moves = record { id = refl; commands = refl; finished = refl };
  session = λ i. record (noted_after old was (events.Unlock rel mode) rests.holds.rest) { locks = sym stay i };
  facts = let f = rests.holds.facts in λ i. record { due = dues.Nothing; running = Some (runs_begun (was.finished + 1) was f i); lists = (f i).lists; kept = (f i).kept };
  counts = let c = rests.holds.counts in record { looks = omega (arith, c.looks); scans = omega (arith, c.scans); grants = omega (arith, c.grants); unlocks = omega (arith, c.unlocks); fetches = omega (arith, c.fetches); full = c.full };
  order = rests.holds.order;
  sought = rests.holds.sought;
  puts = rests.holds.puts;
  pins = rests.holds.pins;
}) items

-- the event shows an error that ends the command, and does nothing else
record Fails (event : Event) (error : CommandError) : Type 0 where
  on : GoesOn event
  noted : (old : List Entry) (was : Progress) (rest : Rest) → noted_after old was event rest ≡ record (refused_with error (session_at was rest)) { judged = length old + 1; last = length old + 1 }
  running : (command : ℕ) (o : Option Running) → running_by command event o ≡ Some (begun command o)
  lists : (before : List Entry) (b command : ℕ) (lists : List Written) → lists_by before b command event lists ≡ lists
  due : due_after event ≡ dues.Nothing
  kept : (before : List Entry) (b : ℕ) (kept : Kept) → kept_by before b event kept ≡ kept

-- a command that has failed accepts nothing
accepts_none : (error : CommandError) (was : Progress) (o : Option Command) → is_in_accept (failed_with error was) o ≡ false
accepts_none error was None = refl
accepts_none error was (Some command) = ap (λ t. not (is_empty (elim t as (λ x. List Owes) [ true ↦ OwesLook ∷ [] | false ↦ [] ] ++ [])) || false) (and-false (begins_in command (work_at (failed_with error was))))

fails_holds : (event : Event) (error : CommandError) → Fails event error → (scenario : Scenario) (old : List Entry) (was : Progress) (locks : Roomy OwnLock) → (rests : Rests scenario old was) → locks.items ≡ map cleared was.locks.items
    → HasEntered scenario old was event rests (with_locks (failed_with error was) locks)
fails_holds event error fails scenario old was locks rests items = own_entered scenario old was (failed_with error was) event locks rests fails.on (record {
  moves = record { id = refl; commands = refl; finished = refl };
  session = fails.noted old was rests.holds.rest ∙ sym (ap (λ t. session_at (failed_with error was) (rest_of t)) (fails.noted old was rests.holds.rest));
  facts = let f = rests.holds.facts in λ i. record { due = fails.due i; running = (fails.running (was.finished + 1) (facts_of old was.id).running ∙ ap Some (runs_begun (was.finished + 1) was f)) i; lists = (fails.lists old was.id (was.finished + 1) (facts_of old was.id).lists ∙ (ap (λ g. g.lists) f)) i; kept = (fails.kept old was.id (facts_of old was.id).kept ∙ ap (λ g. g.kept) f) i };
  counts = counts_stay rests.holds.counts;
  order = rests.holds.order;
  sought = λ is. absurd (cc);
  puts = tt;
  pins = rests.holds.pins;
}) (items ∙ ap (λ t. locks_accepted t was.locks.items) (sym (accepts_none error was (slice_get was.commands was.finished))))

-- a lock that is refused
pub refused_holds : (scenario : Scenario) (old : List Entry) (was : Progress) (rel : Oid) (mode : Mode) (holder : ℕ) (held : Mode) (locks : Roomy OwnLock) → (rests : Rests scenario old was) → locks.items ≡ map cleared was.locks.items
    → HasEntered scenario old was (events.LockHeld rel mode holder held) rests (with_locks (failed_with (errors.Locked rel holder held) was) locks)
refused_holds scenario old was rel mode holder held = fails_holds (events.LockHeld rel mode holder held) (errors.Locked rel holder held) (record { on = record { session = λ _ _ _ _ _ _. refl; finished = λ _. refl }; noted = λ _ _ _. refl; running = λ _ _. refl; lists = λ _ _ _ _. refl; due = refl; kept = λ _ _ _. refl }) scenario old was

-- a write that is refused
pub clash_holds : (scenario : Scenario) (old : List Entry) (was : Progress) (name : List ℕ) (clash : Clash) (locks : Roomy OwnLock) → (rests : Rests scenario old was) → locks.items ≡ map cleared was.locks.items
    → HasEntered scenario old was (clash_event name clash) rests (with_locks (failed_with (error_of name clash) was) locks)
clash_holds scenario old was name (clashes.Row rel) = fails_holds (events.ClashRow name rel) (errors.RelationExists name) (record { on = record { session = λ _ _ _ _ _ _. refl; finished = λ _. refl }; noted = λ _ _ _. refl; running = λ _ _. refl; lists = λ _ _ _ _. refl; due = refl; kept = λ _ _ _. refl }) scenario old was
clash_holds scenario old was name (clashes.Running xid) = fails_holds (events.ClashRunning name xid) (errors.NameInUse name xid) (record { on = record { session = λ _ _ _ _ _ _. refl; finished = λ _. refl }; noted = λ _ _ _. refl; running = λ _ _. refl; lists = λ _ _ _ _. refl; due = refl; kept = λ _ _ _. refl }) scenario old was
