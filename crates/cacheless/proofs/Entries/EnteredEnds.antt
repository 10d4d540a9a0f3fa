-- What the entries of a command's end make of what the code holds.
use Rattle.std.proofs.Common.{◌≡◌, ◌≤◌, ◌+◌, ◌∙◌, ◌&&◌, ◌||◌, ℕ, Bool, true, false, not, Option, Some, None, List, ◌++◌, refl, sym, ap, subst, slice_get, map, filter, nat_lt, if◌then◌else◌}
use Rattle.std.specs.List.{AllByRecursion, list_any}
use Rattle.std.proofs.lemmas.List.Folds.{list_any-append}
use Rattle.event_kinds.specs.declared.entry.Event.TheVariants as events
use Rattle.lock_modes.specs.Rooms.{Roomy}
use Rattle.inval_messages.specs.Messages.{covers, is_spared}
use Rattle.inval_messages.specs.Lists.{Written, lists_before, lists_from, cats_in, rels_in, sent_in}
use Rattle.command_lists.specs.Lists.{Held, all_lists}
use Rattle.local_caches.specs.Caches.{kept_of, KeepsPins}
use Rattle.local_caches.specs.declared.local_caches.LocalCaches.{LocalCaches}
use Rattle.history_model.specs.Transactions.{after_release}
use Rattle.history_model.specs.Sent.{ends_transaction}
use Rattle.history_model.proofs.Every.{every-weaker, every-filter}
use Rattle.cacheless.specs.Types.{Xid, Message, Purpose, Scenario, Entry, Event, OwnLock}
use Rattle.cacheless.specs.declared.progress.Due.TheVariants as dues
use Rattle.cacheless.specs.Suspects.{AreKnown}
use Rattle.cacheless.specs.declared.suspects.Suspects.{Suspects}
use Rattle.cacheless.specs.declared.progress.Progress.{Progress}
use Rattle.cacheless.specs.Facts.{Facts, facts_of}
use Rattle.txn_blocks.specs.Transactions.{begun_own, ends_own, released_own}
use Rattle.ddl_effect.specs.Opens.{opens_before, has_open}
use Rattle.txn_blocks.specs.Blocks.{Outside}
use Rattle.ddl_effect.specs.Stages.{plan_at}
use Rattle.cacheless.specs.Session.{opening_of}
use Rattle.cacheless.specs.State.{lists_at, lists_left, is_out, Kept, kept_at, is_kept, kept_spared, is_in_accept, locks_accepted}
use Rattle.cacheless.specs.Holds.{Rests, HasEntered}
use Rattle.cacheless.specs.Pins.{PinsOnly}
use Rattle.cacheless.proofs.Allowed.OpensKept.{before_each, held_each}
use Rattle.cacheless.proofs.Pinning.{open_each, open_pinned, pins_left}
use Rattle.cacheless.proofs.Written.Putting.{puts_out}
use Rattle.cacheless.proofs.Entries.Entering.{facts_after, noted_after, with_locks, own_entered, ends_same, runs_begun, counts_stay}
use Rattle.local_caches.specs.Kept.{Read}

-- the state after the visibility step
abbrev pub shown : Progress → Progress
shown was = record was { due = dues.Nothing; running = Some (record (begun_own (was.finished + 1) was.running) { visible = true }) }

pub visible_holds : (scenario : Scenario) (old : List Entry) (was : Progress) (xid : Xid) (locks : Roomy OwnLock) (rests : Rests scenario old was)
    → locks.items ≡ locks_accepted (is_in_accept (shown was) (slice_get was.commands was.finished)) was.locks.items
    → HasEntered scenario old was (events.Visible xid) rests (with_locks (shown was) locks)
visible_holds scenario old was xid locks rests items = own_entered scenario old was (shown was) (events.Visible xid) locks rests (record { session = λ _ _ _ _ _ _. refl; finished = λ _. refl }) (record {
  moves = record { id = refl; commands = refl; finished = refl };
  session = refl;
  facts = let f = rests.holds.facts in λ i. record { due = dues.Nothing; running = Some (record (runs_begun (was.finished + 1) was f i) { visible = true }); lists = (f i).lists; kept = (f i).kept };
  counts = counts_stay rests.holds.counts;
  order = rests.holds.order;
  sought = rests.holds.sought;
  puts = rests.holds.puts;
  pins = rests.holds.pins;
}) items

-- the state after a publish of so many messages
abbrev pub sent : Progress → ℕ → Progress
sent was count = record was { due = dues.Nothing; running = Some (record (begun_own (was.finished + 1) was.running) { published = (begun_own (was.finished + 1) was.running).published + count }) }

pub publish_holds : (scenario : Scenario) (old : List Entry) (was : Progress) (count : ℕ) (locks : Roomy OwnLock) (rests : Rests scenario old was)
    → locks.items ≡ locks_accepted (is_in_accept (sent was count) (slice_get was.commands was.finished)) was.locks.items
    → HasEntered scenario old was (events.Publish count) rests (with_locks (sent was count) locks)
publish_holds scenario old was count locks rests items = own_entered scenario old was (sent was count) (events.Publish count) locks rests (record { session = λ _ _ _ _ _ _. refl; finished = λ _. refl }) (record {
  moves = record { id = refl; commands = refl; finished = refl };
  session = refl;
  facts = let f = rests.holds.facts in λ i. record { due = dues.Nothing; running = Some (let own = runs_begun (was.finished + 1) was f i in record own { published = own.published + count }); lists = (f i).lists; kept = (f i).kept };
  counts = counts_stay rests.holds.counts;
  order = rests.holds.order;
  sought = rests.holds.sought;
  puts = rests.holds.puts;
  pins = rests.holds.pins;
}) items

-- messages that are executed in two parts
is_spared-append : (scan : Purpose) (first later : List Message) → is_spared scan (first ++ later) ≡ (is_spared scan first && is_spared scan later)
is_spared-append scan first later = ap not (list_any-append (covers scan) first later) ∙ apart (list_any (covers scan) first) (list_any (covers scan) later)
  where
    apart : (a b : Bool) → not (a || b) ≡ (not a && not b)
    apart true b = refl
    apart false b = refl

kept_twice : (first later : List Message) (kept : Kept) → kept_spared (first ++ later) kept ≡ kept_spared later (kept_spared first kept)
kept_twice first later kept = λ i scan. at scan i
  where
    by_tests : (a b : Bool) (o : Option Read) → (if (a && b) then o else None) ≡ (if b then (if a then o else None) else None)
    by_tests true true o = refl
    by_tests true false o = refl
    by_tests false true o = refl
    by_tests false false o = refl

    at : (scan : Purpose) → kept_spared (first ++ later) kept scan ≡ kept_spared later (kept_spared first kept) scan
    at scan = ap (λ t. if t then kept scan else None) (is_spared-append scan first later) ∙ by_tests (is_spared scan first) (is_spared scan later) (kept scan)

-- the state once writes are taken back
abbrev pub taken_back : (was : Progress) (from : ℕ) (caches : LocalCaches) (suspects : Suspects) → AreKnown (is_kept (kept_of caches)) was.opened suspects → Held → Progress
taken_back was from caches suspects known lists = record was {
  due = dues.Gone from;
  running = Some (begun_own (was.finished + 1) was.running);
  caches = caches;
  suspects = suspects;
  known = known;
  lists = lists;
}

pub gone_holds : (scenario : Scenario) (old : List Entry) (was : Progress) (from : ℕ) (cats rels : List Message) (caches : LocalCaches) (suspects : Suspects) (known : AreKnown (is_kept (kept_of caches)) was.opened suspects) (lists : Held) (locks : Roomy OwnLock) (rests : Rests scenario old was)
    → cats ≡ cats_in (lists_from from (lists_at was)) → rels ≡ rels_in (lists_from from (lists_at was)) → kept_of caches ≡ kept_spared rels (kept_spared cats (kept_at was)) → KeepsPins was.caches caches → all_lists lists.lists ≡ lists_before from (lists_at was)
    → locks.items ≡ locks_accepted (is_in_accept (taken_back was from caches suspects known lists) (slice_get was.commands was.finished)) was.locks.items
    → HasEntered scenario old was (events.Gone from) rests (with_locks (taken_back was from caches suspects known lists) locks)
gone_holds scenario old was from cats rels caches suspects known lists locks rests cats_are rels_are keeps pinned before items = own_entered scenario old was (taken_back was from caches suspects known lists) event locks rests (record { session = λ _ _ _ _ _ _. refl; finished = λ _. refl }) (record {
  moves = record { id = refl; commands = refl; finished = refl };
  session = refl;
  facts = let f = rests.holds.facts in λ i. record { due = dues.Gone from; running = Some (runs_begun (was.finished + 1) was f i); lists = (ap (lists_before from) (ap (λ g. g.lists) f) ∙ sym before) i; kept = (ap (λ g. kept_spared (sent_in (lists_from from g.lists)) g.kept) f ∙ (λ j. kept_spared (sym cats_are j ++ sym rels_are j) (kept_at was)) ∙ kept_twice cats rels (kept_at was) ∙ sym keeps) i };
  counts = counts_stay rests.holds.counts;
  order = subst (AllByRecursion (λ (list : Written). list.command ≤ was.finished + 1)) (sym before)
      (every-filter (λ (list : Written). list.command ≤ was.finished + 1) (λ w. nat_lt w.command from) (lists_at was) (every-weaker (λ (list : Written). list.command ≤ was.finished + 1) (λ (list : Written). nat_lt list.command from ≡ true → list.command ≤ was.finished + 1) (λ list low kept. low) (lists_at was) rests.holds.order));
  sought = rests.holds.sought;
  puts = rests.holds.puts;
  pins = λ rel. pinned rel ∙ rests.holds.pins rel;
}) items
  where
    event : Event
    event = events.Gone from

    after : Facts
    after = facts_after old was event

-- the state after a release
abbrev pub let_go : (was : Progress) (from : ℕ) (caches : LocalCaches) (suspects : Suspects) → AreKnown (is_kept (kept_of caches)) (map opening_of (opens_before from was.opens)) suspects → Held → Roomy OwnLock → Progress
let_go was from caches suspects known lists locks = record was { due = dues.Nothing; ended = true; opened = map opening_of (opens_before from was.opens); running = released_own from (begun_own (was.finished + 1) was.running); caches = caches; suspects = suspects; known = known; lists = lists; locks = locks }

pub release_holds : (scenario : Scenario) (old : List Entry) (was : Progress) (from : ℕ) (caches : LocalCaches) (suspects : Suspects) (known : AreKnown (is_kept (kept_of caches)) (map opening_of (opens_before from was.opens)) suspects) (lists : Held) (held locks : Roomy OwnLock) (rests : Rests scenario old was) → is_out was ≡ true → kept_of caches ≡ kept_at was → PinsOnly was.caches caches was.opens
    → all_lists lists.lists ≡ lists_left (ends_own from was.running) (lists_at was) → held.items ≡ filter (λ lock. nat_lt lock.command from) was.locks.items
    → locks.items ≡ locks_accepted (is_in_accept (let_go was from caches suspects known lists held) (slice_get was.commands was.finished)) held.items
    → HasEntered scenario old was (events.Release from) rests (with_locks (let_go was from caches suspects known lists held) locks)
release_holds scenario old was from caches suspects known lists held locks rests out keeps pinned left stay items = own_entered scenario old was (let_go was from caches suspects known lists held) event locks rests (record { session = λ _ _ _ _ _ _. refl; finished = λ _. refl }) (record {
  moves = record { id = refl; commands = refl; finished = refl };
  session = λ i. record (noted_after old was event rests.holds.rest) { locks = sym stay i };
  facts = let f = rests.holds.facts in λ i. record { due = dues.Nothing; running = after_release from (runs_begun (was.finished + 1) was f i); lists = (ap (λ o. lists_left (ends_transaction from o) (facts_of old was.id).lists) (ap (λ g. g.running) f) ∙ ap (λ t. lists_left t (facts_of old was.id).lists) (ends_same from was.running) ∙ ap (lists_left (ends_own from was.running)) (ap (λ g. g.lists) f) ∙ sym left) i; kept = (ap (λ g. g.kept) f ∙ sym keeps) i };
  counts = counts_stay rests.holds.counts;
  order = subst (AllByRecursion (λ (list : Written). list.command ≤ was.finished + 1)) (sym left) (left_low (ends_own from was.running));
  sought = rests.holds.sought;
  puts = puts_out (map opening_of (opens_before from was.opens)) (plan_at was.opens was.exec) out;
  pins = pins_left was.caches caches was.opens (map opening_of (opens_before from was.opens)) pinned (open_pinned was rests.holds.pins) (held_each (λ rel kind. has_open rel was.opens ≡ true) Outside (opens_before from was.opens) (before_each (λ rel kind. has_open rel was.opens ≡ true) from was.opens (open_each was.opens)));
}) items
  where
    event : Event
    event = events.Release from

    after : Facts
    after = facts_after old was event

    left_low : (t : Bool) → AllByRecursion (λ (list : Written). list.command ≤ was.finished + 1) (lists_left t (lists_at was))
    left_low true = tt
    left_low false = rests.holds.order
