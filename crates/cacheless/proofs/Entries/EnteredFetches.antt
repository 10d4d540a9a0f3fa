-- What a fetch of messages and a reset make of what the code holds.
use Rattle.std.proofs.Common.{◌≡◌, ◌≤◌, ◌+◌, ◌∙◌, ◌&&◌, ℕ, Bool, true, false, Option, Some, None, is_some, List, refl, sym, ap, subst, length, slice_get, arith, take, ◌-◌, if◌then◌else◌}
use Rattle.event_kinds.specs.declared.entry.Event.TheVariants as events
use Rattle.inval_messages.specs.Messages.{is_spared}
use Rattle.lock_modes.specs.Rooms.{Roomy}
use Rattle.local_caches.specs.Caches.{kept_of, KeepsPins}
use Rattle.local_caches.specs.declared.local_caches.LocalCaches.{LocalCaches}
use Rattle.ddl_effect.specs.Plans.{Plan, Done, Fails, Absent, Do}
use Rattle.ddl_effect.specs.Stages.{plan_at, plan_again}
use Rattle.history_model.specs.Log.{fetched_by}
use Rattle.cacheless.specs.Types.{Oid, Message, Purpose, Scenario, Entry, Event, OwnLock, Exec}
use Rattle.cacheless.specs.declared.progress.Due.TheVariants as dues
use Rattle.cacheless.specs.Suspects.{AreKnown}
use Rattle.cacheless.specs.declared.suspects.Suspects.{Suspects}
use Rattle.cacheless.specs.declared.progress.Progress.{Progress}
use Rattle.cacheless.specs.Facts.{Facts}
use Rattle.cacheless.specs.Session.{Session, Tally}
use Rattle.cacheless.specs.Sessions.{resumed, placed_at, counted}
use Rattle.cacheless.specs.Puts.{PutsOpened}
use Rattle.txn_blocks.specs.Transactions.{begun_own}
use Rattle.cacheless.specs.State.{due_fetched, one_if, Kept, kept_at, nothing_kept, is_kept, kept_spared, is_absent, is_full, is_in_accept, locks_accepted, Rest, rest_of, tally_at, session_at}
use Rattle.cacheless.specs.Holds.{FactsFit, Holds, Rests, HasEntered}
use Rattle.cacheless.proofs.Plans.CommandUnder.{never_absent, again_same}
use Rattle.cacheless.proofs.Tests.{not_both}
use Rattle.cacheless.proofs.Same.{full_same}
use Rattle.cacheless.proofs.Entries.Entering.{facts_after, noted_after, with_locks, own_entered, runs_begun}

-- a scan is kept still where it was kept and no message covers it
pub is_kept-spared : (messages : List Message) (kept : Kept) (scan : Purpose) → is_kept (kept_spared messages kept) scan ≡ (is_spared scan messages && is_kept kept scan)
is_kept-spared messages kept scan = by_test (is_spared scan messages)
  where
    by_test : (t : Bool) → is_some (if t then kept scan else None) ≡ (t && is_kept kept scan)
    by_test true = refl
    by_test false = refl

-- what is left once a search is made anew, and the relations that were found then
abbrev pub left_again : Plan → Session → Plan
left_again (Absent name) s = s.sought
left_again p s = s.left

abbrev pub found_again : Plan → Session → List (Option Oid)
found_again (Absent name) s = take (length s.found - 1) s.found
found_again p s = s.found

resumed_is : (p : Plan) (s : Session) → resumed p s ≡ record s { left = left_again p s; found = found_again p s }
resumed_is (Absent name) s = refl
resumed_is (Done told) s = refl
resumed_is (Fails error) s = refl
resumed_is (Do act rest) s = refl

left_is : (was : Progress) (rest : Rest) → (is_absent (plan_at was.opens was.exec) ≡ true → rest.sought ≡ plan_again was.opens was.exec) → (p : Plan) → plan_at was.opens was.exec ≡ p → left_again p (session_at was rest) ≡ plan_again was.opens was.exec
left_is was rest sought (Absent name) at = sought (ap is_absent at)
left_is was rest sought (Done told) at = sym (again_same was.opens was.exec (ap is_absent at))
left_is was rest sought (Fails error) at = sym (again_same was.opens was.exec (ap is_absent at))
left_is was rest sought (Do act plan) at = sym (again_same was.opens was.exec (ap is_absent at))

-- the session once a search is made anew
pub resumed_same : (was : Progress) (exec : Exec) (rest : Rest) → (is_absent (plan_at was.opens was.exec) ≡ true → rest.sought ≡ plan_again was.opens was.exec) → plan_at was.opens exec ≡ plan_again was.opens was.exec
    → resumed (plan_at was.opens was.exec) (session_at was rest) ≡ record (session_at was rest) { left = plan_at was.opens exec; found = found_again (plan_at was.opens was.exec) (session_at was rest) }
resumed_same was exec rest sought again = resumed_is (plan_at was.opens was.exec) (session_at was rest)
    ∙ (λ i. record (session_at was rest) { left = (left_is was rest sought (plan_at was.opens was.exec) refl ∙ sym again) i; found = found_again (plan_at was.opens was.exec) (session_at was rest) })

-- and what is left then puts only what it opens
puts_again : (was : Progress) {scenario : Scenario} {old : List Entry} → Holds scenario old was → PutsOpened was.opened (plan_again was.opens was.exec)
puts_again was holds = by_test (is_absent (plan_at was.opens was.exec)) refl
  where
    by_test : (t : Bool) → is_absent (plan_at was.opens was.exec) ≡ t → PutsOpened was.opened (plan_again was.opens was.exec)
    by_test true is = (holds.sought is).puts was.opened
    by_test false is = subst (PutsOpened was.opened) (sym (again_same was.opens was.exec is)) holds.puts

-- the state after a fetch of these messages, but for its full fetches
abbrev pub fetched_first : (was : Progress) (count : ℕ) (caches : LocalCaches) (suspects : Suspects) → AreKnown (is_kept (kept_of caches)) was.opened suspects → Exec → Progress
fetched_first was count caches suspects known exec = record was {
  exec = exec;
  due = due_fetched count;
  running = Some (begun_own (was.finished + 1) was.running);
  caches = caches;
  suspects = suspects;
  known = known;
  tally = record was.tally { fetches = was.tally.fetches + 1 };
  answer = None;
}

-- the state after the fetch
abbrev pub fetched : (was : Progress) (count : ℕ) (caches : LocalCaches) (suspects : Suspects) → AreKnown (is_kept (kept_of caches)) was.opened suspects → Exec → Progress
fetched was count caches suspects known exec = record (fetched_first was count caches suspects known exec) { tally = record was.tally { fetches = was.tally.fetches + 1; full = was.tally.full + one_if (is_full count (fetched_first was count caches suspects known exec)) } }

full_more : (t : Bool) (tally : Tally) → elim t as (λ x. Tally) [ true ↦ record tally { full = tally.full + 1 } | false ↦ tally ] ≡ record tally { full = tally.full + one_if t }
full_more true tally = refl
full_more false tally = λ i. record tally { full = same i }
  where
    same : tally.full ≡ tally.full + 0
    same = omega arith

one_at_most : (t : Bool) → one_if t ≤ 1
one_at_most true = omega arith
one_at_most false = omega arith

pub fetch_holds : (scenario : Scenario) (old : List Entry) (was : Progress) (count : ℕ) (messages : List Message) (caches : LocalCaches) (suspects : Suspects) (known : AreKnown (is_kept (kept_of caches)) was.opened suspects) (exec : Exec) (locks : Roomy OwnLock) (rests : Rests scenario old was) → messages ≡ fetched_by old was.id count → kept_of caches ≡ kept_spared messages (kept_at was) → KeepsPins was.caches caches → plan_at was.opens exec ≡ plan_again was.opens was.exec
    → locks.items ≡ locks_accepted (is_in_accept (fetched was count caches suspects known exec) (slice_get was.commands was.finished)) was.locks.items
    → HasEntered scenario old was (events.Fetch count) rests (with_locks (fetched was count caches suspects known exec) locks)
fetch_holds scenario old was count messages caches suspects known exec locks rests are keeps pinned again items = own_entered scenario old was now event locks rests (record { session = λ _ _ _ _ _ _. refl; finished = λ s. ends_same s.left s }) (record {
  moves = record { id = refl; commands = refl; finished = refl };
  session = whole ∙ sym (ap (λ t. session_at now (rest_of t)) whole);
  facts = fits;
  counts = let c = rests.holds.counts in record { looks = omega (arith, c.looks); scans = omega (arith, c.scans); grants = omega (arith, c.grants); unlocks = omega (arith, c.unlocks); fetches = omega (arith, c.fetches); full = omega (arith, c.full, one_at_most (is_full count first)) };
  order = rests.holds.order;
  sought = λ is. absurd (not_both (is_absent (plan_at was.opens exec)) is (ap is_absent again ∙ never_absent was.opens was.exec));
  puts = subst (PutsOpened was.opened) (sym again) (puts_again was rests.holds);
  pins = λ rel. pinned rel ∙ rests.holds.pins rel;
}) items
  where
    ends_same : (p : Plan) (s : Session) → (resumed p s).finished ≡ s.finished
    ends_same (Absent name) s = refl
    ends_same p s = refl

    event : Event
    event = events.Fetch count

    now : Progress
    now = fetched was count caches suspects known exec

    first : Progress
    first = fetched_first was count caches suspects known exec

    after : Facts
    after = facts_after old was event

    fits : FactsFit after first
    fits = let f = rests.holds.facts in λ i. record { due = due_fetched count; running = Some (runs_begun (was.finished + 1) was f i); lists = (f i).lists; kept = (ap (λ g. kept_spared (fetched_by old was.id count) g.kept) f ∙ ap (λ l. kept_spared l (kept_at was)) (sym are) ∙ sym keeps) i }

    s : Session
    s = session_at was rests.holds.rest

    -- the session with the entry, but for its tally
    noted_as : Tally → Session
    noted_as tally = record s { left = plan_at was.opens exec; found = found_again (plan_at was.opens was.exec) s; tally = tally; judged = length old + 1; last = length old + 1 }

    once : Tally
    once = record s.tally { fetches = s.tally.fetches + 1 }

    placed_is : placed_at (length old + 1) (was.finished + 1) event s ≡ noted_as once
    placed_is = ap (λ (t : Session). record t { tally = once; locks = s.locks; judged = length old + 1; last = length old + 1 }) (resumed_same was exec rests.holds.rest (λ is. (rests.holds.sought is).is) again)

    whole : noted_after old was event rests.holds.rest ≡ noted_as (tally_at now.tally)
    whole = ap (counted after event) placed_is
        ∙ ap (λ (t : Bool). noted_as (elim t as (λ x. Tally) [ true ↦ record once { full = once.full + 1 } | false ↦ once ])) (full_same after count first (rest_of (noted_as once)) fits)
        ∙ ap noted_as (full_more (is_full count first) once)

-- the state after a reset
abbrev pub was_reset : (was : Progress) (caches : LocalCaches) (suspects : Suspects) → AreKnown (is_kept (kept_of caches)) was.opened suspects → Exec → Progress
was_reset was caches suspects known exec = record was {
  exec = exec;
  due = dues.Nothing;
  running = Some (begun_own (was.finished + 1) was.running);
  caches = caches;
  suspects = suspects;
  known = known;
  tally = record was.tally { fetches = was.tally.fetches + 1 };
  answer = None;
}

pub reset_holds : (scenario : Scenario) (old : List Entry) (was : Progress) (caches : LocalCaches) (suspects : Suspects) (known : AreKnown (is_kept (kept_of caches)) was.opened suspects) (exec : Exec) (locks : Roomy OwnLock) (rests : Rests scenario old was) → kept_of caches ≡ nothing_kept → KeepsPins was.caches caches → plan_at was.opens exec ≡ plan_again was.opens was.exec
    → locks.items ≡ locks_accepted (is_in_accept (was_reset was caches suspects known exec) (slice_get was.commands was.finished)) was.locks.items
    → HasEntered scenario old was events.FetchReset rests (with_locks (was_reset was caches suspects known exec) locks)
reset_holds scenario old was caches suspects known exec locks rests keeps pinned again items = own_entered scenario old was now event locks rests (record { session = λ _ _ _ _ _ _. refl; finished = λ s. ends_same s.left s }) (record {
  moves = record { id = refl; commands = refl; finished = refl };
  session = whole ∙ sym (ap (λ t. session_at now (rest_of t)) whole);
  facts = let f = rests.holds.facts in λ i. record { due = dues.Nothing; running = Some (runs_begun (was.finished + 1) was f i); lists = (f i).lists; kept = sym keeps i };
  counts = let c = rests.holds.counts in record { looks = omega (arith, c.looks); scans = omega (arith, c.scans); grants = omega (arith, c.grants); unlocks = omega (arith, c.unlocks); fetches = omega (arith, c.fetches); full = omega (arith, c.full) };
  order = rests.holds.order;
  sought = λ is. absurd (not_both (is_absent (plan_at was.opens exec)) is (ap is_absent again ∙ never_absent was.opens was.exec));
  puts = subst (PutsOpened was.opened) (sym again) (puts_again was rests.holds);
  pins = λ rel. pinned rel ∙ rests.holds.pins rel;
}) items
  where
    ends_same : (p : Plan) (s : Session) → (resumed p s).finished ≡ s.finished
    ends_same (Absent name) s = refl
    ends_same p s = refl

    event : Event
    event = events.FetchReset

    now : Progress
    now = was_reset was caches suspects known exec

    after : Facts
    after = facts_after old was event

    s : Session
    s = session_at was rests.holds.rest

    whole : noted_after old was event rests.holds.rest ≡ record s { left = plan_at was.opens exec; found = found_again (plan_at was.opens was.exec) s; tally = tally_at now.tally; judged = length old + 1; last = length old + 1 }
    whole = ap (λ (t : Session). record t { tally = tally_at now.tally; locks = s.locks; judged = length old + 1; last = length old + 1 }) (resumed_same was exec rests.holds.rest (λ is. (rests.holds.sought is).is) again)
