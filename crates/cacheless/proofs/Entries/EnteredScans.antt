-- What a scan makes of what the code holds.
use Rattle.std.proofs.Common.{◌≡◌, ◌+◌, ◌∙◌, ℕ, Bool, true, false, not, Option, Some, None, is_some, List, [], ◌∷◌, refl, sym, ap, subst, slice_get, arith, cond, length}
use Rattle.std.specs.List.{find, list_any, AllByRecursion}
use Rattle.std.specs.Option.{option_map_or}
use Rattle.base_types.specs.Scans.{same_scan, build_scans, is_build_scan}
use Rattle.base_types.specs.declared.scan.Purpose.TheVariants as scans
use Rattle.base_types.proofs.SameScan.{same_scan-true}
use Rattle.local_caches.specs.Caches.{kept_of, KeepsPins}
use Rattle.local_caches.specs.Kept.{Read}
use Rattle.local_caches.specs.declared.local_caches.LocalCaches.{LocalCaches}
use Rattle.event_kinds.specs.declared.entry.Event.TheVariants as events
use Rattle.lock_modes.specs.Rooms.{Roomy}
use Rattle.ddl_effect.specs.declared.told.Told.TheVariants as tells
use Rattle.ddl_effect.specs.Plans.{Plan, Done, Do, Lookup, Open, Search}
use Rattle.ddl_effect.specs.Stages.{plan_at}
use Rattle.history_model.specs.Versions.{answer_of}
use Rattle.cacheless.specs.Types.{Kind, Oid, Row, Purpose, Scenario, Entry, Event, Opening, OwnLock}
use Rattle.cacheless.specs.declared.progress.Due.TheVariants as dues
use Rattle.cacheless.specs.Suspects.{AreKnown}
use Rattle.cacheless.specs.declared.suspects.Suspects.{Suspects}
use Rattle.cacheless.specs.declared.progress.Progress.{Progress}
use Rattle.cacheless.specs.Facts.{Facts}
use Rattle.txn_blocks.specs.Transactions.{begun_own}
use Rattle.cacheless.specs.State.{Kept, kept_at, kept_with, is_kept, is_in_accept, locks_accepted, facts_at, work_at}
use Rattle.cacheless.specs.May.{is_first_missing, is_missing, is_next_of_act, has_failed}
use Rattle.cacheless.specs.Holds.{Rests, HasEntered}
use Rattle.cacheless.proofs.Tests.{and_true, or_either}
use Rattle.cacheless.proofs.Same.{builds_of, next_is}
use Rattle.cacheless.proofs.Entries.Entering.{facts_after, with_locks, own_entered, runs_begun}
use Rattle.cacheless.specs.Owed.{is_next_in}

-- a scan for a descriptor that isn't kept
abbrev pub IsLacking : Kept → Purpose → Type 0
IsLacking kept scan = (not (is_kept kept scan) ≡ true) × (is_build_scan scan ≡ true)

found_first : (p : Purpose → Bool) (P : Purpose → Type 0) (l : List Purpose) (scan : Purpose) → AllByRecursion P l → option_map_or (same_scan scan) (find p l) false ≡ true → (p scan ≡ true) × P scan
found_first p P [] scan holds is = absurd (cc)
found_first p P (x ∷ l) scan holds is = by_test (p x) refl is (found_first p P l scan holds.1)
  where
    by_test : (t : Bool) → p x ≡ t → option_map_or (same_scan scan) (cond t (Some x) (find p l)) false ≡ true → (option_map_or (same_scan scan) (find p l) false ≡ true → (p scan ≡ true) × P scan) → (p scan ≡ true) × P scan
    by_test true at here rest = let same : x ≡ scan = sym (same_scan-true scan x here) in (subst (λ y. p y ≡ true) same at, subst P same holds.0)
    by_test false at here rest = rest here

pub first_lacks : (kept : Kept) (scan : Purpose) (kind : Kind) (rel : Oid) → is_first_missing scan kept kind rel ≡ true → IsLacking kept scan
first_lacks kept scan kind rel is = found_first (λ d. not (is_kept kept d)) (λ d. is_build_scan d ≡ true) (build_scans kind rel) scan (builds_of kind rel) is

pub opened_lacks : (kept : Kept) (scan : Purpose) (opened : List Opening) → list_any (λ o. is_first_missing scan kept o.kind o.rel) opened ≡ true → IsLacking kept scan
opened_lacks kept scan [] is = absurd (cc)
opened_lacks kept scan (o ∷ opened) is = or_either (is_first_missing scan kept o.kind o.rel) (list_any (λ q. is_first_missing scan kept q.kind q.rel) opened) is (first_lacks kept scan o.kind o.rel) (opened_lacks kept scan opened)

pub missing_lacks : (kept : Kept) (scan wanted : Purpose) → is_missing scan kept wanted ≡ true → not (is_kept kept scan) ≡ true
missing_lacks kept scan wanted is = let parts = and_true (not (is_kept kept wanted)) (same_scan scan wanted) is in ap (λ d. not (is_kept kept d)) (same_scan-true scan wanted parts.1) ∙ parts.0

act_lacking : (s : Progress) (scan : Purpose) (p : Plan) → is_next_of_act scan (kept_at s) p ≡ true → not (is_kept (kept_at s) scan) ≡ true
act_lacking s scan (Do (Lookup name mode) rest) is = missing_lacks (kept_at s) scan (scans.RelName name) is
act_lacking s scan (Do (Search wanted) rest) is = missing_lacks (kept_at s) scan wanted is
act_lacking s scan (Do (Open rel kind) rest) is = (first_lacks (kept_at s) scan kind rel is).0
act_lacking s scan (Done (tells.Regclass oid)) is = missing_lacks (kept_at s) scan (scans.RelOid oid) is
act_lacking s scan p is = absurd (cc)

none_read : (o : Option Read) → not (is_some o) ≡ true → o ≡ None
none_read None is = refl
none_read (Some read) is = absurd (cc)

-- a scan that may be made isn't kept
pub next_lacks : (s : Progress) (scan : Purpose) → is_next_in scan (facts_at s) (work_at s) ≡ true → kept_at s scan ≡ None
next_lacks s scan is = none_read (kept_at s scan) (or_either _ _ (and_true (not (has_failed s)) _ (next_is scan s ∙ is)).1 (λ here. (opened_lacks (kept_at s) scan s.opened here).0) (act_lacking s scan (plan_at s.opens s.exec)))

-- the state after a scan
abbrev pub built_scan : (was : Progress) (caches : LocalCaches) (suspects : Suspects) → AreKnown (is_kept (kept_of caches)) was.opened suspects → Progress
built_scan was caches suspects known = record was { due = dues.Nothing; running = Some (begun_own (was.finished + 1) was.running); tally = record was.tally { scans = was.tally.scans + 1 }; caches = caches; suspects = suspects; known = known; answer = None }

pub built_holds : (scenario : Scenario) (old : List Entry) (was : Progress) (scan : Purpose) (count : ℕ) (given : List Row) (at : ℕ) (caches : LocalCaches) (suspects : Suspects) (known : AreKnown (is_kept (kept_of caches)) was.opened suspects) (locks : Roomy OwnLock) (rests : Rests scenario old was)
    → given ≡ answer_of old was.id scan → at ≡ length old + 1 → kept_of caches ≡ kept_with scan given at (kept_at was) → KeepsPins was.caches caches
    → locks.items ≡ locks_accepted (is_in_accept (built_scan was caches suspects known) (slice_get was.commands was.finished)) was.locks.items
    → HasEntered scenario old was (events.Scan scan count) rests (with_locks (built_scan was caches suspects known) locks)
built_holds scenario old was scan count given at caches suspects known locks rests are placed pushed pinned items = own_entered scenario old was (built_scan was caches suspects known) event locks rests (record { session = λ _ _ _ _ _ _. refl; finished = λ _. refl }) (record {
  moves = record { id = refl; commands = refl; finished = refl };
  session = refl;
  facts = let f = rests.holds.facts in λ i. record { due = dues.Nothing; running = Some (runs_begun (was.finished + 1) was f i); lists = (f i).lists; kept = (ap (λ g. kept_with scan (answer_of old was.id scan) (length old + 1) g.kept) f ∙ (λ j. kept_with scan (sym are j) (sym placed j) (kept_at was)) ∙ sym pushed) i };
  counts = let c = rests.holds.counts in record { looks = omega (arith, c.looks); scans = omega (arith, c.scans); grants = omega (arith, c.grants); unlocks = omega (arith, c.unlocks); fetches = omega (arith, c.fetches); full = c.full };
  order = rests.holds.order;
  sought = rests.holds.sought;
  puts = rests.holds.puts;
  pins = λ rel. pinned rel ∙ rests.holds.pins rel;
}) items
  where
    event : Event
    event = events.Scan scan count

    after : Facts
    after = facts_after old was event
