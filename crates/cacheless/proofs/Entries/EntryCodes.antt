-- What the code makes of an entry, by what its calls gave.
use Rattle.std.proofs.Common.{◌≡◌, ◌+◌, ◌∙◌, ℕ, Bool, true, false, not, None, Some, Option, List, [], ◌∷◌, ◌++◌, sym, ap, subst, map, length, filter, nat_lt, slice_get, Vec, Global}
use Rattle.std.specs.List.{flat_map}
use Rattle.event_kinds.specs.declared.entry.Event.TheVariants as events
use Rattle.command_answers.specs.declared.error.CommandError.TheVariants as errors
use Rattle.lock_modes.specs.Own.{is_own}
use Rattle.lock_modes.specs.Rooms.{Roomy}
use Rattle.inval_messages.specs.Lists.{cats_in, rels_in, lists_from, lists_before}
use Rattle.command_lists.specs.Lists.{Held, all_lists, new_list, with_messages}
use Rattle.local_caches.specs.Caches.{kept_of, KeepsPins}
use Rattle.local_caches.specs.declared.local_caches.LocalCaches.{LocalCaches}
use Rattle.ddl_effect.specs.Opens.{opens_before}
use Rattle.ddl_effect.specs.Plans.{after_act}
use Rattle.ddl_effect.specs.Stages.{plan_at, want_of}
use Rattle.ddl_effect.specs.declared.want.Want.TheVariants as wants
use Rattle.history_model.specs.Log.{fetched_by}
use Rattle.history_model.specs.Versions.{answer_of}
use Rattle.cacheless.specs.Types.{Oid, Xid, Mode, Message, Row, Purpose, CommandError, Clash, Scenario, Entry, Item, Opening, OwnLock, Exec}
use Rattle.cacheless.specs.declared.progress.Due.{Due}
use Rattle.cacheless.specs.declared.progress.Due.TheVariants as dues
use Rattle.txn_blocks.specs.declared.transaction.RunningTransaction.{RunningTransaction}
use Rattle.cacheless.specs.Pins.{PinsOnly}
use Rattle.cacheless.specs.Suspects.{AreKnown}
use Rattle.cacheless.specs.declared.suspects.Suspects.{Suspects}
use Rattle.cacheless.specs.declared.progress.Progress.{Progress}
use Rattle.cacheless.specs.Session.{opening_of, held_in}
use Rattle.cacheless.specs.Locks.{locked_by}
use Rattle.txn_blocks.specs.Transactions.{begun_own, ends_own, released_own}
use Rattle.cacheless.specs.State.{is_kept, due_looked, due_fetched, one_if, lists_at, lists_left, kept_at, nothing_kept, kept_with, kept_spared, is_full, is_in_accept, locks_accepted, messages_in, clash_event, error_of, failed_with, FailsWith, SearchesAgain, is_out, locks_made}
use Rattle.cacheless.specs.Holds.{Rests, HasEntered}
use Rattle.cacheless.proofs.Lacking.{another_known, with_known}
use Rattle.cacheless.proofs.Entries.EnteredLooks.{looked, look_holds}
use Rattle.cacheless.proofs.Entries.EnteredFetches.{fetched_first, fetched, fetch_holds, reset_holds}
use Rattle.cacheless.proofs.Entries.EnteredScans.{built_scan, built_holds}
use Rattle.cacheless.proofs.Entries.EnteredLocks.{granted, granted_holds, gave_back, unlock_holds, refused_holds, clash_holds}
use Rattle.cacheless.proofs.Entries.EnteredWrites.{wrote, write_holds}
use Rattle.cacheless.proofs.Entries.EnteredEnds.{shown, visible_holds, publish_holds, taken_back, gone_holds, let_go, release_holds}

pub look_code : (was : Progress) (some_wait : Bool) (own : RunningTransaction) (due : Due) (locks : Roomy OwnLock) (known : AreKnown (is_kept (kept_of was.caches)) was.opened was.suspects) → own ≡ begun_own (was.finished + 1) was.running → due ≡ due_looked some_wait
    → locks.items ≡ locks_accepted (is_in_accept (record was { running = Some own; due = due; tally = record was.tally { looks = was.tally.looks + 1 } }) (slice_get was.commands was.finished)) was.locks.items
    → (scenario : Scenario) (seen : List Entry) → (rests : Rests scenario seen was) → HasEntered scenario seen was (events.Look some_wait) rests (record was { due = due; running = Some own; tally = record was.tally { looks = was.tally.looks + 1 }; locks = locks; answer = None; known = known })
look_code was some_wait own due locks known begins is items scenario seen rests =
    subst (HasEntered scenario seen was (events.Look some_wait) rests) (λ i. record (looked was some_wait) { due = sym is i; running = Some (sym begins i); locks = locks; known = another_known was known i })
    (look_holds scenario seen was some_wait locks rests (items ∙ ap (λ d. locks_accepted (is_in_accept (record was { due = d; running = Some own }) (slice_get was.commands was.finished)) was.locks.items) is))

-- the state of a fetch, before its tally is
abbrev pub searched : (was : Progress) (count : ℕ) (caches : LocalCaches) (suspects : Suspects) → AreKnown (is_kept (kept_of caches)) was.opened suspects → Exec → Progress
searched was count caches suspects known exec = record was {
  exec = exec;
  due = due_fetched count;
  running = Some (begun_own (was.finished + 1) was.running);
  caches = caches;
  suspects = suspects;
  known = known;
}

-- one more fetch
abbrev pub fetched_once : Progress → Progress
fetched_once s = record s { tally = record s.tally { fetches = s.tally.fetches + 1 } }

-- and whether it counts as a full one
abbrev pub fetched_more : Progress → ℕ → Roomy OwnLock → Progress
fetched_more s full locks = record s { tally = record s.tally { fetches = s.tally.fetches + 1; full = s.tally.full + full }; locks = locks }

pub fetch_code : (was : Progress) (messages : List Message) (count : ℕ) (own : RunningTransaction) (caches : LocalCaches) (suspects : Suspects) (known : AreKnown (is_kept (kept_of caches)) was.opened suspects) (due : Due) (mid : Progress) (full : ℕ) (locks : Roomy OwnLock) (last : AreKnown (is_kept (kept_of mid.caches)) mid.opened mid.suspects) → count ≡ length messages → own ≡ begun_own (was.finished + 1) was.running
    → kept_of caches ≡ kept_spared messages (kept_at was) → KeepsPins was.caches caches → due ≡ due_fetched count → SearchesAgain (record was { running = Some own; caches = caches; suspects = suspects; known = known; due = due }) mid
    → full ≡ one_if (is_full count (fetched_once mid))
    → locks.items ≡ locks_accepted (is_in_accept (fetched_more mid full mid.locks) (slice_get mid.commands mid.finished)) mid.locks.items
    → (scenario : Scenario) (seen : List Entry) → (rests : Rests scenario seen was) → messages ≡ fetched_by seen was.id (length messages) → HasEntered scenario seen was (events.Fetch (length messages)) rests (record (fetched_more mid full locks) { answer = None; known = last })
fetch_code was messages count own caches suspects known due mid full locks last counted begins keeps pinned dues again counts items scenario seen rests are =
    with_known (HasEntered scenario seen was (events.Fetch (length messages)) rests) (record (fetched_more mid full locks) { answer = None }) last (subst Goal (sym state) canonical counts items)
  where
    n : ℕ
    n = length messages

    Goal : Progress → Type 0
    Goal m = full ≡ one_if (is_full count (fetched_once m)) → locks.items ≡ locks_accepted (is_in_accept (fetched_more m full m.locks) (slice_get m.commands m.finished)) m.locks.items → HasEntered scenario seen was (events.Fetch n) rests (record (fetched_more m full locks) { answer = None })

    state : mid ≡ searched was n caches suspects known mid.exec
    state = again.is ∙ (λ i. record (searched was n caches suspects known mid.exec) { due = (dues ∙ ap due_fetched counted) i; running = Some (begins i) })

    canonical : Goal (searched was n caches suspects known mid.exec)
    canonical f l = subst (HasEntered scenario seen was (events.Fetch n) rests) (λ i. record (fetched was n caches suspects known mid.exec) { tally = record was.tally { fetches = was.tally.fetches + 1; full = was.tally.full + sym (f ∙ ap (λ c. one_if (is_full c (fetched_first was n caches suspects known mid.exec))) counted) i }; locks = locks })
        (fetch_holds scenario seen was n messages caches suspects known mid.exec locks rests are keeps pinned again.plan l)

pub reset_code : (was : Progress) (own : RunningTransaction) (caches : LocalCaches) (suspects : Suspects) (known : AreKnown (is_kept (kept_of caches)) was.opened suspects) (mid : Progress) (locks : Roomy OwnLock) (last : AreKnown (is_kept (kept_of mid.caches)) mid.opened mid.suspects) → own ≡ begun_own (was.finished + 1) was.running → kept_of caches ≡ nothing_kept → KeepsPins was.caches caches → SearchesAgain (record was { running = Some own; caches = caches; suspects = suspects; known = known; due = dues.Nothing }) mid
    → locks.items ≡ locks_accepted (is_in_accept (fetched_once mid) (slice_get mid.commands mid.finished)) mid.locks.items
    → (scenario : Scenario) (seen : List Entry) → (rests : Rests scenario seen was) → HasEntered scenario seen was events.FetchReset rests (record (fetched_once mid) { locks = locks; answer = None; known = last })
reset_code was own caches suspects known mid locks last begins keeps pinned again items scenario seen rests =
    with_known (HasEntered scenario seen was events.FetchReset rests) (record (fetched_once mid) { locks = locks; answer = None }) last (subst Goal (sym state) (λ l. reset_holds scenario seen was caches suspects known mid.exec locks rests keeps pinned again.plan l) items)
  where
    Goal : Progress → Type 0
    Goal m = locks.items ≡ locks_accepted (is_in_accept (fetched_once m) (slice_get m.commands m.finished)) m.locks.items → HasEntered scenario seen was events.FetchReset rests (record (fetched_once m) { locks = locks; answer = None })

    canonical : Progress
    canonical = record was { exec = mid.exec; due = dues.Nothing; running = Some (begun_own (was.finished + 1) was.running); caches = caches; suspects = suspects; known = known }

    state : mid ≡ canonical
    state = again.is ∙ (λ i. record canonical { running = Some (begins i) })

pub granted_code : (was : Progress) (rel : Oid) (mode : Mode) (own : RunningTransaction) (locks : Roomy OwnLock) (known : AreKnown (is_kept (kept_of was.caches)) was.opened was.suspects) → own ≡ begun_own (was.finished + 1) was.running
    → locks.items ≡ was.locks.items ++ record { rel = rel; mode = mode; command = was.finished + 1; clear = false } ∷ []
    → (scenario : Scenario) (seen : List Entry) → (rests : Rests scenario seen was) → HasEntered scenario seen was (events.LockOk rel mode) rests (record was { due = dues.Look; running = Some own; tally = record was.tally { grants = was.tally.grants + 1 }; taken = Some rel; locks = locks; answer = None; known = known })
granted_code was rel mode own locks known begins items scenario seen rests =
    subst (HasEntered scenario seen was (events.LockOk rel mode) rests) (λ i. record (granted was rel locks) { running = Some (sym begins i); known = another_known was known i }) (granted_holds scenario seen was rel mode locks rests items)

pub unlock_code : (was : Progress) (rel : Oid) (mode : Mode) (own : RunningTransaction) (left locks : Roomy OwnLock) (known : AreKnown (is_kept (kept_of was.caches)) was.opened was.suspects) → own ≡ begun_own (was.finished + 1) was.running → left.items ≡ filter (λ lock. not (is_own rel mode lock)) was.locks.items
    → locks.items ≡ locks_accepted (is_in_accept (record was { running = Some own; due = dues.Nothing; tally = record was.tally { unlocks = was.tally.unlocks + 1 }; taken = None; locks = left }) (slice_get was.commands was.finished)) left.items
    → (scenario : Scenario) (seen : List Entry) → (rests : Rests scenario seen was) → HasEntered scenario seen was (events.Unlock rel mode) rests (record was { due = dues.Nothing; running = Some own; tally = record was.tally { unlocks = was.tally.unlocks + 1 }; taken = None; locks = locks; answer = None; known = known })
unlock_code was rel mode own left locks known begins stay items scenario seen rests =
    subst (HasEntered scenario seen was (events.Unlock rel mode) rests) (λ i. record (gave_back was locks) { running = Some (sym begins i); known = another_known was known i }) (unlock_holds scenario seen was rel mode left locks rests stay items)

pub refused_code : (was now : Progress) (rel : Oid) (mode : Mode) (holder : ℕ) (held : Mode) → FailsWith (errors.Locked rel holder held) was now
    → (scenario : Scenario) (seen : List Entry) → (rests : Rests scenario seen was) → HasEntered scenario seen was (events.LockHeld rel mode holder held) rests now
refused_code was now rel mode holder held fails scenario seen rests = subst (HasEntered scenario seen was (events.LockHeld rel mode holder held) rests) (sym fails.is) (refused_holds scenario seen was rel mode holder held now.locks rests fails.locks)

pub clash_code : (was now : Progress) (name : List ℕ) (clash : Clash) (error : CommandError) → error ≡ error_of name clash → FailsWith error was now
    → (scenario : Scenario) (seen : List Entry) → (rests : Rests scenario seen was) → HasEntered scenario seen was (clash_event name clash) rests now
clash_code was now name clash error is fails scenario seen rests = subst (HasEntered scenario seen was (clash_event name clash) rests) (sym (fails.is ∙ ap (λ e. record (failed_with e was) { locks = now.locks }) is)) (clash_holds scenario seen was name clash now.locks rests fails.locks)

pub built_code : (was : Progress) (scan : Purpose) (rows : Vec Row Global) (at : ℕ) (own : RunningTransaction) (caches : LocalCaches) (suspects : Suspects) (known : AreKnown (is_kept (kept_of caches)) was.opened suspects) (locks : Roomy OwnLock) → own ≡ begun_own (was.finished + 1) was.running
    → kept_of caches ≡ kept_with scan rows.items at (kept_at was) → KeepsPins was.caches caches
    → locks.items ≡ locks_accepted (is_in_accept (record was { caches = caches; suspects = suspects; known = known; running = Some own; due = dues.Nothing }) (slice_get was.commands was.finished)) was.locks.items
    → (scenario : Scenario) (seen : List Entry) (count : ℕ) → (rests : Rests scenario seen was) → rows.items ≡ answer_of seen was.id scan → at ≡ length seen + 1
    → HasEntered scenario seen was (events.Scan scan count) rests (record was { due = dues.Nothing; running = Some own; tally = record was.tally { scans = was.tally.scans + 1 }; caches = caches; suspects = suspects; known = known; locks = locks; answer = None })
built_code was scan rows at own caches suspects known locks begins pushed pinned items scenario seen count rests are placed =
    subst (HasEntered scenario seen was (events.Scan scan count) rests) (λ i. record (built_scan was caches suspects known) { running = Some (sym begins i); locks = locks })
    (built_holds scenario seen was scan count rows.items at caches suspects known locks rests are placed pushed pinned items)

pub write_code : (was : Progress) (xid : Xid) (messages : List Message) (made : Option Oid) (own : RunningTransaction) (lists : Held) (caches : LocalCaches) (suspects : Suspects) (exec : Exec) (opened : List Opening) (known : AreKnown (is_kept (kept_of caches)) opened suspects) (locked locks : Roomy OwnLock)
    → own ≡ record (begun_own (was.finished + 1) was.running) { xid = Some xid } → want_of (plan_at was.opens was.exec) ≡ wants.Write → all_lists lists.lists ≡ lists_at was ++ with_messages messages (new_list (was.finished + 1)) ∷ []
    → kept_of caches ≡ kept_spared messages (kept_at was) → PinsOnly was.caches caches was.opens → plan_at was.opens exec ≡ after_act [] (plan_at was.opens was.exec) → opened ≡ held_in was.blocks.block was.opens → locked.items ≡ was.locks.items ++ locks_made (was.finished + 1) made
    → locks.items ≡ locks_accepted (is_in_accept (record was { lists = lists; caches = caches; suspects = suspects; known = known; running = Some own; due = dues.Nothing; exec = exec; opened = opened; taken = None; locks = locked }) (slice_get was.commands was.finished)) locked.items
    → (scenario : Scenario) (seen : List Entry) (items : List Item) → (rests : Rests scenario seen was) → messages ≡ messages_in seen was.id items → flat_map (locked_by (was.finished + 1)) items ≡ locks_made (was.finished + 1) made
    → HasEntered scenario seen was (events.Write xid items) rests (record was { lists = lists; caches = caches; suspects = suspects; known = known; running = Some own; due = dues.Nothing; exec = exec; opened = opened; taken = None; locks = locks; answer = None })
write_code was xid messages made own lists caches suspects exec opened known locked locks begins wants_it pushed keeps pinned goes opens held accepts scenario seen items rests are makes =
    subst (λ o. (k : AreKnown (is_kept (kept_of caches)) o suspects) → locks.items ≡ accepted_in o k → HasEntered scenario seen was (events.Write xid items) rests (entered o k own)) (sym opens) direct known accepts
  where
    entered : (o : List Opening) → AreKnown (is_kept (kept_of caches)) o suspects → RunningTransaction → Progress
    entered o k t = record was { lists = lists; caches = caches; suspects = suspects; known = k; running = Some t; due = dues.Nothing; exec = exec; opened = o; taken = None; locks = locks; answer = None }

    accepted_in : (o : List Opening) → AreKnown (is_kept (kept_of caches)) o suspects → List OwnLock
    accepted_in o k = locks_accepted (is_in_accept (record was { lists = lists; caches = caches; suspects = suspects; known = k; running = Some own; due = dues.Nothing; exec = exec; opened = o; taken = None; locks = locked }) (slice_get was.commands was.finished)) locked.items

    direct : (k : AreKnown (is_kept (kept_of caches)) (held_in was.blocks.block was.opens) suspects) → locks.items ≡ accepted_in (held_in was.blocks.block was.opens) k → HasEntered scenario seen was (events.Write xid items) rests (entered (held_in was.blocks.block was.opens) k own)
    direct k accepted = subst (HasEntered scenario seen was (events.Write xid items) rests) (λ i. record (wrote was xid caches suspects k lists exec locks) { running = Some (sym begins i) })
        (write_holds scenario seen was xid items messages made caches suspects k lists exec locked locks rests wants_it are makes pushed keeps pinned goes held accepted)

pub visible_code : (was : Progress) (xid : Xid) (own : RunningTransaction) (locks : Roomy OwnLock) (known : AreKnown (is_kept (kept_of was.caches)) was.opened was.suspects) → own ≡ begun_own (was.finished + 1) was.running
    → locks.items ≡ locks_accepted (is_in_accept (record was { running = Some (record own { visible = true }); due = dues.Nothing }) (slice_get was.commands was.finished)) was.locks.items
    → (scenario : Scenario) (seen : List Entry) → (rests : Rests scenario seen was) → HasEntered scenario seen was (events.Visible xid) rests (record was { due = dues.Nothing; running = Some (record own { visible = true }); locks = locks; known = known })
visible_code was xid own locks known begins items scenario seen rests =
    subst (HasEntered scenario seen was (events.Visible xid) rests) (λ i. record (shown was) { running = Some (record (sym begins i) { visible = true }); locks = locks; known = another_known was known i }) (visible_holds scenario seen was xid locks rests items)

pub publish_code : (was : Progress) (count : ℕ) (own : RunningTransaction) (locks : Roomy OwnLock) (known : AreKnown (is_kept (kept_of was.caches)) was.opened was.suspects) → own ≡ begun_own (was.finished + 1) was.running
    → locks.items ≡ locks_accepted (is_in_accept (record was { running = Some (record own { published = own.published + count }); due = dues.Nothing }) (slice_get was.commands was.finished)) was.locks.items
    → (scenario : Scenario) (seen : List Entry) → (rests : Rests scenario seen was) → HasEntered scenario seen was (events.Publish count) rests (record was { due = dues.Nothing; running = Some (record own { published = own.published + count }); locks = locks; known = known })
publish_code was count own locks known begins items scenario seen rests =
    subst (HasEntered scenario seen was (events.Publish count) rests) (λ i. record was { due = dues.Nothing; running = Some (record (sym begins i) { published = (sym begins i).published + count }); locks = locks; known = another_known was known i }) (publish_holds scenario seen was count locks rests items)

pub gone_code : (was : Progress) (from : ℕ) (own : RunningTransaction) (cats rels : List Message) (caches_first : LocalCaches) (caches : LocalCaches) (suspects : Suspects) (known : AreKnown (is_kept (kept_of caches)) was.opened suspects) (lists : Held) (locks : Roomy OwnLock) → own ≡ begun_own (was.finished + 1) was.running
    → cats ≡ cats_in (lists_from from (lists_at was)) → rels ≡ rels_in (lists_from from (lists_at was))
    → kept_of caches_first ≡ kept_spared cats (kept_at was) → kept_of caches ≡ kept_spared rels (kept_of caches_first) → KeepsPins was.caches caches_first → KeepsPins caches_first caches
    → all_lists lists.lists ≡ lists_before from (lists_at was)
    → locks.items ≡ locks_accepted (is_in_accept (record was { running = Some own; caches = caches; suspects = suspects; known = known; lists = lists; due = dues.Gone from }) (slice_get was.commands was.finished)) was.locks.items
    → (scenario : Scenario) (seen : List Entry) → (rests : Rests scenario seen was) → HasEntered scenario seen was (events.Gone from) rests (record was { due = dues.Gone from; running = Some own; caches = caches; suspects = suspects; known = known; lists = lists; locks = locks })
gone_code was from own cats rels caches_first caches suspects known lists locks begins cats_are rels_are first keeps stay pinned before items scenario seen rests =
    subst (HasEntered scenario seen was (events.Gone from) rests) (λ i. record (taken_back was from caches suspects known lists) { running = Some (sym begins i); locks = locks })
    (gone_holds scenario seen was from cats rels caches suspects known lists locks rests cats_are rels_are (keeps ∙ ap (kept_spared rels) first) (λ rel. pinned rel ∙ stay rel) before items)

pub release_code : (was : Progress) (from : ℕ) (first : Bool) (begun : RunningTransaction) (own : Option RunningTransaction) (lists : Held) (opened : List Opening) (caches : LocalCaches) (suspects : Suspects) (known : AreKnown (is_kept (kept_of caches)) opened suspects) (held locks : Roomy OwnLock) → is_out was ≡ true → first ≡ ends_own from was.running → begun ≡ begun_own (was.finished + 1) was.running → own ≡ released_own from begun
    → all_lists lists.lists ≡ lists_left first (lists_at was) → held.items ≡ filter (λ lock. nat_lt lock.command from) was.locks.items → opened ≡ map opening_of (opens_before from was.opens) → kept_of caches ≡ kept_at was → PinsOnly was.caches caches was.opens
    → locks.items ≡ locks_accepted (is_in_accept (record was { lists = lists; running = own; locks = held; opened = opened; caches = caches; suspects = suspects; known = known; ended = true; due = dues.Nothing }) (slice_get was.commands was.finished)) held.items
    → (scenario : Scenario) (seen : List Entry) → (rests : Rests scenario seen was) → HasEntered scenario seen was (events.Release from) rests (record was { due = dues.Nothing; ended = true; running = own; lists = lists; opened = opened; caches = caches; suspects = suspects; known = known; locks = locks })
release_code was from first begun own lists opened caches suspects known held locks out ends begins is left stay none keeps pinned items scenario seen rests =
    subst (λ o. (k : AreKnown (is_kept (kept_of caches)) o suspects) → locks.items ≡ accepted_in o k → HasEntered scenario seen was (events.Release from) rests (entered o k)) (sym none) direct known items
  where
    own_is : own ≡ released_own from (begun_own (was.finished + 1) was.running)
    own_is = is ∙ ap (released_own from) begins

    entered : (o : List Opening) → AreKnown (is_kept (kept_of caches)) o suspects → Progress
    entered o k = record was { due = dues.Nothing; ended = true; running = own; lists = lists; opened = o; caches = caches; suspects = suspects; known = k; locks = locks }

    accepted_in : (o : List Opening) → AreKnown (is_kept (kept_of caches)) o suspects → List OwnLock
    accepted_in o k = locks_accepted (is_in_accept (record was { lists = lists; running = own; locks = held; opened = o; caches = caches; suspects = suspects; known = k; ended = true; due = dues.Nothing }) (slice_get was.commands was.finished)) held.items

    direct : (k : AreKnown (is_kept (kept_of caches)) (map opening_of (opens_before from was.opens)) suspects) → locks.items ≡ accepted_in (map opening_of (opens_before from was.opens)) k → HasEntered scenario seen was (events.Release from) rests (entered (map opening_of (opens_before from was.opens)) k)
    direct k accepted = subst (HasEntered scenario seen was (events.Release from) rests) (λ i. record (let_go was from caches suspects k lists locks) { running = sym own_is i })
        (release_holds scenario seen was from caches suspects k lists held locks rests out keeps pinned (left ∙ ap (λ t. lists_left t (lists_at was)) ends) stay
        (accepted ∙ (λ i. locks_accepted (is_in_accept (record was { lists = lists; running = own_is i; locks = held; opened = map opening_of (opens_before from was.opens); caches = caches; suspects = suspects; known = k; ended = true; due = dues.Nothing }) (slice_get was.commands was.finished)) held.items)))
