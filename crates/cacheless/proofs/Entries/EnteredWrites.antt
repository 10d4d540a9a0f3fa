-- What a write makes of what the code holds.
use Rattle.std.proofs.Common.{◌≡◌, ◌≤◌, ◌+◌, ◌∙◌, ◌||◌, ℕ, Bool, true, false, not, Option, Some, None, List, [], ◌∷◌, ◌++◌, refl, sym, ap, subst, length, slice_get, fold, arith, if◌then◌else◌}
use Rattle.std.specs.List.{AllByRecursion, flat_map, list_any}
use Rattle.std.proofs.lemmas.List.Folds.{list_any-append}
use Rattle.event_kinds.specs.declared.entry.Event.TheVariants as events
use Rattle.event_kinds.specs.declared.entry.Item.TheVariants as forms
use Rattle.lock_modes.specs.Rooms.{Roomy}
use Rattle.inval_messages.specs.Messages.{covers, is_spared}
use Rattle.inval_messages.specs.Lists.{Written, once_more}
use Rattle.inval_messages.proofs.Parts.{ForCaches, ForDescriptors, cats_of-caches, rels_of-descriptors}
use Rattle.command_lists.specs.Lists.{Held, all_lists, new_list, with_messages}
use Rattle.command_lists.proofs.Writes.{with-changes}
use Rattle.local_caches.specs.Caches.{kept_of}
use Rattle.local_caches.specs.declared.local_caches.LocalCaches.{LocalCaches}
use Rattle.ddl_effect.specs.declared.told.Told.TheVariants as tells
use Rattle.ddl_effect.specs.Opens.{has_open}
use Rattle.ddl_effect.specs.Plans.{Plan, Done, Fails, Absent, Do, Lookup, Open, Search, Read, Lock, Write, after_act}
use Rattle.ddl_effect.specs.Stages.{plan_at, want_of}
use Rattle.ddl_effect.specs.declared.want.Want.TheVariants as wants
use Rattle.history_model.specs.Sent.{cats_by, rels_by, written_by, messages_written}
use Rattle.history_model.specs.Versions.{old_row, added_row}
use Rattle.history_model.proofs.Every.{every-append}
use Rattle.cacheless.specs.Types.{Oid, Xid, Message, Purpose, Scenario, Entry, Event, Item, OwnLock, Exec}
use Rattle.cacheless.specs.declared.progress.Due.TheVariants as dues
use Rattle.cacheless.specs.Suspects.{AreKnown}
use Rattle.cacheless.specs.declared.suspects.Suspects.{Suspects}
use Rattle.cacheless.specs.declared.progress.Progress.{Progress}
use Rattle.cacheless.specs.Facts.{Facts}
use Rattle.cacheless.specs.Locks.{locked_by}
use Rattle.cacheless.specs.Session.{Session, held_in, held_before}
use Rattle.cacheless.specs.Sessions.{written}
use Rattle.cacheless.specs.Pins.{PinsOnly}
use Rattle.cacheless.specs.Puts.{PutsOpened}
use Rattle.txn_blocks.specs.Transactions.{begun_own}
use Rattle.cacheless.specs.State.{lists_at, kept_at, kept_spared, is_kept, is_absent, is_in_accept, locks_accepted, messages_in, rest_of, session_at, locks_made}
use Rattle.cacheless.specs.Holds.{Rests, HasEntered}
use Rattle.cacheless.proofs.Allowed.OpensKept.{held_each}
use Rattle.cacheless.proofs.Pinning.{open_each, open_pinned, pins_left}
use Rattle.cacheless.proofs.Plans.CommandUnder.{done_written}
use Rattle.cacheless.proofs.Tests.{not_both}
use Rattle.cacheless.proofs.Written.WrittenMessages.{any_once}
use Rattle.cacheless.proofs.Entries.Entering.{facts_after, noted_after, with_locks, own_entered, runs_begun, counts_stay}
use Rattle.local_caches.specs.Kept.{Kept}

cats_for_caches : (before : List Entry) (b : ℕ) (item : Item) → ForCaches (cats_by before b item)
cats_for_caches before b item = cats_of-caches (old_row before b item) (added_row item)

rels_for_descriptors : (before : List Entry) (b : ℕ) (item : Item) → ForDescriptors (rels_by before b item)
rels_for_descriptors before b (forms.Force rel) = (refl, tt)
rels_for_descriptors before b (forms.Add row) = rels_of-descriptors (old_row before b (forms.Add row)) (added_row (forms.Add row))
rels_for_descriptors before b (forms.Put row) = rels_of-descriptors (old_row before b (forms.Put row)) (added_row (forms.Put row))
rels_for_descriptors before b (forms.Remove key) = rels_of-descriptors (old_row before b (forms.Remove key)) (added_row (forms.Remove key))

-- what is registered of a write's messages is the list of the write
pub registered_is : (before : List Entry) (b c : ℕ) (items : List Item) → with_messages (messages_in before b items) (new_list c) ≡ written_by before b c items
registered_is before b c items = with-changes (cats_by before b) (rels_by before b) (cats_for_caches before b) (rels_for_descriptors before b) items (new_list c)

or_sorted : (a b c d : Bool) → ((a || b) || (c || d)) ≡ ((a || c) || (b || d))
or_sorted true b c d = refl
or_sorted false true true d = refl
or_sorted false true false d = refl
or_sorted false false c d = refl

any_in_parts : {X : Type 0} (p : Message → Bool) (f g : X → List Message) (xs : List X) → list_any p (flat_map (λ x. f x ++ g x) xs) ≡ (list_any p (flat_map f xs) || list_any p (flat_map g xs))
any_in_parts p f g [] = refl
any_in_parts p f g (x ∷ xs) =
    list_any-append p (f x ++ g x) (flat_map (λ y. f y ++ g y) xs)
    ∙ (λ i. list_any-append p (f x) (g x) i || any_in_parts p f g xs i)
    ∙ or_sorted (list_any p (f x)) (list_any p (g x)) (list_any p (flat_map f xs)) (list_any p (flat_map g xs))
    ∙ (λ i. sym (list_any-append p (f x) (flat_map f xs)) i || sym (list_any-append p (g x) (flat_map g xs)) i)

-- and they cover what that list covers
pub spared_alike : (before : List Entry) (b : ℕ) (items : List Item) (scan : Purpose) → is_spared scan (messages_in before b items) ≡ is_spared scan (messages_written before b items)
spared_alike before b items scan = ap not (any_in_parts (covers scan) (cats_by before b) (rels_by before b) items
    ∙ sym (list_any-append (covers scan) (flat_map (cats_by before b) items) (fold once_more [] (flat_map (rels_by before b) items)) ∙ ap (λ t. list_any (covers scan) (flat_map (cats_by before b) items) || t) (any_once (covers scan) [] (flat_map (rels_by before b) items))))

-- the session once the write of its command is made
written_is : (p : Plan) (s : Session) → want_of p ≡ wants.Write → written p s ≡ record s { left = after_act [] p; opened = held_before s; taken = None }
written_is (Do (Write draft) rest) s is = refl
written_is (Do (Lookup name mode) rest) s is = absurd (cc)
written_is (Do (Open rel kind) rest) s is = absurd (cc)
written_is (Do (Search scan) rest) s is = absurd (cc)
written_is (Do (Read scan) rest) s is = absurd (cc)
written_is (Do (Lock rel mode) rest) s is = absurd (cc)
written_is (Done told) s is = absurd (cc)
written_is (Fails error) s is = absurd (cc)
written_is (Absent name) s is = absurd (cc)

-- the state after a write
abbrev pub wrote : (was : Progress) (xid : Xid) (caches : LocalCaches) (suspects : Suspects) → AreKnown (is_kept (kept_of caches)) (held_in was.blocks.block was.opens) suspects → Held → Exec → Roomy OwnLock → Progress
wrote was xid caches suspects known lists exec locks = record was {
  exec = exec;
  opened = held_in was.blocks.block was.opens;
  taken = None;
  due = dues.Nothing;
  running = Some (record (begun_own (was.finished + 1) was.running) { xid = Some xid });
  lists = lists;
  caches = caches;
  suspects = suspects;
  known = known;
  locks = locks;
  answer = None;
}

pub write_holds : (scenario : Scenario) (old : List Entry) (was : Progress) (xid : Xid) (items : List Item) (messages : List Message) (made : Option Oid) (caches : LocalCaches) (suspects : Suspects) (known : AreKnown (is_kept (kept_of caches)) (held_in was.blocks.block was.opens) suspects) (lists : Held) (exec : Exec) (locked locks : Roomy OwnLock) (rests : Rests scenario old was)
    → want_of (plan_at was.opens was.exec) ≡ wants.Write → messages ≡ messages_in old was.id items → flat_map (locked_by (was.finished + 1)) items ≡ locks_made (was.finished + 1) made
    → all_lists lists.lists ≡ lists_at was ++ with_messages messages (new_list (was.finished + 1)) ∷ [] → kept_of caches ≡ kept_spared messages (kept_at was) → PinsOnly was.caches caches was.opens → plan_at was.opens exec ≡ after_act [] (plan_at was.opens was.exec) → locked.items ≡ was.locks.items ++ locks_made (was.finished + 1) made
    → locks.items ≡ locks_accepted (is_in_accept (wrote was xid caches suspects known lists exec locked) (slice_get was.commands was.finished)) locked.items
    → HasEntered scenario old was (events.Write xid items) rests (with_locks (wrote was xid caches suspects known lists exec locked) locks)
write_holds scenario old was xid items messages made caches suspects known lists exec locked locks rests wants_it are makes pushed keeps pinned goes held accepts = own_entered scenario old was now event locks rests (record { session = λ _ _ _ _ _ _. refl; finished = λ s. ends_same s.left s }) (record {
  moves = record { id = refl; commands = refl; finished = refl };
  session = whole ∙ sym (ap (λ t. session_at now (rest_of t)) whole);
  facts = let f = rests.holds.facts in λ i. record { due = dues.Nothing; running = Some (record (runs_begun (was.finished + 1) was f i) { xid = Some xid }); lists = (ap (λ l. l ++ written_by old was.id (was.finished + 1) items ∷ []) (ap (λ g. g.lists) f) ∙ sym listed) i; kept = (ap (λ g. kept_spared (messages_written old was.id items) g.kept) f ∙ kept_alike (kept_at was) ∙ ap (λ l. kept_spared l (kept_at was)) (sym are) ∙ sym keeps) i };
  counts = counts_stay rests.holds.counts;
  order = subst (AllByRecursion (λ (list : Written). list.command ≤ was.finished + 1)) (sym listed)
      (every-append (λ (list : Written). list.command ≤ was.finished + 1) (lists_at was) (written_by old was.id (was.finished + 1) items ∷ []) rests.holds.order (omega arith, tt));
  sought = λ is. absurd (not_both (is_absent (plan_at was.opens exec)) is (ap is_absent done));
  puts = subst (PutsOpened (held_in was.blocks.block was.opens)) (sym done) tt;
  pins = pins_left was.caches caches was.opens (held_in was.blocks.block was.opens) pinned (open_pinned was rests.holds.pins) (held_each (λ rel kind. has_open rel was.opens ≡ true) was.blocks.block was.opens (open_each was.opens));
}) accepts
  where
    ends_same : (p : Plan) (s : Session) → (written p s).finished ≡ s.finished
    ends_same (Do (Write draft) rest) s = refl
    ends_same p s = refl

    event : Event
    event = events.Write xid items

    now : Progress
    now = wrote was xid caches suspects known lists exec locked

    after : Facts
    after = facts_after old was event

    done : plan_at was.opens exec ≡ Done tells.Ok
    done = goes ∙ done_written was.opens was.exec [] wants_it

    kept_alike : (kept : Kept) → kept_spared (messages_written old was.id items) kept ≡ kept_spared (messages_in old was.id items) kept
    kept_alike kept = λ i scan. if sym (spared_alike old was.id items scan) i then kept scan else None

    listed : lists_at now ≡ lists_at was ++ written_by old was.id (was.finished + 1) items ∷ []
    listed = pushed ∙ ap (λ l. lists_at was ++ l ∷ []) (ap (λ m. with_messages m (new_list (was.finished + 1))) are ∙ registered_is old was.id (was.finished + 1) items)

    s : Session
    s = session_at was rests.holds.rest

    whole : noted_after old was event rests.holds.rest ≡ record s { left = plan_at was.opens exec; opened = held_in was.blocks.block was.opens; taken = None; locks = locked.items; judged = length old + 1; last = length old + 1 }
    whole = ap (λ (t : Session). record t { tally = s.tally; locks = was.locks.items ++ flat_map (locked_by (was.finished + 1)) items; judged = length old + 1; last = length old + 1 }) (written_is (plan_at was.opens was.exec) s wants_it)
        ∙ (λ i. record s { left = sym goes i; opened = held_in was.blocks.block was.opens; taken = None; locks = (ap (λ l. was.locks.items ++ l) makes ∙ sym held) i; judged = length old + 1; last = length old + 1 })
