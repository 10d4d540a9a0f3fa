-- What is held after an entry that a segment allows is the segment after it.
use Rattle.std.proofs.Common.{◌≡◌, ◌≤◌, ◌-◌, ◌∙◌, ◌==◌, if◌then◌else◌, ℕ, Bool, true, false, List, [], ◌∷◌, ◌++◌, length, refl, sym, ap, subst, arith}
use Rattle.std.specs.Prelude.{min}
use Rattle.std.proofs.lemmas.Bool.{eqb-true, and_parts}
use Rattle.command_lists.specs.Lists.{new_list, with_messages}
use Rattle.history_model.specs.Segment.{Standing, Segment, no_standing, no_entries}
use Rattle.history_model.specs.Messages.{log_after, unsent_at}
use Rattle.history_model.specs.Grants.{held_by}
use Rattle.history_model.specs.After.{standing_by, standing_after, after_entry, segment_of}
use Rattle.history_model.specs.Allows.{follows_life, allows_event, allows}
use Rattle.history_model.specs.MayFollow.{MayFollow}
use Rattle.history_model.proofs.Allows.{allows_decides}
use Rattle.history_model.proofs.Reading.{segment_of-more}
use Rattle.segment_rows.proofs.Kept.{rows_same, rows_more, placed, draws_next}
use Rattle.history_ledger.specs.Types.{Entry, Message, Event, Fetch, Publish}
use Rattle.segment_rows.specs.Kept.{KeepsRows, xid_in, reader_at}
use Rattle.history_ledger.specs.Held.{standing_at, IsTimely, Keeps, Reads}
use Rattle.segment_rows.specs.Words.{rows_after, DrawsNext}
use Rattle.history_ledger.specs.Words.{messages_from, IsInOrder, FetchesWaiting, PublishesUnsent, CanEnter, HasEntered}
use Rattle.history_ledger.specs.declared.ledger.Ledger.{Ledger}
use Rattle.history_ledger.proofs.Stands.{own_is, in_order, timely_after, timely_start}

-- of what is allowed, that it follows the life, and that the event is allowed
pub allowed_parts : (seg : Segment) (e : Entry) → allows seg e ≡ true → (follows_life (seg.standing e.backend).life e.command e.event ≡ true) × (allows_event seg e.backend e.command e.event ≡ true)
allowed_parts seg e is = let parts = and_parts _ _ is in ((and_parts _ _ (and_parts _ _ parts.0).0).0, parts.1)

pub keeps_more : (seg : Segment) (e : Entry) (old new : Ledger) → CanEnter old e → HasEntered old e new → Keeps seg old → allows seg e ≡ true → Keeps (after_entry seg e) new
keeps_more seg e old new can s k is = record {
  rows = rows_more seg e.backend e.command e.event old.rows new.rows s.command can.placed (s.rows ∙ ap (λ (x : Standing). rows_after (xid_in x.running) e.command e.event old.rows) (k.stands e.backend)) k.rows parts.1;
  locks = s.locks ∙ ap (held_by e.backend e.command e.event) k.locks;
  log = log;
  stands = λ b. stands_by b (e.backend == b) refl;
  timely = λ b. timely_by b (e.backend == b);
}
  where
    own : Standing
    own = seg.standing e.backend

    parts : (follows_life own.life e.command e.event ≡ true) × (allows_event seg e.backend e.command e.event ≡ true)
    parts = allowed_parts seg e is

    log : new.log.items ≡ log_after own e.event seg.log
    log = s.log ∙ (λ i. log_after (k.stands e.backend i) e.event (k.log i))

    own_stands : standing_at new.backends e.backend ≡ standing_after seg e.backend e.command e.event
    own_stands = s.own
        ∙ (λ i. standing_by (with_messages (messages_from old.rows.store (reader_at (k.stands e.backend i)) e.event) (new_list e.command)) (length (log i)) e.command e.event (k.stands e.backend i))
        ∙ own_is seg e.backend e.command (length (log_after own e.event seg.log)) old.rows.store (reader_at own) (rows_same seg old.rows e.backend k.rows) e.event

    stands_by : (b : ℕ) (t : Bool) → (e.backend == b) ≡ t → standing_at new.backends b ≡ (if t then standing_after seg e.backend e.command e.event else seg.standing b)
    stands_by b true at = ap (standing_at new.backends) (sym (eqb-true e.backend b at)) ∙ own_stands
    stands_by b false other = s.others b other ∙ k.stands b

    timely_by : (b : ℕ) (t : Bool) → IsTimely (if t then standing_after seg e.backend e.command e.event else seg.standing b)
    timely_by b true = timely_after seg e.backend e.command e.event parts.0 (k.timely e.backend)
    timely_by b false = k.timely b

-- of a history
pub reads_more : (seen : List Entry) (e : Entry) (old new : Ledger) → CanEnter old e → HasEntered old e new → Reads seen old → MayFollow seen e → Reads (seen ++ e ∷ []) new
reads_more seen e old new can s k follows = subst (λ seg. Keeps seg new) (sym (segment_of-more seen e)) (keeps_more (segment_of seen) e old new can s k ((allows_decides seen e).1 follows))

-- what is allowed can be entered
waits_there : (seg : Segment) (b c : ℕ) (event : Event) → allows_event seg b c event ≡ true → FetchesWaiting (length seg.log) (seg.standing b).position event
waits_there seg b c (Fetch count) allows = omega (arith, eqb-true count (min 32 (length seg.log - (seg.standing b).position)) (and_parts _ _ allows).1)
waits_there seg b c event allows = tt

unsent_there : (seg : Segment) (b c : ℕ) (event : Event) → allows_event seg b c event ≡ true → PublishesUnsent (seg.standing b) event
unsent_there seg b c (Publish count) allows = omega (arith, eqb-true count (min 64 (length (unsent_at (seg.standing b)))) (and_parts _ _ allows).1)
unsent_there seg b c event allows = tt

pub can_enter : (seg : Segment) (ledger : Ledger) (e : Entry) → Keeps seg ledger → allows seg e ≡ true → CanEnter ledger e
can_enter seg ledger e k is = let parts = allowed_parts seg e is in record {
  placed = placed seg ledger.rows e.backend e.command e.event k.rows parts.1;
  order = subst (λ (own : Standing). IsInOrder e.command e.event own.lists) (sym (k.stands e.backend)) (in_order seg e.backend e.command e.event parts.0 parts.1 (k.timely e.backend));
  draws = subst (λ n. DrawsNext n e.event) (sym k.rows.next_oid_is) (draws_next seg e.backend e.command e.event parts.1);
  waits = subst (λ (l : List Message). FetchesWaiting (length l) (standing_at ledger.backends e.backend).position e.event) (sym k.log)
      (subst (λ (own : Standing). FetchesWaiting (length seg.log) own.position e.event) (sym (k.stands e.backend)) (waits_there seg e.backend e.command e.event parts.1));
  unsent = subst (λ own. PublishesUnsent own e.event) (sym (k.stands e.backend)) (unsent_there seg e.backend e.command e.event parts.1);
}

-- messages that waited before a fetch wait when the log is done with it
pub still_waits : (own : Standing) (event : Event) (old new : List Message) → new ≡ log_after own event old → FetchesWaiting (length old) own.position event → FetchesWaiting (length new) own.position event
still_waits own (Fetch count) old new is waits = subst (λ (l : List Message). count ≤ length l - own.position) (sym is) waits
still_waits own event old new is waits = tt

-- the empty history
pub reads_start : (ledger : Ledger) → KeepsRows no_entries ledger.rows → ledger.locks ≡ [] → ledger.log.items ≡ [] → ((b : ℕ) → standing_at ledger.backends b ≡ no_standing) → Reads [] ledger
reads_start ledger rows locks log none = record { rows = rows; locks = locks; log = log; stands = none; timely = λ b. timely_start }
