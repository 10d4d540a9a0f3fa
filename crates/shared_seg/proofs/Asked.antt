-- What is shared after an entry that takes no promised place.
use Rattle.std.proofs.Common.{◌≡◌, ◌<◌, ◌+◌, ℕ, false, Option, List, slice_set, [], ◌∷◌, ◌++◌, length, sym, ap, subst}
use Rattle.base_types.specs.Scenario.{Scenario}
use Rattle.event_kinds.specs.declared.entry.Entry.{Entry}
use Rattle.event_kinds.specs.declared.entry.Event.{Event}
use Rattle.lock_modes.specs.declared.grant.Grant.{Grant}
use Rattle.segment_rows.specs.Kept.{RowsHeld}
use Rattle.segment_rows.specs.Words.{rows_after}
use Rattle.history_model.specs.Held.{held_by}
use Rattle.history_model.specs.MayFollow.{AllowsEvent}
use Rattle.history_model.specs.Sound.{MayComeNext}
use Rattle.history_model.specs.Orderly.{IsOrderlyEvent}
use Rattle.seg_calls.specs.Calls.{entry_of, MayRequest, Appends}
use Rattle.seg_calls.proofs.Allowed.{is_start, request_follows}
use Rattle.txn_blocks.specs.declared.transaction.RunningTransaction.{RunningTransaction}
use Rattle.shared_seg.specs.Kept.{Kept, places_in}
use Rattle.shared_seg.specs.KeepsFolds.{KeepsFolds}
use Rattle.shared_seg.specs.Places.{promised_in}
use Rattle.shared_seg.specs.Transactions.{transaction_at, transaction_by, xid_at}
use Rattle.shared_seg.proofs.Keeps.{keeps_more, steps_set}
use Rattle.shared_seg.proofs.Entered.{within, small_number}
use Rattle.shared_seg.proofs.Appended.{appends_free}

-- what a request needs, of the parts
pub request_inside : (k now : Kept) (b c : ℕ) → k ≡ now → MayRequest now.script now.history b c → MayRequest k.script k.history b c
request_inside k now b c is request = subst (λ (x : Kept). MayRequest x.script x.history b c) (sym is) request

-- so the backend is within any list that has an item for each backend
pub asked_within : (k now : Kept) (b c n : ℕ) → k ≡ now → MayRequest now.script now.history b c → n ≡ k.script.backends + 1 → b < n
asked_within k now b c n is request same = within k.script b n (request_inside k now b c is request).backend same

-- what may come next
asked_comes : (script : Scenario) (history : List Entry) (b c : ℕ) (event : Event) → MayRequest script history b c → is_start event ≡ false → AllowsEvent history b c event → IsOrderlyEvent history b event → MayComeNext history (entry_of b c event)
asked_comes script history b c event request asked allows orderly = record { follows = request_follows script history b c event request asked allows; orderly = orderly }

-- what an entry without a promised place does, as callers see it
pub asked_appends : (k now : Kept) (after : List Entry) (has : List ℕ) (b c : ℕ) (event : Event) → k ≡ now → MayRequest now.script now.history b c → is_start event ≡ false → AllowsEvent k.history b c event → IsOrderlyEvent k.history b event
    → after ≡ k.history ++ entry_of b c event ∷ [] → has ≡ k.promised → Appends now.history after (places_in now) (promised_in has) (entry_of b c event)
asked_appends k now after has b c event is request asked allows orderly entries same =
    subst (λ (x : Kept). Appends x.history after (places_in x) (promised_in has) (entry_of b c event)) is
    (appends_free k.history after k.promised has (entry_of b c event) entries (asked_comes k.script k.history b c event (request_inside k now b c is request) asked allows orderly) same)

-- with what is kept beside it
pub asked_keeps : (k now : Kept) (after : List Entry) (has : List ℕ) (b c : ℕ) (event : Event) (rows stored : RowsHeld) (locks locked : List Grant) (transactions own : List (Option RunningTransaction))
    → k ≡ now → KeepsFolds k.script k.history k.promised rows locks transactions → MayRequest now.script now.history b c → is_start event ≡ false → AllowsEvent k.history b c event → IsOrderlyEvent k.history b event
    → after ≡ k.history ++ entry_of b c event ∷ [] → has ≡ k.promised → stored ≡ rows_after (xid_at transactions b) c event rows → locked ≡ held_by b c event locks
    → own ≡ slice_set transactions b (transaction_by c event (transaction_at transactions b)) → KeepsFolds k.script after has stored locked own
asked_keeps k now after has b c event rows stored locks locked transactions own is keeps request asked allows orderly entries same rows_are held_is own_is =
    let inside : MayRequest k.script k.history b c = request_inside k now b c is request in
    subst (λ h. KeepsFolds k.script h has stored locked own) (sym entries)
    (keeps_more k.script k.history (entry_of b c event) k.promised has rows stored locks locked transactions own keeps
    (asked_comes k.script k.history b c event inside asked allows orderly) (small_number k.script b c keeps.script_is inside.number) (ap length same)
    (steps_set (entry_of b c event) rows stored locks locked transactions own rows_are held_is (within k.script b (length transactions) inside.backend keeps.slots) own_is))
