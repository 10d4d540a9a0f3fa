-- How many messages a transaction has published: few enough to be counted.
use Rattle.std.proofs.Common.{◌≡◌, ◌≤◌, ◌<◌, ◌+◌, ◌*◌, ◌^◌, ℕ, Bool, true, false, Option, Some, None, List, [], ◌∷◌, ◌++◌, ◌==◌, if◌then◌else◌, length, refl, ap, arith}
use Rattle.std.specs.Option.{option_map_or}
use Rattle.std.proofs.lemmas.List.{length-append}
use Rattle.event_kinds.specs.declared.entry.Entry.{Entry}
use Rattle.event_kinds.specs.declared.entry.Event.{Event}
use Rattle.event_kinds.specs.declared.entry.Event.TheVariants as events
use Rattle.lock_modes.specs.declared.grant.Grant.{Grant}
use Rattle.segment_rows.specs.Kept.{RowsHeld}
use Rattle.history_model.specs.MayFollow.{AllowsEvent}
use Rattle.history_model.specs.Sound.{MayComeNext, IsSound}
use Rattle.history_model.specs.Transactions.{begun, running_by, running_transaction_of}
use Rattle.txn_blocks.specs.declared.transaction.RunningTransaction.{RunningTransaction as Running}
use Rattle.history_model.proofs.Coming.{published_of}
use Rattle.history_model.proofs.Prefixes.{each-keeps}
use Rattle.history_model.proofs.Reading.{running_transaction_of-own, running_transaction_of-other}
use Rattle.seg_calls.specs.Calls.{entry_of, MayCall}
use Rattle.txn_blocks.specs.declared.transaction.RunningTransaction.{RunningTransaction}
use Rattle.shared_seg.specs.Kept.{Kept}
use Rattle.shared_seg.specs.KeepsFolds.{KeepsFolds}
use Rattle.shared_seg.specs.Transactions.{published_at}
use Rattle.shared_seg.proofs.Entered.{call_inside}

-- the transactions have published at most 64 messages for each entry
abbrev pub Few : List Entry → Type 0
Few history = (b : ℕ) → published_of (running_transaction_of history b) ≤ 64 * length history

-- an event publishes at most 64
few-by : (history : List Entry) (b c n : ℕ) (event : Event) (r : Option Running) → AllowsEvent history b c event → published_of r ≤ n → published_of (running_by c event r) ≤ n + 64
few-by history b c n events.Start r allows few = omega arith
few-by history b c n events.Stop r allows few = omega (arith, few)
few-by history b c n (events.Publish count) None allows few = omega (arith, allows.2)
few-by history b c n (events.Publish count) (Some t) allows few = omega (arith, few, allows.2)
few-by history b c n (events.Release from) None allows few = by_end (c == from)
  where
    by_end : (f : Bool) → published_of (if f then None else Some (begun c None)) ≤ n + 64
    by_end true = omega arith
    by_end false = omega arith
few-by history b c n (events.Release from) (Some t) allows few = by_end (t.first == from)
  where
    by_end : (f : Bool) → published_of (if f then None else Some t) ≤ n + 64
    by_end true = omega arith
    by_end false = omega (arith, few)
few-by history b c n event None allows few = omega arith
few-by history b c n event (Some t) allows few = omega (arith, few)

few-more : (history : List Entry) (e : Entry) → Few history → MayComeNext history e → Few (history ++ e ∷ [])
few-more history e few comes b = by_owner (e.backend == b) refl
  where
    grows : length (history ++ e ∷ []) ≡ length history + 1
    grows = length-append history (e ∷ [])

    by_owner : (t : Bool) → (e.backend == b) ≡ t → published_of (running_transaction_of (history ++ e ∷ []) b) ≤ 64 * length (history ++ e ∷ [])
    by_owner true own = omega (arith, grows, ap published_of (running_transaction_of-own history e b own), few-by history e.backend e.command (64 * length history) e.event (running_transaction_of history b) comes.follows.event (few b))
    by_owner false other = omega (arith, grows, ap published_of (running_transaction_of-other history e b other), few b)

-- those of a sound history have
pub few_published_in : (history : List Entry) → IsSound history → Few history
few_published_in history sound = each-keeps MayComeNext Few (λ b. omega arith) few-more history sound

kept-published : (r : Option Running) (own : Option RunningTransaction) → own ≡ r → option_map_or (λ t. t.published) own 0 ≡ published_of r
kept-published r own is = ap published_of is

-- so what is published with a call can be counted
pub published_fits : (k now : Kept) (b c count : ℕ) (rows : RowsHeld) (locks : List Grant) (transactions : List (Option RunningTransaction)) → k ≡ now → KeepsFolds k.script k.history k.promised rows locks transactions
    → MayCall now.script now.history (entry_of b c (events.Publish count)) → published_at transactions b + count < 2 ^ 64
published_fits k now b c count rows locks transactions is keeps call =
    let inside : MayCall k.script k.history (entry_of b c (events.Publish count)) = call_inside k now (entry_of b c (events.Publish count)) is call in
    omega (arith, kept-published (running_transaction_of k.history b) _ (keeps.own b), few_published_in k.history keeps.sound b, k.short, inside.follows.event.2)
