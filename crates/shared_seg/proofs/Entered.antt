-- What is shared after an entry that takes a promised place.
use Rattle.std.proofs.Common.{◌≡◌, ◌==◌, ◌≤◌, ◌<◌, ◌+◌, ◌-◌, ◌∙◌, ℕ, not, Option, List, [], ◌∷◌, ◌++◌, length, filter, slice_set, arith, refl, sym, ap, subst}
use Rattle.std.proofs.lemmas.List.{length-map, length-set}
use Rattle.std.proofs.lemmas.List.Filters.{length-filter_both}
use Rattle.base_types.specs.declared.command.Placed.{Placed}
use Rattle.base_types.specs.Scenario.{Scenario, IsScript, IsBackend}
use Rattle.event_kinds.specs.declared.entry.Entry.{Entry}
use Rattle.event_kinds.specs.declared.entry.Event.{Event}
use Rattle.lock_modes.specs.declared.grant.Grant.{Grant}
use Rattle.segment_rows.specs.Kept.{RowsHeld}
use Rattle.segment_rows.specs.Words.{rows_after}
use Rattle.history_model.specs.Orderly.{IsOrderly}
use Rattle.ddl_effect.specs.Commands.{commands_of}
use Rattle.history_model.specs.Held.{held_by}
use Rattle.seg_calls.specs.Calls.{places_for, entry_of, MayCall, Appends}
use Rattle.txn_blocks.specs.declared.transaction.RunningTransaction.{RunningTransaction}
use Rattle.shared_seg.specs.Kept.{Kept, places_in}
use Rattle.shared_seg.specs.KeepsFolds.{KeepsFolds}
use Rattle.shared_seg.specs.Places.{promised_in}
use Rattle.shared_seg.specs.Transactions.{transaction_at, transaction_by, xid_at}
use Rattle.shared_seg.proofs.Keeps.{Steps, keeps_more, steps_set}
use Rattle.shared_seg.proofs.Appended.{appends_placed}

-- a backend of the script has a place in the lists by backend
pub within : (script : Scenario) (b : ℕ) (n : ℕ) → IsBackend script.backends b → n ≡ script.backends + 1 → b < n
within script b n is same = omega (arith, is.1, same)

-- a backend has no more commands than the script
few_commands : (script : Scenario) (b : ℕ) → length (commands_of script b) ≤ length script.commands
few_commands script b =
    omega (arith, length-map (filter (λ (p : Placed). p.backend == b) script.commands) (λ p. p.command), length-filter_both (λ (p : Placed). p.backend == b) (λ p. not (p.backend == b)) (λ p. refl) script.commands)

-- so the number of a command has a successor
pub small_number : (script : Scenario) (b c : ℕ) → IsScript script → c ≤ length (commands_of script b) + 1 → c < 4294967295
small_number script b c is number = omega (arith, number, few_commands script b, is.commands)

-- what a call needs, of the parts
pub call_inside : (k now : Kept) (e : Entry) → k ≡ now → MayCall now.script now.history e → MayCall k.script k.history e
call_inside k now e is call = subst (λ (x : Kept). MayCall x.script x.history e) (sym is) call

-- so the backend is within any list that has an item for each backend
pub called_within : (k now : Kept) (e : Entry) (n : ℕ) → k ≡ now → MayCall now.script now.history e → n ≡ k.script.backends + 1 → e.backend < n
called_within k now e n is call same = within k.script e.backend n (call_inside k now e is call).backend same

-- what an entry with a promised place does, as callers see it
pub placed_appends : (k now : Kept) (after : List Entry) (has : List ℕ) (e : Entry) → places_for e.event ≡ 1 → k ≡ now → MayCall now.script now.history e → IsOrderly k.history e → length k.promised ≡ k.script.backends + 1
    → after ≡ k.history ++ e ∷ [] → has ≡ slice_set k.promised e.backend (promised_in k.promised e.backend - 1) → Appends now.history after (places_in now) (promised_in has) e
placed_appends k now after has e one is call orderly backends entries taken =
    let inside : MayCall k.script k.history e = call_inside k now e is call in
    subst (λ (x : Kept). Appends x.history after (places_in x) (promised_in has) e) is
    (appends_placed k.history after k.promised has e one entries (record { follows = inside.follows; orderly = orderly }) taken (within k.script e.backend (length k.promised) inside.backend backends))

-- with what is kept beside it
pub placed_keeps : (k now : Kept) (after : List Entry) (has : List ℕ) (e : Entry) (rows stored : RowsHeld) (locks locked : List Grant) (transactions own : List (Option RunningTransaction))
    → k ≡ now → KeepsFolds k.script k.history k.promised rows locks transactions → MayCall now.script now.history e → IsOrderly k.history e
    → after ≡ k.history ++ e ∷ [] → has ≡ slice_set k.promised e.backend (promised_in k.promised e.backend - 1)
    → Steps e rows stored locks locked transactions own → KeepsFolds k.script after has stored locked own
placed_keeps k now after has e rows stored locks locked transactions own is keeps call orderly entries taken steps =
    let inside : MayCall k.script k.history e = call_inside k now e is call in
    subst (λ h. KeepsFolds k.script h has stored locked own) (sym entries)
    (keeps_more k.script k.history e k.promised has rows stored locks locked transactions own keeps (record { follows = inside.follows; orderly = orderly }) (small_number k.script e.backend e.command keeps.script_is inside.number)
    (ap length taken ∙ length-set k.promised e.backend (promised_in k.promised e.backend - 1)) steps)

-- the same of an entry after which the transaction of its backend is set
pub called_keeps : (k now : Kept) (after : List Entry) (has : List ℕ) (b c : ℕ) (event : Event) (rows stored : RowsHeld) (locks locked : List Grant) (transactions own : List (Option RunningTransaction))
    → k ≡ now → KeepsFolds k.script k.history k.promised rows locks transactions → MayCall now.script now.history (entry_of b c event) → IsOrderly k.history (entry_of b c event)
    → after ≡ k.history ++ entry_of b c event ∷ [] → has ≡ slice_set k.promised b (promised_in k.promised b - 1)
    → stored ≡ rows_after (xid_at transactions b) c event rows → locked ≡ held_by b c event locks → own ≡ slice_set transactions b (transaction_by c event (transaction_at transactions b)) → KeepsFolds k.script after has stored locked own
called_keeps k now after has b c event rows stored locks locked transactions own is keeps call orderly entries taken rows_are held_is own_is =
    let inside : MayCall k.script k.history (entry_of b c event) = call_inside k now (entry_of b c event) is call in
    placed_keeps k now after has (entry_of b c event) rows stored locks locked transactions own is keeps call orderly entries taken
    (steps_set (entry_of b c event) rows stored locks locked transactions own rows_are held_is (within k.script b (length transactions) inside.backend keeps.slots) own_is)
