-- What a write makes of a session.
use Rattle.std.proofs.Common.{◌≡◌, ◌∙◌, ◌<◌, ◌+◌, ◌∷◌, ◌++◌, [], ℕ, false, Option, Some, None, Result, Ok, Err, OnOk, List, length, take, drop, get_or, refl, sym, ap, subst}
use Rattle.std.specs.List.{flat_map}
use Rattle.std.specs.Option.{IfSome}
use Rattle.std.proofs.lemmas.Grind.{flat_map-append}
use Rattle.std.proofs.lemmas.List.{take-append-drop}
use Rattle.base_types.specs.declared.mode.Mode.TheVariants.{AccessExclusive}
use Rattle.event_kinds.specs.declared.entry.Event.TheVariants as events
use Rattle.event_kinds.specs.declared.entry.Item.{Item}
use Rattle.history_model.proofs.ListSteps.{flat_map_next}
use Rattle.history_ledger.specs.Held.{Reads}
use Rattle.lock_modes.specs.Own.{has_lock, new_lock}
use Rattle.lock_modes.specs.declared.own_lock.OwnLock.{OwnLock}
use Rattle.inval_messages.specs.declared.message.Message.{Message}
use Rattle.cacheless.specs.Holds.{Rests, HasEntered}
use Rattle.cacheless.specs.Locks.{locked_by}
use Rattle.cacheless.specs.State.{messages_in, locks_made}
use Rattle.base_types.specs.declared.ids.Oid.{Oid}
use Rattle.base_types.specs.declared.ids.Xid.{Xid}
use Rattle.cacheless.specs.Awaiting.{HasTaken}
use Rattle.history_lines.specs.Takes.{MakesOne, MayWrite}
use Rattle.history_lines.specs.Types.{Scenario, Entry, Ledger, Progress}

-- a write with these messages, which makes this relation, if it makes one
pub written_takes : {E : Type 0} (result : Result (Unit {0}) E) (was now : Progress) (xid : Xid) (messages : List Message) (made : Option Oid) → OnOk result (now.answer ≡ None)
    → OnOk result ((scenario : Scenario) (seen : List Entry) (items : List Item) → (rests : Rests scenario seen was) → messages ≡ messages_in seen was.id items → flat_map (locked_by (was.finished + 1)) items ≡ locks_made (was.finished + 1) made → HasEntered scenario seen was (events.Write xid items) rests now)
    → OnOk result ((scenario : Scenario) (seen : List Entry) (items : List Item) (rests : Rests scenario seen was) → messages ≡ messages_in seen was.id items → flat_map (locked_by (was.finished + 1)) items ≡ locks_made (was.finished + 1) made → HasTaken scenario seen was (events.Write xid items) rests now)
written_takes (Ok done) was now xid messages made none holds = λ scenario seen items rests is locks. record {
  goes = holds scenario seen items rests is locks;
  answer = none;
}
written_takes (Err e) was now xid messages made none holds = tt

-- the locks of one more item come after those before
locks_more : (command : ℕ) (items : List Item) (at : ℕ) (item : Item) → at < length items → item ≡ get_or items at item → flat_map (locked_by command) (take (at + 1) items) ≡ flat_map (locked_by command) (take at items) ++ locked_by command item
locks_more command items at item within is = sym (flat_map_next (locked_by command) [] items at item item _ within is refl)

-- an item that makes no relation takes none
pub none_still : (items : List Item) (at : ℕ) (item : Item) → at < length items → item ≡ get_or items at item → ((command : ℕ) → locked_by command item ≡ []) → ((command : ℕ) → flat_map (locked_by command) (take at items) ≡ []) → (command : ℕ) → flat_map (locked_by command) (take (at + 1) items) ≡ []
none_still items at item within is none before command = locks_more command items at item within is ∙ (λ i. before command i ++ none command i)

-- the first that makes a relation is the only one
pub made_first : (items : List Item) (at : ℕ) (item : Item) (rel : Oid) → MakesOne items → at < length items → item ≡ get_or items at item → ((command : ℕ) → locked_by command item ≡ locks_made command (Some rel)) → ((command : ℕ) → flat_map (locked_by command) (take at items) ≡ []) → (command : ℕ) → flat_map (locked_by command) items ≡ locks_made command (Some rel)
made_first items at item rel one within is makes before command = alone one.made (one.locks command)
  where
    rest : List OwnLock
    rest = flat_map (locked_by command) (drop (at + 1) items)

    whole : flat_map (locked_by command) items ≡ new_lock rel command ∷ rest
    whole = ap (flat_map (locked_by command)) (sym (take-append-drop (at + 1) items)) ∙ flat_map-append (locked_by command) (take (at + 1) items) (drop (at + 1) items)
        ∙ ap (λ l. l ++ rest) (locks_more command items at item within is ∙ (λ i. before command i ++ makes command i))

    alone : (o : Option Oid) → flat_map (locked_by command) items ≡ locks_made command o → flat_map (locked_by command) items ≡ new_lock rel command ∷ []
    alone None none = absurd (let both : [] ≡ new_lock rel command ∷ rest = sym none ∙ whole in cc both)
    alone (Some other) made =
        let both : new_lock rel command ∷ rest ≡ new_lock other command ∷ [] = sym whole ∙ made in
        let none : rest ≡ [] = cc both in
        whole ∙ ap (λ l. new_lock rel command ∷ l) none

-- so the relation that was found is the one that they make
one_made : (a b : Option Oid) → locks_made 0 a ≡ locks_made 0 b → a ≡ b
one_made None None is = refl
one_made None (Some rel) is = absurd (cc is)
one_made (Some rel) None is = absurd (cc is)
one_made (Some rel) (Some other) is = let same : new_lock rel 0 ≡ new_lock other 0 = cc is in ap (λ (lock : OwnLock). Some lock.rel) same

-- and isn't locked
pub made_new : (s : Progress) (items : List Item) (found : Option Oid) (may : MayWrite s items) → ((command : ℕ) → flat_map (locked_by command) items ≡ locks_made command found) → IfSome found (λ rel. has_lock s.locks.items rel AccessExclusive ≡ false)
made_new s items found may are = subst (λ o. IfSome o (λ rel. has_lock s.locks.items rel AccessExclusive ≡ false)) (one_made may.one.made found (sym (may.one.locks 0) ∙ are 0)) may.new

-- a write of the items that the ledger gives messages of
pub write_takes : {E : Type 0} (result : Result (Unit {0}) E) (ledger : Ledger) (s now : Progress) (xid : Xid) (items : List Item) (messages : List Message) (made : Option Oid) → ((seen : List Entry) → Reads seen ledger → messages ≡ messages_in seen s.id items)
    → ((command : ℕ) → flat_map (locked_by command) items ≡ locks_made command made)
    → OnOk result ((scenario : Scenario) (seen : List Entry) (items : List Item) (rests : Rests scenario seen s) → messages ≡ messages_in seen s.id items → flat_map (locked_by (s.finished + 1)) items ≡ locks_made (s.finished + 1) made → HasTaken scenario seen s (events.Write xid items) rests now)
    → OnOk result ((scenario : Scenario) (seen : List Entry) (rests : Rests scenario seen s) → Reads seen ledger → HasTaken scenario seen s (events.Write xid items) rests now)
write_takes (Ok done) ledger s now xid items messages made given locks takes = λ scenario seen rests reads. takes scenario seen items rests (given seen reads) (locks (s.finished + 1))
write_takes (Err e) ledger s now xid items messages made given locks takes = tt

-- a write of these items is one of the same
pub written_as : {E : Type 0} (result : Result (Unit {0}) E) (ledger : Ledger) (was now : Progress) (xid : Xid) (items given : List Item) → items ≡ given → OnOk result ((scenario : Scenario) (seen : List Entry) (rests : Rests scenario seen was) → Reads seen ledger → HasTaken scenario seen was (events.Write xid items) rests now)
    → OnOk result ((scenario : Scenario) (seen : List Entry) (rests : Rests scenario seen was) → Reads seen ledger → HasTaken scenario seen was (events.Write xid given) rests now)
written_as result ledger was now xid items given same takes = subst (λ l. OnOk result ((scenario : Scenario) (seen : List Entry) (rests : Rests scenario seen was) → Reads seen ledger → HasTaken scenario seen was (events.Write xid l) rests now)) same takes
