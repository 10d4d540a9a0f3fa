-- An entry is its head and its changes, and so is its text.
use Rattle.std.proofs.Common.{◌≡◌, Result, Ok, Err, ◌++◌, refl, sym, ap, ◌∙◌, append_assoc, append-nil, codes}
use Rattle.std.specs.Prelude.{OnOk}
use Rattle.std.specs.List.{All}
use Rattle.std.proofs.lemmas.List.Elements.{recursion_from_All}
use Rattle.event_kinds.specs.Events.{Event, Entry}
use Rattle.event_kinds.specs.declared.entry.Event.TheVariants as events
use Rattle.event_kinds.specs.Entries.{HasChange, IsEntry, IsEntryHead, IsEvent, IsHead, IsItem}
use Rattle.event_kinds.specs.Texts.{event_text, event_head, changes_of, changes_text, place_text, entry_text, entry_head}

pub event_parts : (event : Event) → event_text event ≡ event_head event ++ changes_text (changes_of event)
event_parts (events.Write xid changes) = refl
event_parts event = sym (append-nil (event_text event))

pub entry_parts : (entry : Entry) → entry_text entry ≡ entry_head entry ++ changes_text (changes_of entry.event)
entry_parts entry =
    ap (λ text. codes "h " ++ place_text entry.backend entry.command ++ text) (event_parts entry.event)
    ∙ sym (append_assoc (codes "h " ++ place_text entry.backend entry.command) (event_head entry.event) (changes_text (changes_of entry.event)))

event_spelled : (event : Event) → IsHead event → All IsItem (changes_of event) → HasChange event → IsEvent event
event_spelled (events.Write xid changes) head each some = (head, (some, recursion_from_All IsItem changes each))
event_spelled event head each some = head

-- what was written of an entry, its changes last, is the text of one that is read
pub entry_spelled : {T E : Type 0} (entry : Entry) (added : Result T E) → IsEntryHead entry → OnOk added (All IsItem (changes_of entry.event)) → OnOk added (HasChange entry.event → IsEntry entry)
entry_spelled entry (Ok value) head each = λ some. record { backend = head.backend; command = head.command; event = event_spelled entry.event head.event each some }
entry_spelled entry (Err error) head each = tt
