-- The entries of an allowed history that their types allow are those that a reader of texts takes, and the other way round.
use Rattle.std.proofs.Common.{ℕ, List, [], ◌∷◌, ◌++◌, All}
use Rattle.std.specs.List.{AllByRecursion}
use Rattle.std.proofs.lemmas.List.Elements.{All-from_recursion, All-weaker, recursion_from_All}
use Rattle.event_kinds.specs.declared.entry.Entry.{Entry}
use Rattle.event_kinds.specs.declared.entry.Event.{Event}
use Rattle.event_kinds.specs.declared.entry.Event.TheVariants as events
use Rattle.event_kinds.specs.Texts.{changes_of}
use Rattle.event_kinds.specs.Entries.{IsItem, IsEvent, IsHead, HasChange, IsEntry}
use Rattle.out_text.specs.Typed.{IsTyped, SpellsOnly}
use Rattle.out_text.proofs.OneHistory.{spells_only}
use Rattle.cacheless.specs.Lines.{lines_of}
use Rattle.check_tool.specs.Types.{CheckKind, Scenario}
use Rattle.check_tool.specs.Verdicts.{IsOutputOf}
use Rattle.history_model.specs.Prefixes.{EachFrom, EachEntry}

-- an event with a change in each write
event_read : (event : Event) → IsHead event → All IsItem (changes_of event) → HasChange event → IsEvent event
event_read (events.Write xid changes) head items some = (head, (some, recursion_from_All IsItem changes items))
event_read event head items some = head

entry_read : (e : Entry) → IsTyped e → HasChange e.event → IsEntry e
entry_read e typed some = record { backend = typed.head.backend; command = typed.head.command; event = event_read e.event typed.head.event typed.changes some }

each_read : (before history : List Entry) → AllByRecursion IsTyped history → EachFrom (λ prefix e. HasChange e.event) before history → AllByRecursion IsEntry history
each_read before [] typed some = tt
each_read before (e ∷ history) typed some = (entry_read e typed.0 some.0, each_read (before ++ e ∷ []) history typed.1 some.1)

pub all_read : (history : List Entry) → All IsTyped history → EachEntry (λ before e. HasChange e.event) history → All IsEntry history
all_read history typed some = All-from_recursion IsEntry history (each_read [] history (recursion_from_All IsTyped history typed) some)

-- ---- the other way round

event_typed : (event : Event) → IsEvent event → IsHead event × All IsItem (changes_of event)
event_typed (events.Write xid changes) is = (is.0, All-from_recursion IsItem changes is.1.1)
event_typed event is = (is, All-from_recursion IsItem [] tt)

entry_typed : (e : Entry) → IsEntry e → IsTyped e
entry_typed e is =
    let parts = event_typed e.event is.event in
    record { head = record { backend = is.backend; command = is.command; event = parts.0 }; changes = parts.1 }

-- an output that was found spells its history and its answer lines alone
pub output_only : (kind : CheckKind) (scenario : Scenario) (text : List ℕ) (count : ℕ) (output : IsOutputOf kind scenario text count) → SpellsOnly text output.is.is.history (lines_of scenario output.is.is.history)
output_only kind scenario text count output =
    spells_only text output.is.is.history (lines_of scenario output.is.is.history) output.is.is.text_is (All-weaker IsEntry IsTyped entry_typed output.is.is.history output.is.entries) output.answers
