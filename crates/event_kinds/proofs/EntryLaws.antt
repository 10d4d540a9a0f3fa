-- What a function that reads a whole line answers.
use Rattle.std.proofs.Common.{◌≡◌, ℕ, List, Option, Some, None, Result, Ok, Err, sym, ap, ◌∙◌}
use Rattle.std.specs.Prelude.{IfOk}
use Rattle.event_kinds.specs.Events.{EntryFault, Entry}
use Rattle.event_kinds.specs.declared.fault.EntryFault.TheVariants as faults
use Rattle.event_kinds.specs.Texts.{entry_text}
use Rattle.event_kinds.specs.Entries.{IsEntry}
use Rattle.event_kinds.specs.Reading.{entry_at}
use Rattle.event_kinds.specs.Yields.{YieldsWhole}
use Rattle.event_kinds.proofs.EventLaws.{entry_takes, entry_again}

again_of : (line : List ℕ) (entry : Entry) → IsEntry entry → line ≡ entry_text entry → entry_at line ≡ Some entry
again_of line entry is spelled = ap entry_at spelled ∙ entry_again entry is

one_entry : (a b : Entry) → ◌≡◌ {A = Option Entry} (Some a) (Some b) → a ≡ b
one_entry a b e = cc

pub found_is : (line : List ℕ) (r : Result Entry EntryFault) → YieldsWhole r (entry_at line) → IfOk r (λ entry. (line ≡ entry_text entry) × IsEntry entry)
found_is line (Ok entry) h = entry_takes line entry h
found_is line (Err fault) h = tt

pub found_same : (line : List ℕ) (r : Result Entry EntryFault) → YieldsWhole r (entry_at line) → (entry : Entry) → IsEntry entry → line ≡ entry_text entry → IfOk r (λ found. found ≡ entry)
found_same line (Ok found) h entry is spelled = one_entry found entry (sym h ∙ again_of line entry is spelled)
found_same line (Err fault) h entry is spelled = tt

none_is_bad : (line : List ℕ) → entry_at line ≡ None → (entry : Entry) → IsEntry entry → line ≡ entry_text entry → ⊥
none_is_bad line h entry is spelled = let found = again_of line entry is spelled in cc

pub none_found : (line : List ℕ) (r : Result Entry EntryFault) → YieldsWhole r (entry_at line) → r ≡ Err faults.Bad → (entry : Entry) → IsEntry entry → line ≡ entry_text entry → ⊥
none_found line (Ok found) h bad = absurd cc
none_found line (Err faults.Bad) h bad = none_is_bad line h
none_found line (Err faults.NoMemory) h bad = absurd cc
