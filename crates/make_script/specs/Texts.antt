-- The text of a made script: a comment that counts what came of it, and the script.
use Rattle.std.specs.Prelude.{ℕ, Bool, true, false, List, ◌++◌, nat_eq, length, codes, decimal}
use Rattle.std.specs.List.{count_by, starts_with}
use Rattle.base_types.specs.Scenario.{Scenario}
use Rattle.event_kinds.specs.declared.entry.Entry.{Entry}
use Rattle.event_kinds.specs.declared.entry.Event.{Event}
use Rattle.event_kinds.specs.declared.entry.Event.TheVariants.{Publish, FetchReset}
use Rattle.event_kinds.specs.declared.entry.Line.{Line}
use Rattle.script_text.specs.Spelling.{line_end, script_spelling}

-- an event that publishes messages
abbrev pub is_publish : Event → Bool
is_publish (Publish count) = true
is_publish event = false

-- an event that resets all that a backend has cached
abbrev pub is_reset : Event → Bool
is_reset FetchReset = true
is_reset event = false

-- an entry with such an event
unfoldable pub publishes : Entry → Bool
publishes entry = is_publish entry.event

-- and with such a one
unfoldable pub resets : Entry → Bool
resets entry = is_reset entry.event

-- an answer that is an error
abbrev pub is_error : Line → Bool
is_error line = starts_with nat_eq line.text (codes "error ")

-- the comment: how many entries a history has, how many of these publish messages, how many are resets, and how many of the answers are errors
abbrev pub comment_text : List Entry → List Line → List ℕ
comment_text history answers =
    codes "-- entries " ++ decimal (length history)
    ++ codes " publishes " ++ decimal (count_by publishes history)
    ++ codes " resets " ++ decimal (count_by resets history)
    ++ codes " errors " ++ decimal (count_by is_error answers) ++ line_end

-- the whole text
unfoldable pub made_text : Scenario → List Entry → List Line → List ℕ
made_text script history answers = comment_text history answers ++ script_spelling script
