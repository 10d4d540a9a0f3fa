-- Reading a script's text back.
use Rattle.std.specs.Prelude.{◌≡◌, ℕ, Bool, not, Ok, List, length}
use Rattle.base_types.specs.Scenario.{Scenario}
use Rattle.script_text.specs.declared.fault.Rest.TheVariants.{Refused}
use Rattle.script_text.specs.LineForms.{none_left}
use Rattle.script_text.specs.Grammar.{script_of}
use Rattle.script_text.specs.Spelling.{ring_pieces}

-- the script's text has a `ring` line
abbrev pub writes_ring : Scenario → Bool
writes_ring script = not (none_left (ring_pieces script.size script.from))

-- the text, to its end, is read as the script
abbrev pub IsReadBack : Scenario → List ℕ → Type 0
IsReadBack script text = script_of Refused text ≡ Ok (record { script = script; rest_at = length text })
