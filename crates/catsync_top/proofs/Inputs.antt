-- An input that was read to its end, and is a script.
use Rattle.std.proofs.Common.{◌≡◌, ◌≤◌, ◌∙◌, ℕ, Option, Ok, List, length, sym, ap}
use Rattle.edge_io.specs.Reads.{ReadsAll}
use Rattle.script_text.specs.Grammar.{Reading, script_of}
use Rattle.catsync_top.specs.declared.arguments.Word.{Word}
use Rattle.catsync_top.specs.Top.{HasRead, most_of, rest_of}

abbrev pub has_read : (word : Word) (left rest : Option (List ℕ)) (items input : List ℕ) (reading : Reading) → ReadsAll left rest (most_of word) items → length items ≤ most_of word → input ≡ items → script_of (rest_of word) input ≡ Ok reading → HasRead word left rest
has_read word left rest items input reading all short same spelled = record {
  input = items;
  whole = record { read = all.consumed; ended = all.ended short; short = short };
  reading = reading;
  spelled = ap (script_of (rest_of word)) (sym same) ∙ spelled;
}
