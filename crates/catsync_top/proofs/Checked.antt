-- What a check of an output found, made of what its steps ensure.
use Rattle.std.proofs.Common.{◌≡◌, ◌≤◌, ◌-◌, ◌∙◌, ℕ, Option, Ok, List, min, length, take, drop, sym, ap, subst}
use Rattle.std.proofs.lemmas.List.{take_rest, drop_min}
use Rattle.edge_io.specs.Reads.{ReadsAll}
use Rattle.cacheless.specs.declared.check_kind.CheckKind.{CheckKind}
use Rattle.check_tool.specs.Verdicts.{IsOutputOf, DiffersAt}
use Rattle.script_text.specs.Grammar.{Reading, script_of}
use Rattle.script_text.specs.declared.fault.Rest.TheVariants.{Given}
use Rattle.catsync_top.specs.declared.arguments.Word.TheVariants as words
use Rattle.catsync_top.specs.Top.{HasFound, HasDiffered, checked_text}
use Rattle.catsync_top.proofs.Inputs.{has_read}
use Rattle.catsync_top.proofs.Readable.{output_only}

-- what is left after the script
left_over : (items input : List ℕ) (at size from : ℕ) → input ≡ items → size ≡ length items → from ≡ min at size → take (length input - from) (drop from input) ≡ drop at items
left_over items input at size from same long is =
    take_rest input from ∙ ap (λ n. drop n input) (is ∙ ap (min at) (long ∙ ap length (sym same))) ∙ drop_min at input ∙ ap (drop at) same

-- an output, and the line that says so
pub has_found : (kind : CheckKind) (left rest taken now : Option (List ℕ)) (Writes : Option (List ℕ) → Option (List ℕ) → List ℕ → Type 0) (items input : List ℕ) (reading : Reading) (size from count : ℕ)
    → ReadsAll left rest 268435456 items → length items ≤ 268435456 → input ≡ items → script_of Given input ≡ Ok reading → size ≡ length items → from ≡ min reading.rest_at size
    → IsOutputOf kind reading.script (take (length input - from) (drop from input)) count → Writes taken now (checked_text count) → HasFound kind left rest taken now Writes
has_found kind left rest taken now Writes items input reading size from count all short same spelled long at output written =
    let found : IsOutputOf kind reading.script (drop reading.rest_at items) count = subst (λ text. IsOutputOf kind reading.script text count) (left_over items input reading.rest_at size from same long at) output in
    record {
      is = has_read (words.Check kind) left rest items input reading all short same spelled;
      count = count;
      output = found;
      only = output_only kind reading.script (drop reading.rest_at items) count found;
      written = written;
    }

-- something else
pub has_differed : (kind : CheckKind) (left rest : Option (List ℕ)) (items input : List ℕ) (reading : Reading) (size from entry : ℕ)
    → ReadsAll left rest 268435456 items → length items ≤ 268435456 → input ≡ items → script_of Given input ≡ Ok reading → size ≡ length items → from ≡ min reading.rest_at size
    → DiffersAt kind reading.script (take (length input - from) (drop from input)) entry → HasDiffered kind left rest entry
has_differed kind left rest items input reading size from entry all short same spelled long at differs = record {
  is = has_read (words.Check kind) left rest items input reading all short same spelled;
  differs = subst (λ text. DiffersAt kind reading.script text entry) (left_over items input reading.rest_at size from same long at) differs;
}
