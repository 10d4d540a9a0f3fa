-- Reading line after line, as a loop does.
use Rattle.std.proofs.Common.{◌≡◌, ◌+◌, ◌==◌, ℕ, true, false, Result, Ok, Err, List, [], ◌∷◌, length, refl, sym, ◌∙◌, arith}
use Rattle.script_text.specs.declared.fault.ScriptCause.{ScriptCause}
use Rattle.script_text.specs.declared.fault.Rest.{Rest}
use Rattle.script_text.specs.TextLines.{text_lines}
use Rattle.script_text.specs.Grammar.{Draft, Reading, any_line, place_after, stops, at_end, empty_draft, lines_from, script_of}
use Rattle.script_text.specs.declared.fault.LineFault.{LineFault}
use Rattle.script_text.specs.declared.fault.LineFault.TheVariants.{Breaks, NoMemory}
use Rattle.script_text.specs.Drafts.{Takes, Reads, fault_at}
use Rattle.script_text.proofs.TokenLengths.{is_zero}

faulty : (rest : Rest) (draft : Draft) (number place : ℕ) (text line : List ℕ) (others : List (List ℕ)) (cause : ScriptCause) (whole : Result Reading (ℕ × ScriptCause)) → text_lines text ≡ line ∷ others → any_line draft line ≡ Err cause
    → lines_from rest draft number place (text_lines text) ≡ whole → whole ≡ Err (number, cause)
unfolding lines_from
faulty rest draft number place text line others cause whole first fault so_far =
    let step : lines_from rest draft number place (text_lines text) ≡ Err (number, cause) = rw (first, fault) refl in
    sym so_far ∙ step

pub told : (rest : Rest) (draft next : Draft) (number place : ℕ) (text line : List ℕ) (others : List (List ℕ)) (fault : LineFault) (whole : Result Reading (ℕ × ScriptCause)) → text_lines text ≡ line ∷ others → Takes next (Err fault) (any_line draft line)
    → lines_from rest draft number place (text_lines text) ≡ whole → Reads (Err (fault_at fault number)) whole
told rest draft next number place text line others (Breaks cause) whole first takes so_far = faulty rest draft number place text line others cause whole first takes so_far
told rest draft next number place text line others NoMemory whole first takes so_far = tt

pub stopped : (rest : Rest) (draft next : Draft) (number place : ℕ) (text line : List ℕ) (others : List (List ℕ)) (whole : Result Reading (ℕ × ScriptCause)) → text_lines text ≡ line ∷ others → any_line draft line ≡ Ok next → stops rest next ≡ true
    → lines_from rest draft number place (text_lines text) ≡ whole → whole ≡ at_end next number (place_after draft place line)
unfolding lines_from
stopped rest draft next number place text line others whole first taken stop so_far =
    let step : lines_from rest draft number place (text_lines text) ≡ at_end next number (place_after draft place line) = rw (first, taken, stop) refl in
    sym so_far ∙ step

pub further : (rest : Rest) (draft next : Draft) (number place : ℕ) (text line : List ℕ) (others : List (List ℕ)) (whole : Result Reading (ℕ × ScriptCause)) → text_lines text ≡ line ∷ others → any_line draft line ≡ Ok next → stops rest next ≡ false
    → lines_from rest draft number place (text_lines text) ≡ whole → lines_from rest next (number + 1) (place_after draft place line) others ≡ whole
unfolding lines_from
further rest draft next number place text line others whole first taken stop so_far =
    let step : lines_from rest draft number place (text_lines text) ≡ lines_from rest next (number + 1) (place_after draft place line) others = rw (first, taken, stop) refl in
    sym step ∙ so_far

pub ended : (rest : Rest) (draft : Draft) (number place : ℕ) (text : List ℕ) (whole : Result Reading (ℕ × ScriptCause)) → (length text == 0) ≡ true → lines_from rest draft number place (text_lines text) ≡ whole → whole ≡ at_end draft number place
unfolding lines_from text_lines
ended rest draft number place [] whole none so_far = sym so_far
ended rest draft number place (b ∷ bs) whole none so_far = let k : length (b ∷ bs) ≡ 0 = is_zero (length (b ∷ bs)) none in absurd (omega arith)

pub from_empty : (rest : Rest) (text : List ℕ) → lines_from rest empty_draft 1 0 (text_lines text) ≡ script_of rest text
unfolding script_of
from_empty rest text = refl
