-- What the making of a script wrote, made of what its steps ensure; and how it may end.
use Rattle.std.proofs.Common.{◌≡◌, ◌∙◌, ℕ, Option, List, refl, ap, subst}
use Rattle.event_kinds.specs.Texts.{text_of}
use Rattle.event_kinds.specs.declared.entry.Entry.{Entry}
use Rattle.event_kinds.specs.declared.entry.Line.{Line}
use Rattle.base_types.specs.Scenario.{Scenario}
use Rattle.script_text.specs.ReadBack.{IsReadBack}
use Rattle.script_text.specs.declared.fault.ScriptCause.{ScriptCause}
use Rattle.make_script.specs.Scripts.{made_script}
use Rattle.make_script.specs.Texts.{made_text}
use Rattle.cacheless.specs.Lines.{lines_of}
use Rattle.history_model.proofs.Sound.{sound_is_orderly}
use Rattle.walk_run.specs.Walks.{IsWalk}
use Rattle.catsync_top.specs.declared.arguments.Word.{Word}
use Rattle.catsync_top.specs.declared.arguments.Word.TheVariants as words
use Rattle.catsync_top.specs.declared.status.Status.{Status}
use Rattle.catsync_top.specs.declared.status.Status.TheVariants as statuses
use Rattle.catsync_top.specs.Sessions.{HasMadeByWalk}
use Rattle.catsync_top.specs.Top.{Ask, AskToMake, IsEndOfMaking, IfBadScript, IfDiffers}

-- a script that was walked, and written under what came of the walk
pub has_made : (script made : Scenario) (taken now : Option (List ℕ)) (Writes : Option (List ℕ) → Option (List ℕ) → List ℕ → Type 0) (history seen : List Entry) (answers said : List Line) (text sent : List ℕ)
    → script ≡ made → IsWalk script history answers → seen ≡ history → said ≡ answers → text ≡ made_text script seen said → IsReadBack script text → sent ≡ text → Writes taken now sent → HasMadeByWalk made taken now Writes
has_made script made taken now Writes history seen answers said text sent are walk entries lines text_is back all written =
    let spelled : text ≡ made_text script history (lines_of script history) = text_is ∙ ap (λ h. made_text script h said) entries ∙ ap (made_text script history) (lines ∙ walk.lines_are) in
    subst (λ s. HasMadeByWalk s taken now Writes) are (record {
      made = record {
        output = text_of history (lines_of script history);
        is = record { history = history; allowed = walk.allowed; interleaved = record { follows = walk.follows; looks = walk.looks }; complete = walk.complete; text_is = refl };
        orderly = sound_is_orderly history walk.sound;
        back = subst (IsReadBack script) spelled back;
        written = subst (Writes taken now) (all ∙ spelled) written;
      };
      noted = walk.noted;
    })

-- the scripts of one number are one
pub same_script : (m n : ℕ) (taken now : Option (List ℕ)) (Writes : Option (List ℕ) → Option (List ℕ) → List ℕ → Type 0) → m ≡ n → HasMadeByWalk (made_script m) taken now Writes → HasMadeByWalk (made_script n) taken now Writes
same_script m n taken now Writes same h = subst (λ k. HasMadeByWalk (made_script k) taken now Writes) same h

-- it names no line of an input, and no entry
pub makes_no_bad : (status : Status) (holds : ℕ → ScriptCause → Type 0) → IsEndOfMaking status → IfBadScript status holds
makes_no_bad (statuses.BadScript line cause) holds ends = absurd ends
makes_no_bad status holds ends = tt

pub makes_no_difference : (status : Status) (holds : ℕ → Type 0) → IsEndOfMaking status → IfDiffers status holds
makes_no_difference (statuses.Differs entry) holds ends = absurd ends
makes_no_difference status holds ends = tt

-- who asks for a script asks for no word
pub apart : (arguments : List (List ℕ)) (word : Word) (number : ℕ) → Ask arguments word → AskToMake arguments number → ⊥
apart arguments (words.Output kind) number asks makes = let k = makes.are in cc
apart arguments (words.Check kind) number asks makes = let k = makes.are in cc
