-- What `walk` writes for a script is one text.
use Rattle.std.proofs.Common.{◌≡◌, ◌∙◌, ℕ, Option, Ok, List, sym, ap, subst}
use Rattle.base_types.specs.Scenario.{Scenario}
use Rattle.event_kinds.specs.Texts.{text_of}
use Rattle.script_text.specs.Grammar.{Reading, script_of}
use Rattle.script_text.specs.declared.fault.Rest.TheVariants.{Refused}
use Rattle.cacheless.specs.declared.check_kind.CheckKind.TheVariants as kinds
use Rattle.cacheless.specs.Lines.{lines_of}
use Rattle.cacheless.specs.Output.{IsOutput}
use Rattle.backend_core.specs.Walked.{IsNotedWalk}
use Rattle.backend_core.specs.declared.backend.Backend.{Backend}
use Rattle.backend_core.proofs.Walked.OneWalk.{walked_alike}
use Rattle.catsync_top.specs.Sessions.{RanCoherently, HasMadeByWalk}

-- outputs of noted walks of one script
one_text : (script : Scenario) (x y : List ℕ) (one : IsOutput kinds.Walk script x) (two : IsOutput kinds.Walk script y) → IsNotedWalk script one.history → IsNotedWalk script two.history → x ≡ y
one_text script x y one two noted also =
    one.text_is ∙ ap (λ h. text_of h (lines_of script h)) (walked_alike script one.history two.history noted also one.interleaved.follows two.interleaved.follows one.complete two.complete) ∙ sym two.text_is

script_same : (input other : List ℕ) (one two : Reading) → script_of Refused input ≡ Ok one → script_of Refused other ≡ Ok two → input ≡ other → two.script ≡ one.script
script_same input other one two spelled also same =
    let both : Ok two ≡ Ok one = sym also ∙ ap (script_of Refused) (sym same) ∙ spelled in
    let alike : two ≡ one = cc both in
    ap (λ (r : Reading). r.script) alike

-- of one input one output, whatever the source and the sink tell, and whatever sessions are handed out
pub one_output : (left rest taken now before after given kept : Option (List ℕ)) (Writes Wrote : Option (List ℕ) → Option (List ℕ) → List ℕ → Type 0) (sessions others : List Backend)
    → (one : RanCoherently kinds.Walk left rest taken now Writes sessions) (two : RanCoherently kinds.Walk before after given kept Wrote others) → one.ran.input ≡ two.ran.input → one.ran.output ≡ two.ran.output
one_output left rest taken now before after given kept Writes Wrote sessions others one two same =
    subst (λ script. (is : IsOutput kinds.Walk script two.ran.output) → IsNotedWalk script is.history → one.ran.output ≡ two.ran.output) (sym (script_same one.ran.input two.ran.input one.ran.reading two.ran.reading one.ran.spelled two.ran.spelled same))
    (λ is also. one_text one.ran.reading.script one.ran.output two.ran.output one.ran.is is one.noted also) two.ran.is two.noted

-- what the comment of a made script counts is that output
pub made_output : (script : Scenario) (left rest taken now given kept : Option (List ℕ)) (Writes Wrote : Option (List ℕ) → Option (List ℕ) → List ℕ → Type 0) (sessions : List Backend)
    → (makes : HasMadeByWalk script given kept Wrote) (one : RanCoherently kinds.Walk left rest taken now Writes sessions) → one.ran.reading.script ≡ script → makes.made.output ≡ one.ran.output
made_output script left rest taken now given kept Writes Wrote sessions makes one same =
    subst (λ s. (is : IsOutput kinds.Walk s one.ran.output) → IsNotedWalk s is.history → makes.made.output ≡ one.ran.output) (sym same)
    (λ is also. one_text script makes.made.output one.ran.output makes.made.is is makes.noted also) one.ran.is one.noted
