-- What a check finds, of the parts that it looks at.
use Rattle.std.proofs.Common.{◌≡◌, ◌≤◌, ◌<◌, ◌+◌, ◌∙◌, ◌⊎◌, inl, inr, ℕ, true, false, Option, None, List, [], ◌∷◌, ◌++◌, length, take, slice_get, refl, sym, ap, subst, codes, arith}
use Rattle.std.specs.List.{All, AllByRecursion}
use Rattle.std.proofs.lemmas.List.{take_all, take-take, length-take-le, append_assoc}
use Rattle.std.proofs.Math.Dec.{leb}
use Rattle.std.proofs.lemmas.Bool.Decides.{leb_tells}
use Rattle.std.proofs.lemmas.List.Elements.{All-from_recursion}
use Rattle.base_types.specs.Scenario.{IsBackend, IsScript}
use Rattle.event_kinds.specs.Entries.{IsLine}
use Rattle.event_kinds.specs.Texts.{entries_text, lines_text}
use Rattle.history_ledger.specs.Longest.{IsLongest}
use Rattle.history_model.specs.Prefixes.{EachFrom}
use Rattle.history_model.proofs.Prefixes.{EachEntry-prefix}
use Rattle.history_model.proofs.Sound.{sound_is_orderly}
use Rattle.cacheless.specs.Lines.{lines_of}
use Rattle.cacheless.specs.Output.{IsAllowed, IsInterleaved, HasAllCome, IsOutput}
use Rattle.cacheless.specs.Plays.{IsNext}
use Rattle.cacheless.specs.Typed.{IsCountable}
use Rattle.cacheless.proofs.Allowed.AllowedHistories.{allowed_sound}
use Rattle.cacheless.proofs.Allowed.TypedHistories.{output_typed}
use Rattle.cacheless.proofs.PlacesUsable.{places_usable}
use Rattle.history_lines.specs.Answered.{IsAnswered}
use Rattle.check_tool.specs.Types.{CheckKind, Scenario, Entry, Line}
use Rattle.check_tool.specs.Leading.{Leads}
use Rattle.check_tool.specs.Reached.{MayBeReached, AreInterleaved, HaveReached, due_after}
use Rattle.check_tool.specs.Verdicts.{IsTypedOutput, IsOutputOf, DiffersAt}
use Rattle.check_tool.proofs.Longest.{longest_both, holds_shorter}
use Rattle.check_tool.proofs.Interleavings.{interleaved-prefix, none_due}
use Rattle.check_tool.proofs.FirstLines.{leads_once, none_in_lines}

-- ---- how far a walk or a run may have come

allowed-prefix : (scenario : Scenario) (history rest : List Entry) → IsAllowed scenario (history ++ rest) → IsAllowed scenario history
allowed-prefix scenario history rest all = record {
  legal = EachEntry-prefix _ history rest all.legal;
  queue = EachEntry-prefix _ history rest all.queue;
  plays = EachEntry-prefix _ history rest all.plays;
  economical = EachEntry-prefix _ history rest all.economical;
}

pub reached-prefix : (kind : CheckKind) (scenario : Scenario) (history rest : List Entry) → MayBeReached kind scenario (history ++ rest) → MayBeReached kind scenario history
reached-prefix kind scenario history rest all = record { allowed = allowed-prefix scenario history rest all.allowed; interleaved = interleaved-prefix kind scenario history rest all.interleaved }

-- the backends of an allowed history are those of the script
backends_from : (scenario : Scenario) (before history : List Entry) → EachFrom (IsNext scenario) before history → AllByRecursion (λ e. IsBackend scenario.backends e.backend) history
backends_from scenario before [] each = tt
backends_from scenario before (e ∷ rest) each = (each.0.0, backends_from scenario (before ++ e ∷ []) rest each.1)

pub allowed_backends : (scenario : Scenario) (history : List Entry) (backends : ℕ) → backends ≡ scenario.backends → IsAllowed scenario history → All (λ e. IsBackend backends e.backend) history
allowed_backends scenario history backends same allowed =
    subst (λ n. All (λ e. IsBackend n e.backend) history) (sym same) (All-from_recursion (λ e. IsBackend scenario.backends e.backend) history (backends_from scenario [] history allowed.plays))

-- of what the script allows it is judged how the entries come
pub reached_far : (kind : CheckKind) (scenario : Scenario) (entries : List Entry) (allowed far : ℕ) (lines : List Line) (due : Option ℕ) → IsScript scenario → IsAnswered scenario entries allowed lines → AreInterleaved kind scenario (take allowed entries) far due
    → HaveReached kind scenario entries far due lines
reached_far kind scenario entries allowed far lines due script answered come = record {
  script = script;
  longest = record { within = longest.within; holds = record { allowed = longest.holds.0; interleaved = longest.holds.1 }; most = λ less more. longest.most less (more.allowed, more.interleaved) };
  due_is = ap (λ seen. slice_get (due_after kind scenario seen) 0) (sym (take-take far allowed entries fewer)) ∙ come.due_is;
  lines_are = λ last. answered.lines_are ∙ ap (lines_of scenario) (take_all allowed entries (omega (arith, last, fewer)));
}
  where
    fewer : far ≤ allowed
    fewer = omega (arith, come.longest.within, length-take-le allowed entries answered.longest.within)

    longest : IsLongest (λ history. IsAllowed scenario history × IsInterleaved kind scenario history) entries far
    longest = longest_both (IsAllowed scenario) (IsInterleaved kind scenario) (allowed-prefix scenario) entries allowed far answered.longest come.longest

-- ---- the verdict

-- the history of an output is all that its text begins with, and its lines follow
output_parts : (kind : CheckKind) (scenario : Scenario) (text : List ℕ) (entries : List Entry) (rest : List ℕ) → Leads text entries rest → (o : IsTypedOutput kind scenario text) → (entries ≡ o.is.history) × (rest ≡ lines_text (lines_of scenario o.is.history) ++ codes "end\n")
output_parts kind scenario text entries rest leads o = leads_once text entries o.is.history rest (lines_text (lines_of scenario o.is.history) ++ codes "end\n") leads (record {
  text_is = o.is.text_is ∙ append_assoc (entries_text o.is.history) (lines_text (lines_of scenario o.is.history)) (codes "end\n");
  entries_are = o.entries;
  ends = none_in_lines (lines_of scenario o.is.history);
})

-- all that the text begins with is a whole history of that kind, and its lines follow
pub is_output : (kind : CheckKind) (scenario : Scenario) (text : List ℕ) (entries : List Entry) (rest : List ℕ) (count : ℕ) (due : Option ℕ) (lines : List Line) → Leads text entries rest → HaveReached kind scenario entries count due lines → (count ≡ length entries) × (due ≡ None) → All IsLine lines
    → rest ≡ lines_text lines ++ codes "end\n" → IsOutputOf kind scenario text count
is_output kind scenario text entries rest count due lines leads far end typed same =
    let all : take count entries ≡ entries = take_all count entries (omega (arith, end.0)) in
    let reached : MayBeReached kind scenario entries = subst (MayBeReached kind scenario) all far.longest.holds in
    record {
      is = record {
        is = record {
          history = entries;
          allowed = reached.allowed;
          interleaved = reached.interleaved;
          complete = subst (HasAllCome kind scenario) all ((none_due kind scenario (take count entries) due far.due_is).0 end.1);
          text_is = leads.text_is ∙ ap (λ t. entries_text entries ++ t) (same ∙ ap (λ ls. lines_text ls ++ codes "end\n") (far.lines_are end.0)) ∙ sym (append_assoc (entries_text entries) (lines_text (lines_of scenario entries)) (codes "end\n"));
        };
        entries = leads.entries_are;
      };
      orderly = sound_is_orderly entries (allowed_sound scenario entries far.script.spelled reached.allowed);
      commands = far.script.spelled;
      places = places_usable scenario entries far.script.spelled reached.allowed;
      answers = subst (All IsLine) (far.lines_are end.0) typed;
      count_is = end.0;
    }

-- the longest prefix of a history that may be reached is all of it
all_of : (kind : CheckKind) (scenario : Scenario) (entries : List Entry) (count : ℕ) → IsLongest (MayBeReached kind scenario) entries count → MayBeReached kind scenario entries → count ≡ length entries
all_of kind scenario entries count longest reached = by_order (leb_tells (count + 1) (length entries))
  where
    by_order : ((leb (count + 1) (length entries) ≡ true) × (count + 1 ≤ length entries)) ⊎ ((leb (count + 1) (length entries) ≡ false) × (length entries < count + 1)) → count ≡ length entries
    by_order (inl less) =
        absurd (longest.most (omega (arith, less.1)) (holds_shorter (MayBeReached kind scenario) (reached-prefix kind scenario) entries (length entries) (count + 1) less.1 (subst (MayBeReached kind scenario) (sym (take_all (length entries) entries (omega arith))) reached)))
    by_order (inr more) = omega (arith, more.1, longest.within)

-- an output would have ended so: it is short enough for each of its entries to have a text
no_output : (kind : CheckKind) (scenario : Scenario) (text : List ℕ) (entries : List Entry) (rest : List ℕ) (count : ℕ) (due : Option ℕ) (lines : List Line) → Leads text entries rest → HaveReached kind scenario entries count due lines → IsCountable text
    → ((count ≡ length entries) × (due ≡ None) → rest ≡ lines_text lines ++ codes "end\n" → ⊥) → IsOutput kind scenario text → ⊥
no_output kind scenario text entries rest count due lines leads far short never o =
    let parts = output_parts kind scenario text entries rest leads (record { is = o; entries = output_typed kind scenario text o far.script short }) in
    let reached : MayBeReached kind scenario entries = subst (MayBeReached kind scenario) (sym parts.0) (record { allowed = o.allowed; interleaved = o.interleaved }) in
    let last : count ≡ length entries = all_of kind scenario entries count far.longest reached in
    let all : take count entries ≡ entries = take_all count entries (omega (arith, last)) in
    never (last, (none_due kind scenario (take count entries) due far.due_is).1 (subst (HasAllCome kind scenario) (sym parts.0 ∙ sym all) o.complete))
    (parts.1 ∙ ap (λ h. lines_text (lines_of scenario h) ++ codes "end\n") (sym parts.0) ∙ ap (λ ls. lines_text ls ++ codes "end\n") (sym (far.lines_are last)))

-- something is missing
pub differs_at : (kind : CheckKind) (scenario : Scenario) (text : List ℕ) (entries : List Entry) (rest : List ℕ) (count : ℕ) (due : Option ℕ) (lines : List Line) → Leads text entries rest → HaveReached kind scenario entries count due lines → IsCountable text
    → ((count ≡ length entries) × (due ≡ None) → rest ≡ lines_text lines ++ codes "end\n" → ⊥) → DiffersAt kind scenario text (count + 1)
differs_at kind scenario text entries rest count due lines leads far short never = record {
  differs = no_output kind scenario text entries rest count due lines leads far short never;
  entries = entries;
  rest = rest;
  leads = leads;
  count = count;
  longest = far.longest;
  entry_is = refl;
}
