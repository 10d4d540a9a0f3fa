-- What a backend answers goes by the script in what it protects alone.
use Rattle.std.proofs.Common.{◌≡◌, ◌∙◌, ◌+◌, ℕ, true, false, Option, Some, None, List, [], ◌∷◌, refl, ap, take, map}
use Rattle.base_types.specs.Fields.{fields_of}
use Rattle.command_answers.specs.declared.answer.Answer.TheVariants as answers
use Rattle.command_answers.specs.Answers.{answer_text}
use Rattle.ddl_effect.specs.Effects.{Effect, Nothing}
use Rattle.ddl_effect.specs.declared.told.Told.{Told}
use Rattle.ddl_effect.specs.declared.told.Told.TheVariants as tells
use Rattle.history_model.specs.Versions.{fresh_text}
use Rattle.history_model.specs.Transactions.{has_written}
use Rattle.cacheless.specs.Lines.{read_field, answer_well, answer_by, effect_judged, answer_judged, line_of, lines_from}
use Rattle.cacheless.specs.Protected.{is_protected}
use Rattle.cacheless.specs.Session.{Finished}
use Rattle.cacheless.specs.Types.{Shown}
use Rattle.backend_core.specs.Types.{Oid, Kind, Field, Command, CommandError, Scenario, Entry}

-- two scripts by which the same fields are protected for a backend
abbrev pub ProtectsAlike : Scenario → Scenario → List Entry → ℕ → Type 0
ProtectsAlike one two history b = (rel : Oid) (kind : Kind) (field : Field) → is_protected two history b rel kind field ≡ is_protected one history b rel kind field

well_alike : (one two : Scenario) (history : List Entry) (b : ℕ) (f : Finished) (told : Told) → ProtectsAlike one two history b → answer_well two history b f told ≡ answer_well one history b f told
well_alike one two history b f (tells.Relation rel kind) same = λ i. answers.Shown kind rel (map (λ field. elim (same rel kind field i) as (λ x. Shown) [ true ↦ record { field = field; value = fresh_text history b rel field; at = None } | false ↦ read_field history b rel field ]) (fields_of kind))
well_alike one two history b f (tells.Field rel kind field) same = λ i. answers.One (elim (same rel kind field i) as (λ x. Shown) [ true ↦ record { field = field; value = fresh_text history b rel field; at = None } | false ↦ read_field history b rel field ])
well_alike one two history b f told same = refl

by_alike : (one two : Scenario) (history : List Entry) (b : ℕ) (f : Finished) (command : Command) (effect : Effect) → ProtectsAlike one two history b → answer_by two history b f command effect ≡ answer_by one history b f command effect
by_alike one two history b f command (Nothing told) same = well_alike one two history b f told same
by_alike one two history b f command effect same = refl

judged_alike : (one two : Scenario) (history : List Entry) (b c : ℕ) (f : Finished) (command : Command) (error : Option CommandError) → ProtectsAlike one two history b → answer_judged two history b c f command error ≡ answer_judged one history b c f command error
judged_alike one two history b c f command (Some error) same = refl
judged_alike one two history b c f command None same = by_alike one two history b f command (effect_judged history b f (has_written history b c) command) same

-- the line of a command
pub line_alike : (one two : Scenario) (seen : List Entry) (b c : ℕ) (f : Finished) (command : Command) → ((n : ℕ) → ProtectsAlike one two (take n seen) b) → line_of two seen b c f command ≡ line_of one seen b c f command
line_alike one two seen b c f command same = ap (λ a. record { backend = b; command = c; text = answer_text a }) (judged_alike one two (take f.judged seen) b c f command f.refused (same f.judged))

-- and of all
pub lines_alike : (one two : Scenario) (seen : List Entry) (b c : ℕ) (finished : List Finished) (commands : List Command) → ((n : ℕ) → ProtectsAlike one two (take n seen) b) → lines_from two seen b c finished commands ≡ lines_from one seen b c finished commands
lines_alike one two seen b c [] commands same = refl
lines_alike one two seen b c (f ∷ finished) [] same = refl
lines_alike one two seen b c (f ∷ finished) (command ∷ commands) same =
    ap (λ l. l ∷ lines_from two seen b (c + 1) finished commands) (line_alike one two seen b c f command same)
    ∙ ap (λ l. line_of one seen b c f command ∷ l) (lines_alike one two seen b (c + 1) finished commands same)
