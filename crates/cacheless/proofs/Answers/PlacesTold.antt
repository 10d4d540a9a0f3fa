-- What a command that has come out answers as of a place serves since.
use Rattle.std.proofs.Common.{◌≡◌, ◌∙◌, ℕ, Bool, true, false, Option, Some, None, List, [], Contains, refl, sym, ap, subst}
use Rattle.base_types.specs.Fields.{fields_of, has_field, read_by}
use Rattle.base_types.specs.Scans.{build_scans}
use Rattle.base_types.specs.declared.scan.Purpose.TheVariants as scans
use Rattle.ddl_effect.specs.Effects.{effect_at}
use Rattle.ddl_effect.specs.Plans.{Plan, Done, Fails, Absent, Do}
use Rattle.ddl_effect.specs.Stages.{told_of}
use Rattle.ddl_effect.specs.declared.told.Told.TheVariants as tells
use Rattle.history_model.specs.Read.{is_usable}
use Rattle.history_model.specs.Versions.{answer_of, fresh_text}
use Rattle.history_model.specs.Transactions.{has_written}
use Rattle.history_model.proofs.Every.{every-weaker}
use Rattle.cacheless.specs.Facts.{facts_of}
use Rattle.cacheless.specs.Lines.{read_field, shown_field, effect_judged}
use Rattle.cacheless.specs.Owed.{missing}
use Rattle.cacheless.specs.Places.{IsShownRightly, TellsRightly, ComesRightly, AnswersRightly}
use Rattle.cacheless.specs.Protected.{is_protected}
use Rattle.cacheless.specs.Session.{Session, number_of, outcome_of, is_settled}
use Rattle.cacheless.specs.Settled.{finished_as}
use Rattle.cacheless.specs.Told.{tells_of_scans}
use Rattle.cacheless.specs.Types.{Oid, Kind, Field, Command, CommandError, Told, Shown, Scenario, Entry}
use Rattle.cacheless.proofs.Answers.ServingScans.{serves}
use Rattle.cacheless.proofs.Answers.ToldAnswers.{HasComeOut, Stays, stays, stays_open, left_effect}
use Rattle.cacheless.proofs.Answers.ToldFields.{field_among, none_usable, one_owes_none, each_has}
use Rattle.cacheless.proofs.Plans.SilentActs.{both_empty}
use Rattle.cacheless.proofs.Plans.UnderLocks.{TellsOpen}

-- a field whose scan is usable
field_rightly : (scenario : Scenario) (seen : List Entry) (b : ℕ) (rel : Oid) (kind : Kind) (field : Field) → is_usable seen b (read_by field rel) ≡ true → IsShownRightly seen b rel (shown_field scenario seen b rel kind field)
field_rightly scenario seen b rel kind field usable = by_guard (is_protected scenario seen b rel kind field)
  where
    by_guard : (t : Bool) → IsShownRightly seen b rel (elim t as (λ x. Shown) [ true ↦ record { field = field; value = fresh_text seen b rel field; at = None } | false ↦ read_field seen b rel field ])
    by_guard true = tt
    by_guard false = serves seen b (read_by field rel) usable

-- a command that tells of scans may rely on all for a descriptor that it has opened
open_usable : (scenario : Scenario) (seen : List Entry) (b : ℕ) (s : Session) (command : Command) (told : Told) (rel : Oid) (kind : Kind) → HasComeOut scenario seen b s command → s.left ≡ Done told → tells_of_scans told ≡ true → Contains s.opened (record { rel = rel; kind = kind })
    → (field : Field) → has_field kind field ≡ true → is_usable seen b (read_by field rel) ≡ true
open_usable scenario seen b s command told rel kind come done of_scans opened field has =
    field_among (λ d. is_usable seen b d ≡ true) kind rel field has (none_usable seen b (build_scans kind rel) (both_empty (missing (facts_of seen b).kept (build_scans kind rel)) []
    (one_owes_none (facts_of seen b) s.opened (record { rel = rel; kind = kind }) opened (come.builds (ap outcome_of done) (ap (λ p. tells_of_scans (told_of p)) done ∙ of_scans)))).0)

told_rightly : (scenario : Scenario) (seen : List Entry) (b : ℕ) (s : Session) (command : Command) (told : Told) → HasComeOut scenario seen b s command → s.left ≡ Done told → TellsOpen s.opened told → TellsRightly scenario seen b told
told_rightly scenario seen b s command (tells.Relation rel kind) come done opened = every-weaker (λ field. has_field kind field ≡ true) (λ field. IsShownRightly seen b rel (shown_field scenario seen b rel kind field))
    (λ field has. field_rightly scenario seen b rel kind field (open_usable scenario seen b s command (tells.Relation rel kind) rel kind come done refl opened field has)) (fields_of kind) (each_has kind)
told_rightly scenario seen b s command (tells.Field rel kind field) come done opened = field_rightly scenario seen b rel kind field (open_usable scenario seen b s command (tells.Field rel kind field) rel kind come done refl opened.0 field opened.1)
told_rightly scenario seen b s command (tells.Regclass oid) come done opened = serves seen b (scans.RelOid oid) (come.named oid done)
told_rightly scenario seen b s command told come done opened = tt

-- what is left of it
left_rightly : (scenario : Scenario) (seen : List Entry) (b : ℕ) (s : Session) (command : Command) (p : Plan) → HasComeOut scenario seen b s command → ((told : Told) → s.left ≡ Done told → TellsOpen s.opened told) → ((name : List ℕ) → s.left ≡ Absent name → is_usable seen b (scans.RelName name) ≡ true)
    → s.left ≡ p → is_settled (outcome_of p) ≡ true → ComesRightly scenario seen b (effect_at (answer_of seen b) [] p)
left_rightly scenario seen b s command (Done told) come opened absent is out = told_rightly scenario seen b s command told come is (opened told is)
left_rightly scenario seen b s command (Fails error) come opened absent is out = tt
left_rightly scenario seen b s command (Absent name) come opened absent is out = serves seen b (scans.RelName name) (absent name is)
left_rightly scenario seen b s command (Do act rest) come opened absent is out = absurd (cc out)

-- so what it answers, where the scan of a name is usable that no relation had
pub answers_rightly : (scenario : Scenario) (seen : List Entry) (b : ℕ) (s : Session) (command : Command) → HasComeOut scenario seen b s command → ((name : List ℕ) → s.left ≡ Absent name → is_usable seen b (scans.RelName name) ≡ true)
    → AnswersRightly scenario seen b (number_of s) (finished_as s) command s.refused
answers_rightly scenario seen b s command come absent = by_refused s.refused refl
  where
    goes : Stays seen b s command → ComesRightly scenario seen b (effect_judged seen b (finished_as s) (has_written seen b (number_of s)) command)
    goes so = subst (ComesRightly scenario seen b) (sym (left_effect seen b s command so)) (left_rightly scenario seen b s command s.left come (λ told done. stays_open seen b s command told so done) absent refl come.out)

    by_refused : (o : Option CommandError) → s.refused ≡ o → AnswersRightly scenario seen b (number_of s) (finished_as s) command o
    by_refused (Some error) is = tt
    by_refused None is = goes (stays scenario seen b s command come is)
