-- A command is told alike by other rows and places, where they are those of the last scans for the descriptors that it has opened, of the name that it failed to find, and of the oid of which it tells.
use Rattle.std.proofs.Common.{◌≡◌, ◌∙◌, ℕ, true, Option, Some, None, List, if◌then◌else◌, Contains, refl, sym, ap}
use Rattle.std.specs.List.{AllByRecursion}
use Rattle.std.proofs.lemmas.List.Elements.{All-contains, All-from_recursion}
use Rattle.base_types.specs.Fields.{field_text, fields_of, has_field}
use Rattle.base_types.specs.Scans.{build_scans}
use Rattle.base_types.specs.declared.scan.Purpose.TheVariants as scans
use Rattle.command_answers.specs.declared.answer.Answer.TheVariants as answers
use Rattle.lock_modes.specs.Own.{clear_modes}
use Rattle.txn_blocks.specs.Blocks.{Block}
use Rattle.ddl_effect.specs.declared.told.Told.TheVariants as tells
use Rattle.ddl_effect.specs.Plans.{Plan, Done, Fails, Absent, Do}
use Rattle.history_model.specs.Read.{place_read, rows_read}
use Rattle.cacheless.specs.Types.{Oid, Kind, Field, Row, Purpose, Command, CommandError, Opening, OwnLock, Told, Scenario, Entry}
use Rattle.cacheless.specs.Lines.{name_in, answer_judged}
use Rattle.cacheless.specs.Protected.{protects}
use Rattle.cacheless.specs.Session.{Session, Well, number_of, outcome_of}
use Rattle.cacheless.specs.Settled.{finished_as}
use Rattle.ddl_effect.specs.Commands.{absent_error}
use Rattle.ddl_effect.specs.Stages.{told_of}
use Rattle.cacheless.specs.Told.{tells_of_scans, told_field, told_name, told_well, told_left, told}
use Rattle.cacheless.proofs.Plans.UnderLocks.{TellsOpen}
use Rattle.cacheless.proofs.Answers.ToldAnswers.{HasComeOut, stays, stays_open, answer_told}
use Rattle.cacheless.proofs.Answers.ToldFields.{field_among, each_has, map_same}

-- a scan is told of alike
pub record IsAlike (rows now : Purpose → List Row) (places at : Purpose → ℕ) (scan : Purpose) : Type 0 where
  pub rows_are : now scan ≡ rows scan
  pub place_is : at scan ≡ places scan

-- so are all scans for descriptors
abbrev pub AreAlike : (Purpose → List Row) → (Purpose → List Row) → (Purpose → ℕ) → (Purpose → ℕ) → List Opening → Type 0
AreAlike rows now places at opened = AllByRecursion (λ o. AllByRecursion (IsAlike rows now places at) (build_scans o.kind o.rel)) opened

-- and all that a command tells of that has come out
pub record TellsAlike (rows now : Purpose → List Row) (places at : Purpose → ℕ) (s : Session) : Type 0 where
  pub opened : outcome_of s.left ≡ Well → tells_of_scans (told_of s.left) ≡ true → AreAlike rows now places at s.opened
  pub absent : (name : List ℕ) → s.left ≡ Absent name → at (scans.RelName name) ≡ places (scans.RelName name)
  pub named : (oid : Oid) → s.left ≡ Done (tells.Regclass oid) → IsAlike rows now places at (scans.RelOid oid)

-- a field of a relation
pub field_alike : (rows now : Purpose → List Row) (places at : Purpose → ℕ) (locks : List OwnLock) (rel : Oid) (kind : Kind) (field : Field) → has_field kind field ≡ true → AllByRecursion (IsAlike rows now places at) (build_scans kind rel)
    → told_field now at locks rel kind field ≡ told_field rows places locks rel kind field
field_alike rows now places at locks rel kind field has all =
    let alike = field_among (IsAlike rows now places at) kind rel field has all in
    λ i. record { field = field; value = field_text field rel (alike.rows_are i); at = if protects (clear_modes locks rel) kind field then None else Some (alike.place_is i) }

-- the name of an oid
name_alike : (rows now : Purpose → List Row) (places at : Purpose → ℕ) (oid : Oid) → IsAlike rows now places at (scans.RelOid oid) → told_name now at oid ≡ told_name rows places oid
name_alike rows now places at oid alike = λ i. answers.Regclass oid (name_in (alike.rows_are i)) (alike.place_is i)

-- what holds for each descriptor holds for one of them
one_alike : (rows now : Purpose → List Row) (places at : Purpose → ℕ) (opened : List Opening) (o : Opening) → Contains opened o → AreAlike rows now places at opened → AllByRecursion (IsAlike rows now places at) (build_scans o.kind o.rel)
one_alike rows now places at opened o has all = All-contains Alike opened o (All-from_recursion Alike opened all) has
  where
    Alike : Opening → Type 0
    Alike d = AllByRecursion (IsAlike rows now places at) (build_scans d.kind d.rel)

-- so is a command that came out well
well_alike : (rows now : Purpose → List Row) (places at : Purpose → ℕ) (locks : List OwnLock) (block : Block) (opened : List Opening) (told : Told) → TellsOpen opened told → (tells_of_scans told ≡ true → AreAlike rows now places at opened) → ((oid : Oid) → told ≡ tells.Regclass oid → IsAlike rows now places at (scans.RelOid oid))
    → told_well now at locks block told ≡ told_well rows places locks block told
well_alike rows now places at locks block opened (tells.Relation rel kind) is all named = ap (answers.Shown kind rel)
    (map_same (λ field. has_field kind field ≡ true) (told_field now at locks rel kind) (told_field rows places locks rel kind) (λ field has. field_alike rows now places at locks rel kind field has (one_alike rows now places at opened (record { rel = rel; kind = kind }) is (all refl))) (fields_of kind) (each_has kind))
well_alike rows now places at locks block opened (tells.Field rel kind field) is all named = ap answers.One (field_alike rows now places at locks rel kind field is.1 (one_alike rows now places at opened (record { rel = rel; kind = kind }) is.0 (all refl)))
well_alike rows now places at locks block opened (tells.Regclass oid) is all named = name_alike rows now places at oid (named oid refl)
well_alike rows now places at locks block opened told is all named = refl

-- so a command that has come out is told alike
pub told_alike : (rows now : Purpose → List Row) (places at : Purpose → ℕ) (scenario : Scenario) (seen : List Entry) (b : ℕ) (s : Session) (command : Command) → HasComeOut scenario seen b s command → TellsAlike rows now places at s → told now at command s ≡ told rows places command s
told_alike rows now places at scenario seen b s command come alike = by_plan s.left refl
  where
    unrefused : (t : Told) → s.left ≡ Done t → (o : Option CommandError) → s.refused ≡ o → s.refused ≡ None
    unrefused t done None is = is
    unrefused t done (Some error) is = absurd (let both : Done t ≡ Fails error = sym done ∙ come.follows.refused error is in cc both)

    by_plan : (p : Plan) → s.left ≡ p → told_left now at s.locks s.blocks.block command p ≡ told_left rows places s.locks s.blocks.block command p
    by_plan (Done t) done = well_alike rows now places at s.locks s.blocks.block s.opened t (stays_open seen b s command t (stays scenario seen b s command come (unrefused t done s.refused refl)) done) (λ tells. alike.opened (ap outcome_of done) (ap (λ p. tells_of_scans (told_of p)) done ∙ tells)) (λ oid is. alike.named oid (done ∙ ap Done is))
    by_plan (Fails error) is = refl
    by_plan (Absent name) is = ap (λ place. answers.Error (absent_error command name place)) (alike.absent name is)
    by_plan (Do act rest) is = refl

-- and what it has to answer is what is told by all rows and places that are those of its backend's last scans
pub answer_told_by : (now : Purpose → List Row) (at : Purpose → ℕ) (scenario : Scenario) (seen : List Entry) (b : ℕ) (s : Session) (command : Command) → HasComeOut scenario seen b s command → TellsAlike (rows_read seen b) now (place_read seen b) at s
    → answer_judged scenario seen b (number_of s) (finished_as s) command s.refused ≡ told now at command s
answer_told_by now at scenario seen b s command come alike = answer_told scenario seen b s command come ∙ sym (told_alike (rows_read seen b) now (place_read seen b) at scenario seen b s command come alike)
