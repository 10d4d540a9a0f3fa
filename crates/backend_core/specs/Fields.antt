-- What a backend shows of a field of a relation that it has open.
use Rattle.std.specs.Prelude.{◌≡◌, ◌&&◌, ℕ, true, Option, Some, None, IfSome, List, not, if◌then◌else◌}
use Rattle.std.specs.Option.{option_and_then}
use Rattle.base_types.specs.Fields.{field_text, has_field, read_by}
use Rattle.ddl_effect.specs.Opens.{latest_open}
use Rattle.history_model.specs.Versions.{fresh_text}
use Rattle.cacheless.specs.Protected.{is_protected}
use Rattle.cacheless.specs.Session.{opening_of}
use Rattle.cacheless.specs.State.{Kept, kept_at, is_kept, rows_kept}
use Rattle.cacheless.specs.Types.{OpenRelation}
use Rattle.cacheless.specs.Suspects.{lacks}
use Rattle.backend_core.specs.Types.{Field, Scenario, Entry, Backend}

-- a field by what is kept: where the kind has it, and the descriptor lacks no scan
abbrev pub field_kept : Kept → Field → OpenRelation → Option (List ℕ)
field_kept kept field o = if has_field o.kind field && not (lacks (is_kept kept) (opening_of o)) then Some (field_text field o.rel (rows_kept kept (read_by field o.rel))) else None

-- that of the latest relation that is open under a name
abbrev pub field_now : Backend → List ℕ → Field → Option (List ℕ)
field_now s name field = option_and_then (field_kept (kept_at s.progress) field) (latest_open name s.progress.opens)

-- where it is protected, it is the field's text in the whole history
abbrev pub IsFreshNow : Scenario → List Entry → Backend → List ℕ → Field → List ℕ → Type 0
IsFreshNow scenario seen s name field text =
    IfSome (latest_open name s.progress.opens) (λ o. is_protected scenario seen s.progress.id o.rel o.kind field ≡ true → text ≡ fresh_text seen s.progress.id o.rel field)
