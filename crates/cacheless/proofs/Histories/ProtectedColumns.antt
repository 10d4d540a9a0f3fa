-- Under AccessShare, once it is clear, a table's columns are protected and its statistics aren't: what has been read of the columns in a worked history is their text.
use Rattle.std.proofs.Common.{◌≡◌, true, false, [], ◌∷◌, refl, arith}
use Rattle.base_types.specs.declared.field.Field.TheVariants as fields
use Rattle.base_types.specs.declared.kind.Kind.TheVariants.{Table}
use Rattle.base_types.specs.declared.scan.Purpose.TheVariants as scans
use Rattle.base_types.specs.Fields.{field_text}
use Rattle.event_kinds.specs.declared.entry.Event.TheVariants.{Release, Stop}
use Rattle.history_model.specs.Sound.{IsSound}
use Rattle.history_model.specs.Versions.{fresh_text}
use Rattle.history_model.specs.Read.{rows_read}
use Rattle.history_model.proofs.Prefixes.{EachEntry-prefix}
use Rattle.history_model.proofs.OneKind.{read_kinds}
use Rattle.cacheless.specs.Protected.{is_protected}
use Rattle.cacheless.specs.Plays.{IsNext, Plays}
use Rattle.cacheless.proofs.Plans.Given.{oid, entry}
use Rattle.cacheless.proofs.Histories.AnothersTable.{show_of_anothers_table, trigger_scanned, show_of_anothers_table_plays}
use Rattle.cacheless.proofs.ProtectedFields.{protected_fresh}

sound : IsSound trigger_scanned
sound = search arith

plays : Plays show_of_anothers_table trigger_scanned
plays = EachEntry-prefix (IsNext show_of_anothers_table) trigger_scanned (entry 2 1 (Release 1) ∷ entry 2 2 Stop ∷ []) show_of_anothers_table_plays

pub columns_protected : is_protected show_of_anothers_table trigger_scanned 2 (oid 16384) Table fields.Columns ≡ true
columns_protected = refl

pub statistics_not : is_protected show_of_anothers_table trigger_scanned 2 (oid 16384) Table fields.Statistics ≡ false
statistics_not = refl

pub columns_fresh : fresh_text trigger_scanned 2 (oid 16384) fields.Columns ≡ field_text fields.Columns (oid 16384) (rows_read trigger_scanned 2 (scans.Attribute (oid 16384)))
columns_fresh = protected_fresh show_of_anothers_table trigger_scanned 2 (oid 16384) Table fields.Columns (read_kinds trigger_scanned 2 (scans.Class (oid 16384)) sound).0 sound plays refl columns_protected refl
