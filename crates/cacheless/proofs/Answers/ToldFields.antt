-- A field as it is told by the last scan for it is what the definition shows.
use Rattle.std.proofs.Common.{◌≡◌, ◌∙◌, ℕ, Bool, true, false, not, Some, None, List, [], ◌∷◌, ◌++◌, Contains, cond, if◌then◌else◌, refl, ap, map, sym}
use Rattle.std.specs.List.{AllByRecursion}
use Rattle.std.proofs.lemmas.List.Elements.{All-contains, All-from_recursion}
use Rattle.std.specs.Option.{option_map_or}
use Rattle.base_types.specs.Fields.{field_text, fields_of, has_field, read_by}
use Rattle.base_types.specs.Scans.{build_scans}
use Rattle.base_types.specs.declared.field.Field.TheVariants as fields
use Rattle.base_types.specs.declared.kind.Kind.TheVariants.{Table, Index}
use Rattle.lock_modes.specs.Own.{clear_modes}
use Rattle.history_model.specs.Read.{place_read, rows_read, is_usable}
use Rattle.history_model.specs.Versions.{fresh_text}
use Rattle.history_model.specs.OfKind.{IsOfKind}
use Rattle.cacheless.specs.Types.{Oid, Kind, Field, Purpose, Shown, Opening, OwnLock, Scenario, Entry}
use Rattle.cacheless.specs.Facts.{Facts, facts_of, kept_in}
use Rattle.cacheless.specs.Lines.{read_field, shown_field}
use Rattle.cacheless.specs.Owed.{missing, builds_missing}
use Rattle.cacheless.specs.Protected.{protects, is_protected}
use Rattle.cacheless.specs.Session.{Session}
use Rattle.cacheless.specs.Told.{told_field}
use Rattle.cacheless.proofs.ProtectedFields.{protected_fresh}
use Rattle.cacheless.proofs.Answers.ReadPlaces.{read_at_place}
use Rattle.cacheless.proofs.Plans.SilentActs.{both_empty}
use Rattle.cacheless.proofs.Allowed.SettledCourse.{HasSession}
use Rattle.local_caches.specs.Kept.{is_kept}
use Rattle.cacheless.proofs.Reading.{kept_usable}
use Rattle.history_model.proofs.Every.{every-weaker}

-- the scan of a field is one of those that build the descriptor
pub field_among : (P : Purpose → Type 0) (kind : Kind) (rel : Oid) (field : Field) → has_field kind field ≡ true → AllByRecursion P (build_scans kind rel) → P (read_by field rel)
field_among P Table rel fields.Name has all = all.0
field_among P Table rel fields.Columns has all = all.1.0
field_among P Table rel fields.Defaults has all = all.1.1.0
field_among P Table rel fields.Statistics has all = all.1.0
field_among P Table rel fields.Fillfactor has all = all.0
field_among P Table rel fields.Constraints has all = all.1.1.1.0
field_among P Table rel fields.Referenced has all = all.1.1.1.0
field_among P Table rel fields.Indexes has all = all.1.1.1.1.0
field_among P Table rel fields.Triggers has all = all.1.1.1.1.1.0
field_among P Table rel field has all = absurd (cc)
field_among P Index rel fields.Name has all = all.0
field_among P Index rel fields.Of has all = all.1.0
field_among P Index rel fields.Valid has all = all.1.0
field_among P Index rel field has all = absurd (cc)

-- where none is owed, each is usable
pub none_unusable : (facts : Facts) (wanted : List Purpose) → missing facts.kept wanted ≡ [] → AllByRecursion (λ scan. is_kept facts.kept scan ≡ true) wanted
none_unusable facts [] none = tt
none_unusable facts (scan ∷ wanted) none = by_first (is_kept facts.kept scan) refl none (none_unusable facts wanted)
  where
    by_first : (t : Bool) → is_kept facts.kept scan ≡ t → cond (not t) (scan ∷ missing facts.kept wanted) (missing facts.kept wanted) ≡ [] → (missing facts.kept wanted ≡ [] → AllByRecursion (λ s. is_kept facts.kept s ≡ true) wanted)
        → (is_kept facts.kept scan ≡ true) × AllByRecursion (λ s. is_kept facts.kept s ≡ true) wanted
    by_first true is nothing rest = (is, rest nothing)
    by_first false is nothing rest = absurd (cc nothing)

pub none_usable : (seen : List Entry) (b : ℕ) (wanted : List Purpose) → missing (facts_of seen b).kept wanted ≡ [] → AllByRecursion (λ scan. is_usable seen b scan ≡ true) wanted
none_usable seen b wanted none = every-weaker (λ scan. is_kept (kept_in seen b) scan ≡ true) (λ scan. is_usable seen b scan ≡ true) (λ scan has. sym (kept_usable seen b scan) ∙ has) wanted (none_unusable (facts_of seen b) wanted none)

-- what is owed for no descriptor is owed for none of them
each_owes_none : (facts : Facts) (opened : List Opening) → builds_missing facts.kept opened ≡ [] → AllByRecursion (λ o. missing facts.kept (build_scans o.kind o.rel) ≡ []) opened
each_owes_none facts [] none = tt
each_owes_none facts (one ∷ opened) none = let parts = both_empty (missing facts.kept (build_scans one.kind one.rel)) (builds_missing facts.kept opened) none in (parts.0, each_owes_none facts opened parts.1)

pub one_owes_none : (facts : Facts) (opened : List Opening) (o : Opening) → Contains opened o → builds_missing facts.kept opened ≡ [] → builds_missing facts.kept (o ∷ []) ≡ []
one_owes_none facts opened o has none = ap (λ l. l ++ []) (All-contains Owes opened o (All-from_recursion Owes opened (each_owes_none facts opened none)) has)
  where
    Owes : Opening → Type 0
    Owes d = missing facts.kept (build_scans d.kind d.rel) ≡ []

-- a backend in a played history, which has these locks and may rely on all scans for the descriptor of a relation, which is of its kind
pub record CanTell (scenario : Scenario) (seen : List Entry) (b : ℕ) (locks : List OwnLock) (o : Opening) : Type 0 where
  pub has : HasSession scenario seen b locks
  pub builds : builds_missing (facts_of seen b).kept (o ∷ []) ≡ []
  pub kind : IsOfKind seen o.rel o.kind

-- a field of the relation: as it was read, and where it is protected, as it is now
pub field_told : (scenario : Scenario) (seen : List Entry) (b : ℕ) (locks : List OwnLock) (o : Opening) (field : Field) → CanTell scenario seen b locks o → has_field o.kind field ≡ true
    → shown_field scenario seen b o.rel o.kind field ≡ told_field (rows_read seen b) (place_read seen b) locks o.rel o.kind field
field_told scenario seen b locks o field can has =
    ap (λ t. elim t [ true ↦ record { field = field; value = fresh_text seen b o.rel field; at = None } | false ↦ read_field seen b o.rel field ]) guarded ∙ by_guard (protects (clear_modes locks o.rel) o.kind field) guarded
  where
    scan : Purpose
    scan = read_by field o.rel

    guarded : is_protected scenario seen b o.rel o.kind field ≡ protects (clear_modes locks o.rel) o.kind field
    guarded = ap (λ s. protects (option_map_or (λ (x : Session). clear_modes x.locks o.rel) s []) o.kind field) can.has.is ∙ ap (λ l. protects (clear_modes l o.rel) o.kind field) can.has.holds

    usable : is_usable seen b scan ≡ true
    usable = field_among (λ d. is_usable seen b d ≡ true) o.kind o.rel field has (none_usable seen b (build_scans o.kind o.rel) (both_empty (missing (facts_of seen b).kept (build_scans o.kind o.rel)) [] can.builds).0)

    now : is_protected scenario seen b o.rel o.kind field ≡ true → fresh_text seen b o.rel field ≡ field_text field o.rel (rows_read seen b scan)
    now protected = protected_fresh scenario seen b o.rel o.kind field can.kind can.has.played.sound can.has.played.plays has protected usable

    by_guard : (t : Bool) → is_protected scenario seen b o.rel o.kind field ≡ t → ◌≡◌ {A = Shown} (elim t [ true ↦ record { field = field; value = fresh_text seen b o.rel field; at = None } | false ↦ read_field seen b o.rel field ])
        (record { field = field; value = field_text field o.rel (rows_read seen b scan); at = if t then None else Some (place_read seen b scan) })
    by_guard true is = λ i. record { field = field; value = now is i; at = None }
    by_guard false is = λ i. record { field = field; value = field_text field o.rel (read_at_place seen b scan i); at = Some (place_read seen b scan) }

pub each_has : (kind : Kind) → AllByRecursion (λ field. has_field kind field ≡ true) (fields_of kind)
each_has Table = (refl, (refl, (refl, (refl, (refl, (refl, (refl, (refl, (refl, tt)))))))))
each_has Index = (refl, (refl, (refl, tt)))

pub map_same : {X Y : Type 0} (P : X → Type 0) (f g : X → Y) → ((x : X) → P x → f x ≡ g x) → (xs : List X) → AllByRecursion P xs → map f xs ≡ map g xs
map_same P f g same [] all = refl
map_same P f g same (x ∷ xs) all = ap (λ y. y ∷ map f xs) (same x all.0) ∙ ap (λ ys. g x ∷ ys) (map_same P f g same xs all.1)

-- all its fields
pub fields_told : (scenario : Scenario) (seen : List Entry) (b : ℕ) (locks : List OwnLock) (o : Opening) → CanTell scenario seen b locks o
    → map (shown_field scenario seen b o.rel o.kind) (fields_of o.kind) ≡ map (told_field (rows_read seen b) (place_read seen b) locks o.rel o.kind) (fields_of o.kind)
fields_told scenario seen b locks o can =
    map_same (λ field. has_field o.kind field ≡ true) (shown_field scenario seen b o.rel o.kind) (told_field (rows_read seen b) (place_read seen b) locks o.rel o.kind) (λ field own. field_told scenario seen b locks o field can own) (fields_of o.kind) (each_has o.kind)
