-- Each former of plans makes a plan under locks of such plans.
use Rattle.std.proofs.Common.{◌≡◌, ◌∙◌, inl, inr, ℕ, Bool, true, false, List, [], ◌∷◌, ◌||◌, Contains, refl, sym, ap, map, not}
use Rattle.std.specs.List.{AllByRecursion}
use Rattle.std.proofs.lemmas.List.Folds.{list_any_at}
use Rattle.base_types.specs.Scans.{same_scan, build_scans}
use Rattle.base_types.specs.declared.kind.Kind.TheVariants.{Table, Index}
use Rattle.base_types.specs.declared.scan.Purpose.TheVariants as scans
use Rattle.base_types.proofs.SameScan.{same_scan-itself}
use Rattle.command_answers.specs.declared.error.CommandError.TheVariants as errors
use Rattle.ddl_effect.specs.Plans.{Plan}
use Rattle.ddl_effect.specs.Commands.{looking_up, if_passes, writing, opening, altering, column_there, with_column, column_free, without_column, reading}
use Rattle.ddl_effect.specs.Opens.{has_open}
use Rattle.history_model.specs.Covered.{counted_for}
use Rattle.history_model.proofs.Every.{SomeOf}
use Rattle.cacheless.specs.Types.{Oid, Mode, Kind, Row, Purpose, CommandError, OpenRelation, Draft}
use Rattle.cacheless.specs.ActsDone.{LockOn}
use Rattle.cacheless.specs.OpenedReads.{is_of_opened}
use Rattle.cacheless.proofs.Plans.UnderLocks.{KeepsRows, GoesUnder, IsKeptBy, Footing, at_first, with_found, with_open, with_rows, Follows}

-- a command that has locked the relation which its lookup found
abbrev pub on_found : Oid → Kind → Mode → Footing
on_found rel kind mode = with_found rel kind mode at_first

-- and opened its descriptor
abbrev pub on_opened : Oid → Kind → Mode → Footing
on_opened rel kind mode = with_open rel kind (on_found rel kind mode)

-- each row of such a scan counts as it is
abbrev pub IsPlain : Purpose → Type 0
IsPlain scan = (row : Row) → counted_for scan row ≡ row

pub plain_rows : (scan : Purpose) → IsPlain scan → (given : List Row) → given ≡ map (counted_for scan) given
plain_rows scan plain [] = refl
plain_rows scan plain (row ∷ given) = ap (λ r. r ∷ given) (sym (plain row)) ∙ ap (λ l. counted_for scan row ∷ l) (plain_rows scan plain given)

-- so a plan goes by them under a lock that keeps them
pub goes_plain : (locked : List LockOn) (scan : Purpose) (rest : List Row → Plan) → IsPlain scan → SomeOf (KeepsRows scan) locked → GoesUnder locked scan rest
goes_plain locked scan rest plain some = inr (inl (some, λ given. ap rest (plain_rows scan plain given)))

-- a scan of the one descriptor that is open
pub of_one : (rel : Oid) (kind : Kind) (scan : Purpose) → Contains (build_scans kind rel) scan → is_of_opened scan (record { rel = rel; kind = kind } ∷ []) ≡ true
of_one rel kind scan has = ap (λ t. t || false) (list_any_at (same_scan scan) (build_scans kind rel) has.0 scan has.1 (ap (same_scan scan) has.2 ∙ same_scan-itself scan))

pub f_passes : (on : Footing) (passes : Bool) (error : CommandError) (plan : Plan) → Follows on plan → Follows on (if_passes passes error plan)
f_passes on true error plan follows = follows
f_passes on false error plan follows = tt

pub f_looking : (on : Footing) (name : List ℕ) (mode : Mode) (further : Oid → Kind → Plan) → ((rel : Oid) (kind : Kind) → Follows (with_found rel kind mode on) (further rel kind)) → Follows on (looking_up name mode further)
f_looking on name mode further follows = (λ given. refl, follows)

pub f_opening : (on : Footing) (rel : Oid) (kind : Kind) (plan : Plan) → SomeOf (λ found. found ≡ record { rel = rel; kind = kind }) on.found → Follows (with_open rel kind on) plan → Follows on (opening rel kind plan)
f_opening on rel kind plan some follows = (λ given. refl, follows, some)

pub f_writing : (on : Footing) (draft : Draft) → AllByRecursion (IsKeptBy on.locked) on.opened → Follows on (writing draft)
f_writing on draft kept = (λ given. refl, kept)

pub f_there : (on : Footing) (column : List ℕ) (further : Row → Plan) → ((row : Row) → Follows on (further row)) → (given : List Row) → Follows on (column_there column further given)
f_there on column further follows [] = tt
f_there on column further follows (row ∷ more) = follows row

pub f_column : (on : Footing) (rel : Oid) (column : List ℕ) (further : Row → Plan) → SomeOf (KeepsRows (scans.AttName rel column)) on.locked → ((row : Row) → Follows on (further row)) → Follows on (with_column rel column further)
f_column on rel column further some follows = (goes_plain on.locked (scans.AttName rel column) (column_there column further) (λ row. refl) some, f_there on column further follows, refl)

pub f_free : (on : Footing) (column : List ℕ) (plan : Plan) → Follows on plan → (given : List Row) → Follows on (column_free column plan given)
f_free on column plan follows [] = follows
f_free on column plan follows (row ∷ more) = tt

pub f_no_column : (on : Footing) (rel : Oid) (column : List ℕ) (plan : Plan) → SomeOf (KeepsRows (scans.AttName rel column)) on.locked → Follows on plan → Follows on (without_column rel column plan)
f_no_column on rel column plan some follows = (goes_plain on.locked (scans.AttName rel column) (column_free column plan) (λ row. refl) some, f_free on column plan follows, refl)

-- rows of a descriptor that is open
pub f_reading : (on : Footing) (scan : Purpose) (rest : List Row → Plan) → IsPlain scan → is_of_opened scan on.opened ≡ true → SomeOf (KeepsRows scan) on.locked → ((given : List Row) → Follows (with_rows given on) (rest given)) → Follows on (reading scan rest)
f_reading on scan rest plain of some follows = (goes_plain on.locked scan rest plain some, follows, of)

-- an alteration of a table, after its lookup
pub f_altering : (opens : List OpenRelation) (name : List ℕ) (mode : Mode) (further : Oid → Plan) → ((rel : Oid) → Follows (on_opened rel Table mode) (further rel)) → Follows at_first (looking_up name mode (altering opens name further))
f_altering opens name mode further follows = f_looking at_first name mode (altering opens name further) of
  where
    of : (rel : Oid) (kind : Kind) → Follows (on_found rel kind mode) (altering opens name further rel kind)
    of rel Table = f_passes (on_found rel Table mode) (not (has_open rel opens)) (errors.InUse rel) (opening rel Table (further rel)) (f_opening (on_found rel Table mode) rel Table (further rel) (inl refl) (follows rel))
    of rel Index = tt
