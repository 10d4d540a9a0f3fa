-- What is known of a plan that comes to a write by the rows of now, under the locks that it takes: part by part of the plan.
use Rattle.std.proofs.Common.{◌≡◌, ℕ, Bool, true, false, Option, Some, None, List, [], ◌∷◌, ◌++◌, refl, sym, ap, not}
use Rattle.std.specs.List.{AllByRecursion}
use Rattle.base_types.specs.declared.kind.Kind.TheVariants.{Table, Index}
use Rattle.base_types.specs.declared.row.Row.TheVariants as rows
use Rattle.base_types.specs.declared.scan.Purpose.TheVariants as scans
use Rattle.command_answers.specs.declared.error.CommandError.TheVariants as errors
use Rattle.lock_modes.specs.Grants.{holds}
use Rattle.ddl_effect.specs.Plans.{Plan, Lookup}
use Rattle.ddl_effect.specs.Effects.{Effect, Writes, effect_at, no_changes}
use Rattle.ddl_effect.specs.Opens.{has_open}
use Rattle.ddl_effect.specs.Parts.{if_passes, found as found_rows, looking_up, opening, writing, if_closed, altering, altering_index, locking_all, reading, column_there, column_free, with_column, without_column}
use Rattle.history_model.specs.Held.{held_of}
use Rattle.history_model.specs.Versions.{rows_of, answer_of}
use Rattle.history_model.proofs.InOrder.{IsIn}
use Rattle.cacheless.specs.ActsDone.{locks_by, IsHeldOn}
use Rattle.cacheless.specs.Facts.{Facts}
use Rattle.cacheless.specs.Types.{Oid, Mode, AccessExclusive, Kind, Row, Purpose, CommandError, OpenRelation, Draft, Entry, Opening}
use Rattle.cacheless.proofs.Plans.MadeAlong.{locks_at, opens_at}
use Rattle.cacheless.proofs.Written.NamesGiven.{AreReadAsNow}
use Rattle.cacheless.proofs.Written.SeenRows.{first_given}
use Rattle.local_caches.specs.Kept.{rows_kept}

-- a backend that is about to write a draft, in a command that has opened these descriptors
pub record Writer : Type 0 where
  pub history : List Entry
  pub backend : ℕ
  pub opened : List Opening
  pub draft : Draft

-- the rows that it would be given now
abbrev pub now_of : Writer → Purpose → List Row
now_of w = answer_of w.history w.backend

-- it holds a mode on a relation
abbrev pub Holds : Writer → Oid → Mode → Type 0
Holds w rel mode = holds (held_of w.history) w.backend rel mode ≡ true

-- it sees a row
abbrev pub Sees : Writer → Row → Type 0
Sees w row = IsIn row (rows_of w.history w.backend)

-- what was read of the relation's own row is what it is now, where so it is of all descriptors that were opened
abbrev pub IsReadAsNow : Writer → Oid → Type 0
IsReadAsNow w rel = (facts : Facts) → AreReadAsNow w.history w.backend facts w.opened → rows_kept facts.kept (scans.Class rel) ≡ now_of w (scans.Class rel)

-- by the rows of now a plan comes to the draft, the locks that it takes are held, and the descriptors that it opens are among those that were opened
pub record ComesTo (w : Writer) (found : List (Option Oid)) (plan : Plan) : Type 0 where
  pub effect : effect_at (now_of w) found plan ≡ Writes w.draft
  pub held : AllByRecursion (IsHeldOn w.history w.backend) (locks_at (now_of w) found plan)
  pub read : (facts : Facts) → AreReadAsNow w.history w.backend facts w.opened → AreReadAsNow w.history w.backend facts (opens_at (now_of w) found plan)

abbrev written_in : Effect → Draft
written_in (Writes draft) = draft
written_in effect = no_changes

-- it writes
pub wrote : (w : Writer) (found : List (Option Oid)) (draft : Draft) → ComesTo w found (writing draft) → w.draft ≡ draft
wrote w found draft c = ap written_in (sym c.effect)

-- a test has passed
pub passed : (w : Writer) (found : List (Option Oid)) (passes : Bool) (error : CommandError) (plan : Plan) → ComesTo w found (if_passes passes error plan) → (passes ≡ true) × ComesTo w found plan
passed w found true error plan c = (refl, c)
passed w found false error plan c = absurd (cc (c.effect))

-- rows were read
pub read_then : (w : Writer) (found : List (Option Oid)) (scan : Purpose) (rest : List Row → Plan) → ComesTo w found (reading scan rest) → ComesTo w found (rest (now_of w scan))
read_then w found scan rest c = record { effect = c.effect; held = c.held; read = c.read }

-- a relation was found, which is seen, and locked
pub record Found (w : Writer) (mode : Mode) (rest : Oid → Kind → Plan) : Type 0 where
  pub rel : Oid
  pub name : List ℕ
  pub kind : Kind
  pub fill : Option ℕ
  pub seen : Sees w (rows.Class rel name kind fill)
  pub has : Holds w rel mode
  pub found : List (Option Oid)
  pub comes : ComesTo w found (rest rel kind)

-- the rows of the relation with which a lookup ended
record Given (w : Writer) (found : List (Option Oid)) (name : List ℕ) (mode : Mode) (rest : Oid → Kind → Plan) (scan : Purpose) (given : List Row) : Type 0 where
  are : now_of w scan ≡ given
  effect : effect_at (now_of w) found (found_rows name rest given) ≡ Writes w.draft
  held : AllByRecursion (IsHeldOn w.history w.backend) (locks_by (Lookup name mode) given ++ locks_at (now_of w) found (found_rows name rest given))
  read : (facts : Facts) → AreReadAsNow w.history w.backend facts w.opened → AreReadAsNow w.history w.backend facts (opens_at (now_of w) found (found_rows name rest given))

by_given : (w : Writer) (found : List (Option Oid)) (name : List ℕ) (mode : Mode) (rest : Oid → Kind → Plan) (scan : Purpose) (given : List Row) → Given w found name mode rest scan given → Found w mode rest
by_given w found name mode rest scan (rows.Class rel own kind fill ∷ more) g = record {
  rel = rel;
  name = own;
  kind = kind;
  fill = fill;
  seen = (first_given w.history w.backend scan (rows.Class rel own kind fill) more g.are).0;
  has = g.held.0;
  found = found;
  comes = record { effect = g.effect; held = g.held.1; read = g.read };
}
by_given w found name mode rest scan given g = absurd (cc (g.effect))

pub relation_found : (w : Writer) (found : List (Option Oid)) (name : List ℕ) (mode : Mode) (rest : Oid → Kind → Plan) → ComesTo w found (looking_up name mode rest) → Found w mode rest
relation_found w [] name mode rest c = by_given w [] name mode rest (scans.RelName name) (now_of w (scans.RelName name)) (record { are = refl; effect = c.effect; held = c.held; read = c.read })
relation_found w (None ∷ found) name mode rest c = absurd (cc (c.effect))
relation_found w (Some rel ∷ found) name mode rest c = by_given w found name mode rest (scans.Class rel) (now_of w (scans.Class rel)) (record { are = refl; effect = c.effect; held = c.held; read = c.read })

-- a relation of this kind is to be altered: besides, its descriptor was opened
pub record Altered (w : Writer) (mode : Mode) (kind : Kind) (rest : Oid → Plan) : Type 0 where
  pub rel : Oid
  pub name : List ℕ
  pub fill : Option ℕ
  pub seen : Sees w (rows.Class rel name kind fill)
  pub has : Holds w rel mode
  pub read : IsReadAsNow w rel
  pub found : List (Option Oid)
  pub comes : ComesTo w found (rest rel)

-- its descriptor was opened
opened_then : (w : Writer) (found : List (Option Oid)) (rel : Oid) (kind : Kind) (plan : Plan) → ComesTo w found (opening rel kind plan) → IsReadAsNow w rel × ComesTo w found plan
opened_then w found rel kind plan c = ((λ facts read. (c.read facts read).0), record { effect = c.effect; held = c.held; read = λ facts read. (c.read facts read).1 })

closed_then : (w : Writer) (found : List (Option Oid)) (opens : List OpenRelation) (rel : Oid) (kind : Kind) (plan : Plan) → ComesTo w found (if_closed opens rel (opening rel kind plan)) → IsReadAsNow w rel × ComesTo w found plan
closed_then w found opens rel kind plan c = opened_then w found rel kind plan (passed w found (not (has_open rel opens)) (errors.InUse rel) (opening rel kind plan) c).1

table_of : (w : Writer) (mode : Mode) (opens : List OpenRelation) (name : List ℕ) (rest : Oid → Plan) (found : List (Option Oid)) (rel : Oid) (own : List ℕ) (kind : Kind) (fill : Option ℕ) → Sees w (rows.Class rel own kind fill) → Holds w rel mode
    → ComesTo w found (altering opens name rest rel kind) → Altered w mode Table rest
table_of w mode opens name rest found rel own Table fill seen has comes =
    let then = closed_then w found opens rel Table (rest rel) comes in
    record { rel = rel; name = own; fill = fill; seen = seen; has = has; read = then.0; found = found; comes = then.1 }
table_of w mode opens name rest found rel own Index fill seen has comes = absurd (cc (comes.effect))

pub table_altered : (w : Writer) (found : List (Option Oid)) (name : List ℕ) (mode : Mode) (opens : List OpenRelation) (rest : Oid → Plan) → ComesTo w found (looking_up name mode (altering opens name rest)) → Altered w mode Table rest
table_altered w found name mode opens rest c =
    let f = relation_found w found name mode (altering opens name rest) c in
    table_of w mode opens name rest f.found f.rel f.name f.kind f.fill f.seen f.has f.comes

index_of_kind : (w : Writer) (mode : Mode) (opens : List OpenRelation) (name : List ℕ) (rest : Oid → Plan) (found : List (Option Oid)) (rel : Oid) (own : List ℕ) (kind : Kind) (fill : Option ℕ) → Sees w (rows.Class rel own kind fill) → Holds w rel mode
    → ComesTo w found (altering_index opens name rest rel kind) → Altered w mode Index rest
index_of_kind w mode opens name rest found rel own Table fill seen has comes = absurd (cc (comes.effect))
index_of_kind w mode opens name rest found rel own Index fill seen has comes =
    let then = closed_then w found opens rel Index (rest rel) comes in
    record { rel = rel; name = own; fill = fill; seen = seen; has = has; read = then.0; found = found; comes = then.1 }

-- the same of an index
pub index_altered : (w : Writer) (found : List (Option Oid)) (name : List ℕ) (mode : Mode) (opens : List OpenRelation) (rest : Oid → Plan) → ComesTo w found (looking_up name mode (altering_index opens name rest)) → Altered w mode Index rest
index_altered w found name mode opens rest c =
    let f = relation_found w found name mode (altering_index opens name rest) c in
    index_of_kind w mode opens name rest f.found f.rel f.name f.kind f.fill f.seen f.has f.comes

-- a column is there
pub record ColumnThere (w : Writer) (found : List (Option Oid)) (rel : Oid) (column : List ℕ) (further : Row → Plan) : Type 0 where
  pub row : Row
  pub more : List Row
  pub there : now_of w (scans.AttName rel column) ≡ row ∷ more
  pub comes : ComesTo w found (further row)

pub column_is_there : (w : Writer) (found : List (Option Oid)) (rel : Oid) (column : List ℕ) (further : Row → Plan) → ComesTo w found (with_column rel column further) → ColumnThere w found rel column further
column_is_there w found rel column further c = by_rows (now_of w (scans.AttName rel column)) refl (record { effect = c.effect; held = c.held; read = c.read })
  where
    by_rows : (given : List Row) → now_of w (scans.AttName rel column) ≡ given → ComesTo w found (column_there column further given) → ColumnThere w found rel column further
    by_rows [] is to = absurd (cc (to.effect))
    by_rows (row ∷ more) is to = record { row = row; more = more; there = is; comes = to }

-- or there is none
pub column_is_free : (w : Writer) (found : List (Option Oid)) (rel : Oid) (column : List ℕ) (plan : Plan) → ComesTo w found (without_column rel column plan) → (now_of w (scans.AttName rel column) ≡ []) × ComesTo w found plan
column_is_free w found rel column plan c = by_rows (now_of w (scans.AttName rel column)) refl (record { effect = c.effect; held = c.held; read = c.read })
  where
    by_rows : (given : List Row) → now_of w (scans.AttName rel column) ≡ given → ComesTo w found (column_free column plan given) → (now_of w (scans.AttName rel column) ≡ []) × ComesTo w found plan
    by_rows [] is to = (is, to)
    by_rows (row ∷ more) is to = absurd (cc (to.effect))

-- further relations were locked, and then it writes
pub all_locked : (w : Writer) (found : List (Option Oid)) (opens : List OpenRelation) (rels : List Oid) (draft : Draft) → ComesTo w found (locking_all opens rels draft) → (w.draft ≡ draft) × AllByRecursion (λ rel. Holds w rel AccessExclusive) rels
all_locked w found opens [] draft c = (wrote w found draft c, tt)
all_locked w found opens (rel ∷ rels) draft c =
    let then = passed w found (not (has_open rel opens)) (errors.InUse rel) (locking_all opens rels draft) (record { effect = c.effect; held = c.held.1; read = c.read }) in
    let rest = all_locked w found opens rels draft then.1 in
    (rest.0, (c.held.0, rest.1))
