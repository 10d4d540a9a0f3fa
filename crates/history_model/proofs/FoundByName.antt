-- The rows of a relation that a scan of its name has given are those of now, as long as the scan still serves and all that was changed under ShareUpdateExclusive and AccessExclusive is known.
use Rattle.std.proofs.Common.{◌≡◌, ◌∙◌, ◌+◌, ◌⊎◌, inl, inr, ℕ, suc, arith, Bool, true, false, not, Option, List, [], ◌∷◌, ◌++◌, cond, refl, sym, ap, subst, append-nil, filter, fold}
use Rattle.std.specs.List.{insert, position_or_len}
use Rattle.std.proofs.lemmas.List.{append_assoc}
use Rattle.std.proofs.lemmas.Bool.{eq-eqb}
use Rattle.base_types.specs.declared.ids.Oid.{Oid}
use Rattle.base_types.specs.declared.kind.Kind.{Kind}
use Rattle.base_types.specs.declared.mode.Mode.{Mode}
use Rattle.base_types.specs.declared.mode.Mode.TheVariants.{ShareUpdateExclusive, AccessExclusive}
use Rattle.base_types.specs.declared.row.Row.{Row}
use Rattle.base_types.specs.declared.row.Row.TheVariants as rows
use Rattle.base_types.specs.declared.scan.Purpose.{Purpose}
use Rattle.base_types.specs.declared.scan.Purpose.TheVariants as scans
use Rattle.base_types.specs.Scans.{selects, goes_before, put_in_order, scan_of}
use Rattle.event_kinds.specs.declared.entry.Entry.{Entry}
use Rattle.event_kinds.specs.declared.entry.Event.TheVariants as events
use Rattle.history_model.specs.Versions.{rows_of, answer_of}
use Rattle.history_model.specs.Read.{rows_read, is_usable}
use Rattle.history_model.specs.Sound.{IsSound}
use Rattle.history_model.proofs.Every.{every-weaker, SomeOf, from_some}
use Rattle.history_model.proofs.Touched.{entry_of}
use Rattle.history_model.proofs.InOrder.{IsIn}
use Rattle.history_model.proofs.HeldRows.{changed_under, unheld_visible}
use Rattle.history_model.proofs.WeakChanges.{plain_goes}
use Rattle.history_model.proofs.GivenRows.{given_seen}
use Rattle.history_model.proofs.Observed.{IsReadAs, IsDirty, LeavesRead, observed_as}
use Rattle.history_model.proofs.Locked.{IsSeenAs, seen_alone}

put_last : (before : Row → Bool) → ((x : Row) → before x ≡ false) → (given : List Row) (row : Row) → insert given (position_or_len before given) row ≡ given ++ row ∷ []
put_last before none [] row = refl
put_last before none (x ∷ given) row =
    let more : 1 + position_or_len before given ≡ suc (position_or_len before given) = omega arith in
    ap (λ t. insert (x ∷ given) (cond (not t) (1 + position_or_len before given) 0) row) (none x) ∙ ap (λ n. insert (x ∷ given) n row) more ∙ ap (λ l. x ∷ l) (put_last before none given row)

-- a scan that puts no row before another gives its rows as they are found
pub found_last : (d : Purpose) → ((row x : Row) → goes_before d row x ≡ false) → (given found : List Row) → fold (put_in_order d) given found ≡ given ++ found
found_last d none given [] = sym (append-nil given)
found_last d none given (row ∷ found) =
    ap (λ l. fold (put_in_order d) l found) (put_last (goes_before d row) (none row) given row) ∙ found_last d none (given ++ row ∷ []) found ∙ append_assoc given (row ∷ []) found

named_found : (name : List ℕ) (seen : List Row) → scan_of (scans.RelName name) seen ≡ filter (selects (scans.RelName name)) seen
named_found name seen = found_last (scans.RelName name) (λ row x. refl) [] (filter (selects (scans.RelName name)) seen)

class_found : (rel : Oid) (seen : List Row) → scan_of (scans.Class rel) seen ≡ filter (selects (scans.Class rel)) seen
class_found rel seen = found_last (scans.Class rel) (λ row x. refl) [] (filter (selects (scans.Class rel)) seen)

-- of what a scan of a name gives, the rows of one relation
abbrev pub named_rows : Oid → List Row → List Row
named_rows rel given = filter (selects (scans.Class rel)) given

-- rows that pass two tests
both_tests : (p q : Row → Bool) (seen : List Row) → filter p (filter q seen) ≡ filter q (filter p seen)
both_tests p q [] = refl
both_tests p q (row ∷ seen) = by_tests (q row) refl (p row) refl (both_tests p q seen)
  where
    passes : (test : Row → Bool) (more : List Row) (t : Bool) → test row ≡ t → filter test (row ∷ more) ≡ cond t (row ∷ filter test more) (filter test more)
    passes test more t is = ap (λ u. cond u (row ∷ filter test more) (filter test more)) is

    by_tests : (s : Bool) → q row ≡ s → (t : Bool) → p row ≡ t → filter p (filter q seen) ≡ filter q (filter p seen) → filter p (cond s (row ∷ filter q seen) (filter q seen)) ≡ filter q (cond t (row ∷ filter p seen) (filter p seen))
    by_tests true is true also rest = passes p (filter q seen) true also ∙ ap (λ l. row ∷ l) rest ∙ sym (passes q (filter p seen) true is)
    by_tests true is false also rest = passes p (filter q seen) false also ∙ rest
    by_tests false is true also rest = rest ∙ sym (passes q (filter p seen) false is)
    by_tests false is false also rest = rest

-- they are given by the scan of the relation's own row
named_by_class : (history : List Entry) (b : ℕ) (name : List ℕ) (rel : Oid) → named_rows rel (answer_of history b (scans.RelName name)) ≡ filter (selects (scans.RelName name)) (answer_of history b (scans.Class rel))
named_by_class history b name rel =
    ap (named_rows rel) (named_found name (rows_of history b))
    ∙ both_tests (selects (scans.Class rel)) (selects (scans.RelName name)) (rows_of history b)
    ∙ ap (filter (selects (scans.RelName name))) (sym (class_found rel (rows_of history b)))

-- the modes under which a relation's own row is changed
abbrev pub naming_modes : List Mode
naming_modes = ShareUpdateExclusive ∷ AccessExclusive ∷ []

-- what becomes visible leaves them, where its backend holds none of these modes on the relation
pub named_leaves : (name : List ℕ) (rel : Oid) → LeavesRead (named_rows rel) (scans.RelName name) rel naming_modes
named_leaves name rel = (
  plain_goes (named_rows rel) (scans.RelName name) (λ row. refl),
  λ history a c xid b sound comes other none.
      named_by_class (history ++ entry_of a c (events.Visible xid) ∷ []) b name rel
      ∙ ap (filter (selects (scans.RelName name))) (unheld_visible history a c xid b rel (scans.Class rel) naming_modes sound comes other (changed_under (scans.Class rel) rel refl) none)
      ∙ sym (named_by_class history b name rel),
)

-- so they are those that a scan of the name gave which still serves, or a change under one of these modes may be unknown
pub named_observed : (name : List ℕ) (rel : Oid) (history : List Entry) (b : ℕ) → IsSound history → is_usable history b (scans.RelName name) ≡ true
    → IsReadAs (named_rows rel) (scans.RelName name) history b ⊎ IsDirty history b rel naming_modes (scans.RelName name)
named_observed name rel history b sound is = observed_as (named_rows rel) (scans.RelName name) rel naming_modes (named_leaves name rel) history b sound is

in_named : (rel : Oid) (one : Row) (more found : List Row) → named_rows rel found ≡ one ∷ more → SomeOf (λ row. row ≡ one) found
in_named rel one more [] is = absurd (cc)
in_named rel one more (row ∷ found) is = by_test (selects (scans.Class rel) row) is (in_named rel one more found)
  where
    by_test : (t : Bool) → cond t (row ∷ named_rows rel found) (named_rows rel found) ≡ one ∷ more → (named_rows rel found ≡ one ∷ more → SomeOf (λ r. r ≡ one) found) → SomeOf (λ r. r ≡ one) (row ∷ found)
    by_test true is' rest = (let same : row ≡ one = cc in inl same)
    by_test false is' rest = inr (rest is')

named_first : (rel : Oid) (own : List ℕ) (kind : Kind) (fill : Option ℕ) (more : List Row) → named_rows rel (rows.Class rel own kind fill ∷ more) ≡ rows.Class rel own kind fill ∷ named_rows rel more
named_first rel own kind fill more = ap (λ t. cond t (rows.Class rel own kind fill ∷ named_rows rel more) (named_rows rel more)) (eq-eqb rel.0 rel.0 refl)

-- where the relation's rows are still those that a scan of a name gave, and this was the first, the relation is seen by this row
pub named_seen : (name : List ℕ) (history : List Entry) (b : ℕ) (rel : Oid) (own : List ℕ) (kind : Kind) (fill : Option ℕ) (more : List Row) → IsSound history → IsReadAs (named_rows rel) (scans.RelName name) history b
    → rows_read history b (scans.RelName name) ≡ rows.Class rel own kind fill ∷ more → IsSeenAs history b rel own kind
named_seen name history b rel own kind fill more sound same gave =
    from_some IsRow (IsSeenAs history b rel own kind) (answer_of history b d)
    (every-weaker (λ row. IsIn row (rows_of history b) × (selects d row ≡ true)) (λ row. IsRow row → IsSeenAs history b rel own kind) (λ row there is. seen row there.0 is) (answer_of history b d) (given_seen history b d))
    (in_named rel (rows.Class rel own kind fill) (named_rows rel more) (answer_of history b d) (same ∙ ap (named_rows rel) gave ∙ named_first rel own kind fill more))
  where
    d : Purpose
    d = scans.RelName name

    IsRow : Row → Type 0
    IsRow row = row ≡ rows.Class rel own kind fill

    seen : (row : Row) → IsIn row (rows_of history b) → IsRow row → IsSeenAs history b rel own kind
    seen row there is = (fill, seen_alone history b rel own kind fill sound (subst (λ r. IsIn r (rows_of history b)) is there))
