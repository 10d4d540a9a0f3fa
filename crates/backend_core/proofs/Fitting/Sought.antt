-- What a look was made for, and the lock that a lookup took.
use Rattle.std.proofs.Common.{◌≡◌, ◌∙◌, ◌==◌, ◌&&◌, ◌||◌, ℕ, Bool, true, false, not, Option, Some, None, List, [], ◌∷◌, ◌++◌, refl, sym, ap, map, is_none, is_some, slice_get, ◌≤◌, arith, cond, subst}
use Rattle.std.specs.List.{find, list_any, AllByRecursion}
use Rattle.std.specs.Option.{option_map_or}
use Rattle.std.proofs.lemmas.Bool.{and_parts, both_ways, eq-eqb, and_from, or_left, or_right, false_from_ne_true}
use Rattle.base_types.specs.Scans.{same_oid, same_scan, is_build_scan, build_scans}
use Rattle.base_types.proofs.SameScan.{same_scan-true}
use Rattle.base_types.specs.declared.kind.Kind.TheVariants.{Table, Index}
use Rattle.base_types.specs.declared.row.Row.TheVariants as rows
use Rattle.base_types.specs.declared.scan.Purpose.TheVariants as scans
use Rattle.ddl_effect.specs.declared.told.Told.TheVariants as tells
use Rattle.lock_modes.specs.Own.{is_own, cleared}
use Rattle.ddl_effect.specs.Plans.{Plan, Act, Done, Fails, Absent, Do, Lookup, Open, Search, Read, Lock, Write}
use Rattle.history_model.proofs.Every.{any-right}
use Rattle.base_types.specs.Modes.{mode_number, same_mode}
use Rattle.cacheless.specs.Facts.{Facts}
use Rattle.cacheless.specs.Session.{outcome_of, is_settled}
use Rattle.cacheless.specs.Owed.{act_owed}
use Rattle.cacheless.specs.Plays.{IsLock}
use Rattle.cacheless.specs.Settled.{class_oid}
use Rattle.cacheless.specs.Holds.{FactsFit}
use Rattle.cacheless.specs.May.{is_missing, is_next_of_act}
use Rattle.cacheless.specs.State.{is_absent, kept_at, is_kept, row_sought}
use Rattle.cacheless.specs.Suspects.{lacks, same_kind}
use Rattle.cacheless.proofs.Same.{builds_of}
use Rattle.cacheless.proofs.Plans.SilentActs.{kept_already}
use Rattle.cacheless.proofs.ReadsBuilds.{ReadsBuilds}
use Rattle.backend_core.specs.Types.{Oid, Mode, Row, Purpose, OwnLock, Opening, Progress, Frame, Kind}
use Rattle.backend_core.specs.Fits.{TakesFit, IsLookedFor, Lacks, Unfound, Said, IsUnheld, lacks_scan, finds_no_name, is_look, came_well}
use Rattle.backend_core.specs.Frames.{IsAmong}
use Rattle.backend_core.proofs.Fitting.Rebuilding.{found_none, usable_is, each_whole}
use Rattle.backend_core.proofs.Stacking.Among.{find_all, found_any, oid_is, oid_apart, IsWitness, any_among}
use Rattle.backend_core.proofs.Stacking.Lacking.{with_scan, scan_apart, lacks_same}
use Rattle.backend_core.proofs.Stacking.Least.{kind_is}
use Rattle.backend_core.proofs.BuildsBegin.{class_scan, AreBegun}
use Rattle.backend_core.specs.Words.{relation_named, is_unfound}
use Rattle.local_caches.specs.Kept.{rows_kept}

-- the first row is no relation's
pub no_class : (given : List Row) → is_none (relation_named (slice_get given 0)) ≡ true → class_oid given ≡ None
no_class [] is = refl
no_class (rows.Class oid name kind fill ∷ more) is = absurd (cc is)
no_class (row ∷ more) is = refl

-- a lock that becomes clear is the same lock
own_cleared : (rel : Oid) (mode : Mode) (number : ℕ) (locks : List OwnLock) → list_any (λ lock. is_own rel mode lock && (lock.command == number)) (map cleared locks) ≡ list_any (λ lock. is_own rel mode lock && (lock.command == number)) locks
own_cleared rel mode number [] = refl
own_cleared rel mode number (lock ∷ locks) = ap (λ t. (is_own rel mode lock && (lock.command == number)) || t) (own_cleared rel mode number locks)

pub takes_cleared : (t : Bool) (number : ℕ) (locks : List OwnLock) (taken : Option Oid) (p : Plan) → TakesFit number locks taken p → TakesFit number (elim t as (λ x. List OwnLock) [ true ↦ locks | false ↦ map cleared locks ]) taken p
takes_cleared true number locks taken p takes = takes
takes_cleared false number locks None p takes = tt
takes_cleared false number locks (Some rel) (Do (Lookup name mode) rest) takes = own_cleared rel mode number locks ∙ takes
takes_cleared false number locks (Some taken) (Do (Lock rel mode) rest) takes = own_cleared rel mode number locks ∙ takes
takes_cleared false number locks (Some rel) (Absent name) takes = takes
takes_cleared false number locks (Some rel) (Do (Open of kind) rest) takes = tt
takes_cleared false number locks (Some rel) (Do (Search scan) rest) takes = tt
takes_cleared false number locks (Some rel) (Do (Read scan) rest) takes = tt
takes_cleared false number locks (Some rel) (Do (Write draft) rest) takes = tt
takes_cleared false number locks (Some rel) (Done told) takes = tt
takes_cleared false number locks (Some rel) (Fails error) takes = tt

-- a look more leaves what one was made for
pub sought_looked : (facts later : Facts) (frames : List Frame) (taken : Option Oid) (p : Plan) → later.kept ≡ facts.kept → is_look later.due ≡ true → IsLookedFor facts frames taken p → IsLookedFor later frames taken p
sought_looked facts later frames taken p kept look (Lacks is) = Lacks (ap (λ k. lacks_scan (record facts { kept = k }) p) kept ∙ is)
sought_looked facts later frames taken p kept look (Unfound is last bare) = Unfound (ap (λ k. finds_no_name (record facts { kept = k }) taken p) kept ∙ is) look bare
sought_looked facts later frames taken p kept look (Said is) = Said is

-- so does one for a rebuild, before which something is rebuilt
pub sought_rebuilt : (facts later : Facts) (frames now : List Frame) (taken : Option Oid) (p : Plan) → later.kept ≡ facts.kept → (frames ≡ [] → ⊥) → IsLookedFor facts frames taken p → IsLookedFor later now taken p
sought_rebuilt facts later frames now taken p kept some (Lacks is) = Lacks (ap (λ k. lacks_scan (record facts { kept = k }) p) kept ∙ is)
sought_rebuilt facts later frames now taken p kept some (Unfound is last bare) = absurd (some bare)
sought_rebuilt facts later frames now taken p kept some (Said is) = Said is

-- a command comes out once
pub well_most : (p : Plan) → came_well p ≤ 1
well_most (Done told) = omega arith
well_most (Fails error) = omega arith
well_most (Absent name) = omega arith
well_most (Do act rest) = omega arith

-- one that hasn't come out hasn't come out well
pub well_settled : (p : Plan) → is_settled (outcome_of p) ≡ false → came_well p ≡ 0
well_settled (Done told) is = absurd (cc is)
well_settled p is = refl

-- nor has one that found no relation
pub well_there : (p : Plan) → is_absent p ≡ true → came_well p ≡ 0
well_there (Absent name) is = refl
well_there p is = absurd (cc is)

-- what the code holds to have found no relation has found none
pub unfound_facts : (facts : Facts) (s : Progress) (p : Plan) → FactsFit facts s → is_unfound s p ≡ true → finds_no_name facts s.taken p ≡ true
unfound_facts facts s (Do (Lookup name mode) rest) fits is =
    let first = and_parts (is_none s.taken && is_kept (kept_at s) (scans.RelName name)) (is_none (relation_named (row_sought s name))) is in
    let second = and_parts (is_none s.taken) (is_kept (kept_at s) (scans.RelName name)) first.0 in
    (λ i. second.0 i && ((ap (λ f. is_kept f.kept (scans.RelName name)) fits) ∙ second.1) i && is_none (relation_named (slice_get (ap (λ f. rows_kept f.kept (scans.RelName name)) fits i) 0))) ∙ first.1
unfound_facts facts s (Do (Open of kind) rest) fits is = absurd (cc is)
unfound_facts facts s (Do (Search scan) rest) fits is = absurd (cc is)
unfound_facts facts s (Do (Read scan) rest) fits is = absurd (cc is)
unfound_facts facts s (Do (Lock of mode) rest) fits is = absurd (cc is)
unfound_facts facts s (Do (Write draft) rest) fits is = absurd (cc is)
unfound_facts facts s p fits is = absurd (cc is)

-- and the other way
pub unfound_held : (facts : Facts) (s : Progress) (p : Plan) → FactsFit facts s → finds_no_name facts s.taken p ≡ true → is_unfound s p ≡ true
unfound_held facts s (Do (Lookup name mode) rest) fits is =
    let first = and_parts (is_none s.taken && is_kept facts.kept (scans.RelName name)) (is_none (relation_named (slice_get (rows_kept facts.kept (scans.RelName name)) 0))) is in
    let second = and_parts (is_none s.taken) (is_kept facts.kept (scans.RelName name)) first.0 in
    let kept = sym ((ap (λ f. is_kept f.kept (scans.RelName name)) fits)) ∙ second.1 in
    (λ i. second.0 i && kept i && is_none (relation_named (slice_get (sym (ap (λ f. rows_kept f.kept (scans.RelName name)) fits) i) 0))) ∙ first.1
unfound_held facts s (Do (Open of kind) rest) fits is = absurd (cc is)
unfound_held facts s (Do (Search scan) rest) fits is = absurd (cc is)
unfound_held facts s (Do (Read scan) rest) fits is = absurd (cc is)
unfound_held facts s (Do (Lock of mode) rest) fits is = absurd (cc is)
unfound_held facts s (Do (Write draft) rest) fits is = absurd (cc is)
unfound_held facts s p fits is = absurd (cc is)

-- a look before the scan of the next act is made for what comes next
pub next_act : (facts : Facts) (s : Progress) (scan : Purpose) → FactsFit facts s → (p : Plan) → is_next_of_act scan (kept_at s) p ≡ true → lacks_scan facts p ≡ true
next_act facts s scan fits p lacking = by_act p lacking
  where
    missing_is : (wanted : Purpose) → is_missing scan (kept_at s) wanted ≡ true → not (is_kept facts.kept wanted) ≡ true
    missing_is wanted lacks_it = ap not ((ap (λ f. is_kept f.kept wanted) fits)) ∙ (and_parts (not (is_kept (kept_at s) wanted)) (same_scan scan wanted) lacks_it).0

    some_first : (o : Option Purpose) → option_map_or (same_scan scan) o false ≡ true → is_some o ≡ true
    some_first None is = absurd (cc is)
    some_first (Some first) is = refl

    by_act : (q : Plan) → is_next_of_act scan (kept_at s) q ≡ true → lacks_scan facts q ≡ true
    by_act (Do (Lookup name mode) rest) is = missing_is (scans.RelName name) is
    by_act (Do (Search wanted) rest) is = missing_is wanted is
    by_act (Do (Open rel kind) rest) is = ap (λ u. lacks u (record { rel = rel; kind = kind })) (usable_is facts s fits) ∙ some_first (find (λ d. not (is_kept (kept_at s) d)) (build_scans kind rel)) is
    by_act (Done (tells.Regclass oid)) is = missing_is (scans.RelOid oid) is
    by_act q is = absurd (cc is)

-- where a relation's row isn't kept, no other scan for its descriptor is
unbegun : (has : Purpose → Bool) (scan : Purpose) → AreBegun has → is_build_scan scan ≡ true → has (class_scan scan) ≡ false → has scan ≡ false
unbegun has scan begun builds lacked = false_from_ne_true (has scan) (λ kept. both_ways _ lacked (begun scan builds kept))

-- where no held descriptor lacks a scan, one that lacks some isn't held
pub unheld_lacking : (has : Purpose → Bool) (held : List Opening) (rel : Oid) (kind : Kind) → list_any (lacks has) held ≡ false → lacks has (record { rel = rel; kind = kind }) ≡ true → list_any (λ o. same_oid rel o.rel && same_kind kind o.kind) held ≡ false
unheld_lacking has held rel kind none lacking = false_from_ne_true _ (λ some. by_one (any_among (λ o. same_oid rel o.rel && same_kind kind o.kind) held some))
  where
    by_one : IsWitness (λ o. same_oid rel o.rel && same_kind kind o.kind) held → ⊥
    by_one w = let same = and_parts (same_oid rel w.one.rel) (same_kind kind w.one.kind) w.is in
        both_ways _ (each_whole has held w.one none w.among) ((λ i. lacks has (record { rel = sym (oid_is rel w.one.rel same.0) i; kind = sym (kind_is kind w.one.kind same.1) i })) ∙ lacking)

-- a scan of one relation's descriptor leaves what another descriptor of it, of the other kind, lacks
other_kind : (has : Purpose → Bool) (scan : Purpose) (rel : Oid) (kind built : Kind) → AreBegun has → same_kind kind built ≡ false → find (λ d. not (has d)) (build_scans built rel) ≡ Some scan
    → lacks has (record { rel = rel; kind = kind }) ≡ true → lacks (with_scan scan has) (record { rel = rel; kind = kind }) ≡ true
other_kind has scan rel Table Table begun differ first lacking = absurd (cc differ)
other_kind has scan rel Index Index begun differ first lacking = absurd (cc differ)
other_kind has scan rel Table Index begun differ first lacking = by_class (has (scans.Class rel)) refl first
  where
    by_class : (t : Bool) → has (scans.Class rel) ≡ t → cond (not t) (Some (scans.Class rel)) (find (λ d. not (has d)) (scans.IndexRow rel ∷ [])) ≡ Some scan → lacks (with_scan scan has) (record { rel = rel; kind = Table }) ≡ true
    by_class true kept is = lacks_same has (with_scan scan has) (record { rel = rel; kind = Table })
        (find_all (λ d. AllByRecursion (λ x. with_scan d has x ≡ has x) (build_scans Table rel)) (λ d. not (has d)) (scans.IndexRow rel ∷ []) scan ((refl, (refl, (refl, (refl, (refl, (refl, tt)))))), tt) is) ∙ lacking
    by_class false lacked is = let it : scans.Class rel ≡ scan = cc is in subst (λ d. lacks (with_scan d has) (record { rel = rel; kind = Table }) ≡ true) it
        (found_any (λ d. not (with_scan (scans.Class rel) has d)) (build_scans Table rel) ∙ or_right (not (with_scan (scans.Class rel) has (scans.Class rel))) _ (or_left (not (has (scans.Attribute rel))) _ (ap not (unbegun has (scans.Attribute rel) begun refl lacked))))
other_kind has scan rel Index Table begun differ first lacking = by_class (has (scans.Class rel)) refl first
  where
    more : List Purpose
    more = scans.Attribute rel ∷ scans.AttrDef rel ∷ scans.Constraint rel ∷ scans.Index rel ∷ scans.Trigger rel ∷ []

    by_class : (t : Bool) → has (scans.Class rel) ≡ t → cond (not t) (Some (scans.Class rel)) (find (λ d. not (has d)) more) ≡ Some scan → lacks (with_scan scan has) (record { rel = rel; kind = Index }) ≡ true
    by_class true kept is = lacks_same has (with_scan scan has) (record { rel = rel; kind = Index })
        (find_all (λ d. AllByRecursion (λ x. with_scan d has x ≡ has x) (build_scans Index rel)) (λ d. not (has d)) more scan ((refl, (refl, tt)), ((refl, (refl, tt)), ((refl, (refl, tt)), ((refl, (refl, tt)), ((refl, (refl, tt)), tt))))) is) ∙ lacking
    by_class false lacked is = let it : scans.Class rel ≡ scan = cc is in subst (λ d. lacks (with_scan d has) (record { rel = rel; kind = Index }) ≡ true) it
        (found_any (λ d. not (with_scan (scans.Class rel) has d)) (build_scans Index rel) ∙ or_right (not (with_scan (scans.Class rel) has (scans.Class rel))) _ (or_left (not (has (scans.IndexRow rel))) _ (ap not (unbegun has (scans.IndexRow rel) begun refl lacked))))

-- a scan for a held descriptor leaves it lacking
pub built_leaves : (facts later : Facts) (scan : Purpose) (held : List Opening) (built : Opening) (p : Plan) → ReadsBuilds p → AreBegun (is_kept facts.kept) → find (λ d. not (is_kept facts.kept d)) (build_scans built.kind built.rel) ≡ Some scan → IsAmong held built → IsUnheld held p → is_kept later.kept ≡ with_scan scan (is_kept facts.kept) → lacks_scan facts p ≡ true → lacks_scan later p ≡ true
built_leaves facts later scan held built p reads begun first among unheld usable = by_plan p reads unheld
  where
    builds : is_build_scan scan ≡ true
    builds = find_all (λ d. is_build_scan d ≡ true) (λ d. not (is_kept facts.kept d)) (build_scans built.kind built.rel) scan (builds_of built.kind built.rel) first

    other_stays : (other : Purpose) → is_build_scan other ≡ false → not (is_kept facts.kept other) ≡ true → not (is_kept later.kept other) ≡ true
    other_stays other named lacks_it = ap not (ap (λ u. u other) usable) ∙ by_same (same_scan scan other) refl
      where
        by_same : (t : Bool) → same_scan scan other ≡ t → not (t || is_kept facts.kept other) ≡ true
        by_same true same = absurd (both_ways _ named (sym (ap is_build_scan (same_scan-true scan other same)) ∙ builds))
        by_same false differs = lacks_it

    opening_stays : (rel : Oid) (kind : Kind) → list_any (λ o. same_oid rel o.rel && same_kind kind o.kind) held ≡ false → lacks (is_kept facts.kept) (record { rel = rel; kind = kind }) ≡ true → lacks (with_scan scan (is_kept facts.kept)) (record { rel = rel; kind = kind }) ≡ true
    opening_stays rel kind none lacks_it = by_same (same_oid rel built.rel) refl
      where
        by_same : (t : Bool) → same_oid rel built.rel ≡ t → lacks (with_scan scan (is_kept facts.kept)) (record { rel = rel; kind = kind }) ≡ true
        by_same false differ = scan_apart (is_kept facts.kept) scan built (record { rel = rel; kind = kind }) first (oid_apart rel built.rel differ) ∙ lacks_it
        by_same true same = other_kind (is_kept facts.kept) scan rel kind built.kind begun
            (false_from_ne_true (same_kind kind built.kind) (λ alike. both_ways _ none (among (λ o. same_oid rel o.rel && same_kind kind o.kind) (and_from (same_oid rel built.rel) (same_kind kind built.kind) same alike))))
            (ap (λ r. find (λ d. not (is_kept facts.kept d)) (build_scans built.kind r)) (oid_is rel built.rel same) ∙ first) lacks_it

    by_plan : (q : Plan) → ReadsBuilds q → IsUnheld held q → lacks_scan facts q ≡ true → lacks_scan later q ≡ true
    by_plan (Do (Lookup name mode) rest) of none lacks_it = other_stays (scans.RelName name) refl lacks_it
    by_plan (Do (Search wanted) rest) of none lacks_it = other_stays wanted of lacks_it
    by_plan (Do (Open rel kind) rest) of none lacks_it = ap (λ u. lacks u (record { rel = rel; kind = kind })) usable ∙ opening_stays rel kind none lacks_it
    by_plan (Done (tells.Regclass oid)) of none lacks_it = other_stays (scans.RelOid oid) refl lacks_it
    by_plan q of none lacks_it = absurd (cc lacks_it)

-- a scan that isn't owed isn't lacked
pub act_serves : (facts : Facts) (act : Act) (rest : List Row → Plan) → act_owed facts (Do act rest) ≡ [] → lacks_scan facts (Do act rest) ≡ false
act_serves facts (Lookup name mode) rest none = ap not (kept_already (is_kept facts.kept (scans.RelName name)) (scans.RelName name) none)
act_serves facts (Search scan) rest none = ap not (kept_already (is_kept facts.kept scan) scan none)
act_serves facts (Open rel kind) rest none = found_none (λ scan. not (is_kept facts.kept scan)) (build_scans kind rel) none
act_serves facts act rest none = refl

-- no look was made where nothing is lacked, no lookup has failed, and none says so
pub no_look : (facts : Facts) (frames : List Frame) (taken : Option Oid) (p : Plan) → lacks_scan facts p ≡ false → finds_no_name facts taken p ≡ false → is_absent p ≡ false → {X : Type 0} → IsLookedFor facts frames taken p → X
no_look facts frames taken p serves found there (Lacks is) = absurd (both_ways _ serves is)
no_look facts frames taken p serves found there (Unfound is look bare) = absurd (both_ways _ found is)
no_look facts frames taken p serves found there (Said is) = absurd (both_ways _ there is)

-- a lookup that asks for a lock has found a relation
pub lock_found : (facts : Facts) (taken : Option Oid) (p : Plan) (rel : Oid) (mode : Mode) → IsLock facts p rel mode → finds_no_name facts taken p ≡ false
lock_found facts taken (Do (Lookup name wanted) rest) rel mode asks = by_test _ refl
  where
    by_test : (t : Bool) → (is_none taken && is_kept facts.kept (scans.RelName name) && is_none (relation_named (slice_get (rows_kept facts.kept (scans.RelName name)) 0))) ≡ t → t ≡ false
    by_test true is = absurd (let both : None ≡ Some rel = sym (no_class (rows_kept facts.kept (scans.RelName name)) (and_parts (is_none taken && is_kept facts.kept (scans.RelName name)) _ is).1) ∙ asks.0 in cc both)
    by_test false is = refl
lock_found facts taken (Do (Lock of wanted) rest) rel mode asks = refl
lock_found facts taken (Do (Open of kind) rest) rel mode asks = absurd asks
lock_found facts taken (Do (Search scan) rest) rel mode asks = absurd asks
lock_found facts taken (Do (Read scan) rest) rel mode asks = absurd asks
lock_found facts taken (Do (Write draft) rest) rel mode asks = absurd asks
lock_found facts taken p rel mode asks = absurd asks

-- the lock that an entry grants is held by a grant of the command
pub takes_granted : (facts : Facts) (number c : ℕ) (locks : List OwnLock) (p : Plan) (rel : Oid) (mode : Mode) → c ≡ number → IsLock facts p rel mode → TakesFit number (locks ++ record { rel = rel; mode = mode; command = c; clear = false } ∷ []) (Some rel) p
takes_granted facts number c locks (Do (Lookup name wanted) rest) rel mode same asks = any-right (λ (lock : OwnLock). is_own rel wanted lock && (lock.command == number)) locks (new ∷ [])
    (ap (λ t. t || false) (and_from (is_own rel wanted new) (c == number) (and_from (rel.0 == rel.0) (same_mode mode wanted) (eq-eqb rel.0 rel.0 refl) (eq-eqb (mode_number mode) (mode_number wanted) (ap mode_number asks.1))) (eq-eqb c number same)))
  where
    new : OwnLock
    new = record { rel = rel; mode = mode; command = c; clear = false }
takes_granted facts number c locks (Do (Lock of wanted) rest) rel mode same asks = any-right (λ (lock : OwnLock). is_own of wanted lock && (lock.command == number)) locks (new ∷ [])
    (ap (λ t. t || false) (and_from (is_own of wanted new) (c == number) (and_from (rel.0 == of.0) (same_mode mode wanted) (eq-eqb rel.0 of.0 (ap (λ (o : Oid). o.0) asks.0)) (eq-eqb (mode_number mode) (mode_number wanted) (ap mode_number asks.1))) (eq-eqb c number same)))
  where
    new : OwnLock
    new = record { rel = rel; mode = mode; command = c; clear = false }
takes_granted facts number c locks (Do (Open of kind) rest) rel mode same asks = absurd asks
takes_granted facts number c locks (Do (Search scan) rest) rel mode same asks = absurd asks
takes_granted facts number c locks (Do (Read scan) rest) rel mode same asks = absurd asks
takes_granted facts number c locks (Do (Write draft) rest) rel mode same asks = absurd asks
takes_granted facts number c locks (Done told) rel mode same asks = absurd asks
takes_granted facts number c locks (Fails error) rel mode same asks = absurd asks
takes_granted facts number c locks (Absent name) rel mode same asks = absurd asks

-- a lookup that took a lock has a relation to give back
pub unlock_found : (facts : Facts) (taken : Option Oid) (p : Plan) (rel : Oid) → taken ≡ Some rel → finds_no_name facts taken p ≡ false
unlock_found facts taken (Do (Lookup name wanted) rest) rel took = ap (λ o. is_none o && is_kept facts.kept (scans.RelName name) && is_none (relation_named (slice_get (rows_kept facts.kept (scans.RelName name)) 0))) took
unlock_found facts taken (Do (Open of kind) rest) rel took = refl
unlock_found facts taken (Do (Search scan) rest) rel took = refl
unlock_found facts taken (Do (Read scan) rest) rel took = refl
unlock_found facts taken (Do (Lock of mode) rest) rel took = refl
unlock_found facts taken (Do (Write draft) rest) rel took = refl
unlock_found facts taken p rel took = refl

-- where a lookup has found no relation its scan isn't lacked
pub finds_serves : (facts : Facts) (taken : Option Oid) (p : Plan) → finds_no_name facts taken p ≡ true → (lacks_scan facts p ≡ false) × (is_absent p ≡ false) × (is_settled (outcome_of p) ≡ false) × (taken ≡ None)
finds_serves facts taken (Do (Lookup name mode) rest) is = let parts = and_parts (is_none taken) (is_kept facts.kept (scans.RelName name)) (and_parts (is_none taken && is_kept facts.kept (scans.RelName name)) _ is).0 in (ap not parts.1, refl, refl, none_of taken parts.0)
  where
    none_of : (o : Option Oid) → is_none o ≡ true → o ≡ None
    none_of None none = refl
    none_of (Some rel) none = absurd (cc none)
finds_serves facts taken (Do (Open of kind) rest) is = absurd (cc is)
finds_serves facts taken (Do (Search scan) rest) is = absurd (cc is)
finds_serves facts taken (Do (Read scan) rest) is = absurd (cc is)
finds_serves facts taken (Do (Lock of mode) rest) is = absurd (cc is)
finds_serves facts taken (Do (Write draft) rest) is = absurd (cc is)
finds_serves facts taken p is = absurd (cc is)
