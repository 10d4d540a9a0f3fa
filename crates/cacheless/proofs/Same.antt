-- What the code works out of what it holds is what the definitions work out of the facts.
use Rattle.std.proofs.Common.{◌≡◌, ◌+◌, ◌*◌, ◌∙◌, ◌&&◌, ◌||◌, ℕ, Bool, true, false, not, Option, Some, None, List, [], ◌∷◌, ◌++◌, refl, sym, ap, map, filter, is_some, length, cond, nat_le}
use Rattle.std.specs.Option.{option_map_or}
use Rattle.std.specs.List.{find, list_any, flat_map, AllByRecursion}
use Rattle.std.proofs.Common.{take}
use Rattle.std.proofs.Math.Bool.{or-false}
use Rattle.std.proofs.lemmas.List.Folds.{list_any-append}
use Rattle.base_types.specs.Scans.{same_scan, build_scans, is_build_scan}
use Rattle.base_types.specs.declared.kind.Kind.TheVariants.{Table, Index}
use Rattle.base_types.specs.declared.scan.Purpose.TheVariants as scans
use Rattle.ddl_effect.specs.declared.told.Told.TheVariants as tells
use Rattle.ddl_effect.specs.Plans.{Plan, Done, Do, Lookup, Open, Search, Read, Lock, Write}
use Rattle.ddl_effect.specs.Stages.{plan_at}
use Rattle.history_model.specs.Changing.{is_empty}
use Rattle.cacheless.specs.declared.progress.Due.{Due}
use Rattle.cacheless.specs.declared.progress.Due.TheVariants as dues
use Rattle.cacheless.specs.Facts.{Facts}
use Rattle.cacheless.specs.Session.{Outcome, Unsettled, Well, Badly, outcome_of}
use Rattle.cacheless.specs.Owed.{OwesScan, owed_first_in, owed_after, builds_missing, scans_owed_in, owed_in, act_next, is_next_in, counts_full, accepts_in}
use Rattle.cacheless.specs.Work.{work_of}
use Rattle.cacheless.specs.Rule.{may_look_in}
use Rattle.cacheless.specs.Plays.{may_look_in}
use Rattle.cacheless.specs.Types.{Kind, Oid, Command, Purpose, Opening}
use Rattle.cacheless.specs.declared.progress.Progress.{Progress}
use Rattle.cacheless.specs.State.{facts_at, work_at, Kept, kept_at, is_kept, missing, builds_missing, act_missing, scans_missing, lacks_builds, is_full, is_in_accept, owed_first, owes_nothing, Rest, session_at}
use Rattle.cacheless.specs.May.{is_first_missing, is_missing, is_next_of_act, has_failed, lacks_opened, lacks_to_build, lacks_any}
use Rattle.cacheless.specs.Holds.{FactsFit}
use Rattle.cacheless.proofs.ReadsBuilds.{ReadsBuilds, stage_reads}

-- a look may come where no fetch is due and the bound is kept, as the code tests it
pub look_is : (s : Progress) → (s.due ≡ dues.Fetch → ⊥) → nat_le (s.tally.looks + 1) (s.tally.scans + s.tally.grants + s.tally.unlocks + 2 * s.tally.fetches + 3) ≡ may_look_in (facts_at s) (work_at s)
look_is s other = by_due s.due other
  where
    by_due : (due : Due) → (due ≡ dues.Fetch → ⊥) → nat_le (s.tally.looks + 1) (s.tally.scans + s.tally.grants + s.tally.unlocks + 2 * s.tally.fetches + 3) ≡ may_look_in (record (facts_at s) { due = due }) (work_at s)
    by_due dues.Nothing never = refl
    by_due dues.Quiet never = refl
    by_due (dues.Gone from) never = refl
    by_due dues.Look never = refl
    by_due dues.Fetch never = absurd (never refl)

-- what of its session decides is what the code holds, but for the number of its command
pub work_same : (s : Progress) (rest : Rest) → length rest.finished ≡ s.finished → work_of (session_at s rest) ≡ work_at s
work_same s rest count = ap (λ n. record (work_at s) { number = n + 1 }) count

-- what the definitions work out of the facts and the session is what they work out of that
pub start_owed : (facts : Facts) (command : Command) (s : Progress) (rest : Rest) → FactsFit facts s → owed_first_in facts command (work_of (session_at s rest)) ≡ owed_first s command
start_owed facts command s rest fits = ap (λ f. owed_first_in f command (work_of (session_at s rest))) fits

pub look_same : (facts : Facts) (s : Progress) (rest : Rest) → FactsFit facts s → may_look_in facts (work_of (session_at s rest)) ≡ may_look_in (facts_at s) (work_at s)
look_same facts s rest fits = ap (λ f. may_look_in f (work_of (session_at s rest))) fits

pub builds_same : (facts : Facts) (s : Progress) → FactsFit facts s → builds_missing facts.kept s.opened ≡ builds_missing (kept_at s) s.opened
builds_same facts s fits = ap (λ f. builds_missing f.kept s.opened) fits

pub scans_same : (facts : Facts) (s : Progress) (rest : Rest) → FactsFit facts s → scans_owed_in facts (work_of (session_at s rest)) ≡ scans_missing s
scans_same facts s rest fits = ap (λ f. scans_owed_in f (work_of (session_at s rest))) fits

pub next_same : (facts : Facts) (s : Progress) (rest : Rest) (scan : Purpose) → FactsFit facts s → is_next_in scan facts (work_of (session_at s rest)) ≡ is_next_in scan (facts_at s) (work_at s)
next_same facts s rest scan fits = ap (λ f. is_next_in scan f (work_of (session_at s rest))) fits

pub owes_nothing_is : (facts : Facts) (command : Command) (s : Progress) (rest : Rest) → FactsFit facts s → is_empty (owed_in facts command (work_of (session_at s rest))) ≡ owes_nothing command s
owes_nothing_is facts command s rest fits = ap (λ f. is_empty (owed_in f command (work_of (session_at s rest)))) fits

pub accept_same : (facts : Facts) (o : Option Command) (s : Progress) (rest : Rest) → FactsFit facts s → accepts_in facts (work_of (session_at s rest)) o ≡ is_in_accept s o
accept_same facts None s rest fits = ap (λ f. accepts_in f (work_of (session_at s rest)) None) fits
accept_same facts (Some command) s rest fits = ap (λ f. accepts_in f (work_of (session_at s rest)) (Some command)) fits

pub full_same : (facts : Facts) (count : ℕ) (s : Progress) (rest : Rest) → FactsFit facts s → counts_full count facts (work_of (session_at s rest)) ≡ is_full count s
full_same facts count s rest fits = ap (λ f. counts_full count f (work_of (session_at s rest))) fits

-- the first of the scans that pass
any_first : (scan : Purpose) (p : Purpose → Bool) (l : List Purpose) → list_any (same_scan scan) (take 1 (filter p l)) ≡ option_map_or (same_scan scan) (find p l) false
any_first scan p [] = refl
any_first scan p (x ∷ l) = by_test (any_first scan p l) (p x)
  where
    by_test : list_any (same_scan scan) (take 1 (filter p l)) ≡ option_map_or (same_scan scan) (find p l) false → (t : Bool) → list_any (same_scan scan) (take 1 (cond t (x ∷ filter p l) (filter p l))) ≡ option_map_or (same_scan scan) (cond t (Some x) (find p l)) false
    by_test more true = or-false (same_scan scan x)
    by_test more false = more

opened_first : (kept : Kept) (scan : Purpose) (opened : List Opening)
    → list_any (same_scan scan) (flat_map (λ o. take 1 (missing kept (build_scans o.kind o.rel))) opened) ≡ list_any (λ o. is_first_missing scan kept o.kind o.rel) opened
opened_first kept scan [] = refl
opened_first kept scan (o ∷ opened) =
    list_any-append (same_scan scan) (take 1 (missing kept (build_scans o.kind o.rel))) (flat_map (λ p. take 1 (missing kept (build_scans p.kind p.rel))) opened)
    ∙ ap (λ t. t || list_any (same_scan scan) (flat_map (λ p. take 1 (missing kept (build_scans p.kind p.rel))) opened)) (any_first scan (λ d. not (is_kept kept d)) (build_scans o.kind o.rel))
    ∙ ap (λ t. is_first_missing scan kept o.kind o.rel || t) (opened_first kept scan opened)

-- a scan of a catalog cache is the first that is lacked
one_first : (kept : Kept) (scan wanted : Purpose) → list_any (same_scan scan) (take 1 (missing kept (wanted ∷ []))) ≡ is_missing scan kept wanted
one_first kept scan wanted = any_first scan (λ d. not (is_kept kept d)) (wanted ∷ []) ∙ by_test (is_kept kept wanted)
  where
    by_test : (t : Bool) → option_map_or (same_scan scan) (cond (not t) (Some wanted) None) false ≡ (not t && same_scan scan wanted)
    by_test true = refl
    by_test false = refl

act_first : (facts : Facts) (scan : Purpose) (p : Plan) → list_any (same_scan scan) (act_next facts p) ≡ is_next_of_act scan facts.kept p
act_first facts scan (Do (Lookup name mode) rest) = one_first facts.kept scan (scans.RelName name)
act_first facts scan (Do (Search wanted) rest) = one_first facts.kept scan wanted
act_first facts scan (Do (Open rel kind) rest) = any_first scan (λ d. not (is_kept facts.kept d)) (build_scans kind rel)
act_first facts scan (Do (Read d) rest) = refl
act_first facts scan (Do (Lock rel mode) rest) = refl
act_first facts scan (Do (Write draft) rest) = refl
act_first facts scan (Done (tells.Regclass oid)) = one_first facts.kept scan (scans.RelOid oid)
act_first facts scan p = refl

-- the scan may be made now, as the code tests it
pub next_is : (scan : Purpose) (s : Progress) → (not (has_failed s) && (list_any (λ p. is_first_missing scan (kept_at s) p.kind p.rel) s.opened || is_next_of_act scan (kept_at s) (plan_at s.opens s.exec))) ≡ is_next_in scan (facts_at s) (work_at s)
next_is scan s = sym (by_outcome (outcome_of (plan_at s.opens s.exec)))
  where
    builds : List Purpose
    builds = flat_map (λ o. take 1 (missing (kept_at s) (build_scans o.kind o.rel))) s.opened

    acts : List Purpose
    acts = act_next (facts_at s) (plan_at s.opens s.exec)

    both : list_any (same_scan scan) (builds ++ acts) ≡ (list_any (λ o. is_first_missing scan (kept_at s) o.kind o.rel) s.opened || is_next_of_act scan (kept_at s) (plan_at s.opens s.exec))
    both = list_any-append (same_scan scan) builds acts ∙ ap (λ t. t || list_any (same_scan scan) acts) (opened_first (kept_at s) scan s.opened)
        ∙ ap (λ t. list_any (λ o. is_first_missing scan (kept_at s) o.kind o.rel) s.opened || t) (act_first (facts_at s) scan (plan_at s.opens s.exec))

    by_outcome : (o : Outcome) → list_any (same_scan scan) (elim o as (λ x. List Purpose) [ Badly ↦ [] | other ↦ builds ++ acts ])
        ≡ (not (elim o as (λ x. Bool) [ Badly ↦ true | other ↦ false ]) && (list_any (λ p. is_first_missing scan (kept_at s) p.kind p.rel) s.opened || is_next_of_act scan (kept_at s) (plan_at s.opens s.exec)))
    by_outcome Unsettled = both
    by_outcome Well = both
    by_outcome Badly = refl

pub empty_append : {X : Type 0} (xs ys : List X) → is_empty (xs ++ ys) ≡ (is_empty xs && is_empty ys)
empty_append [] ys = refl
empty_append (x ∷ xs) ys = refl

pub empty_map : {X Y : Type 0} (f : X → Y) (xs : List X) → is_empty (map f xs) ≡ is_empty xs
empty_map f [] = refl
empty_map f (x ∷ xs) = refl

some_found : (p : Purpose → Bool) (l : List Purpose) → is_some (find p l) ≡ not (is_empty (filter p l))
some_found p [] = refl
some_found p (x ∷ l) = by_test (some_found p l) (p x)
  where
    by_test : is_some (find p l) ≡ not (is_empty (filter p l)) → (t : Bool) → is_some (cond t (Some x) (find p l)) ≡ not (is_empty (cond t (x ∷ filter p l) (filter p l)))
    by_test more true = refl
    by_test more false = more

-- the test of the opened descriptors
pub lacks_opened_is : (kept : Kept) (opened : List Opening) → lacks_opened kept opened ≡ not (is_empty (builds_missing kept opened))
lacks_opened_is kept [] = refl
lacks_opened_is kept (o ∷ opened) =
    by_test (is_some (find p (build_scans o.kind o.rel)))
    ∙ ap (λ t. t || lacks_opened kept opened) (some_found p (build_scans o.kind o.rel))
    ∙ ap (λ t. not (is_empty (missing kept (build_scans o.kind o.rel))) || t) (lacks_opened_is kept opened)
    ∙ apart (is_empty (missing kept (build_scans o.kind o.rel))) (is_empty (builds_missing kept opened))
    ∙ ap not (sym (empty_append (missing kept (build_scans o.kind o.rel)) (builds_missing kept opened)))
  where
    p : Purpose → Bool
    p = λ scan. not (is_kept kept scan)

    by_test : (t : Bool) → is_some (cond t (Some o) (find (λ q. is_some (find p (build_scans q.kind q.rel))) opened)) ≡ (t || lacks_opened kept opened)
    by_test true = refl
    by_test false = refl

    apart : (a b : Bool) → (not a || not b) ≡ not (a && b)
    apart true b = refl
    apart false b = refl

-- no scan is missing
pub lacks_any_is : (s : Progress) → not (lacks_any s) ≡ is_empty (scans_missing s)
lacks_any_is s = ap (λ t. not (not (has_failed s) && (t || not (is_empty (act_missing s (plan_at s.opens s.exec)))))) (lacks_opened_is (kept_at s) s.opened) ∙ by_outcome (outcome_of (plan_at s.opens s.exec))
  where
    builds : List Purpose
    builds = builds_missing (kept_at s) s.opened

    acts : List Purpose
    acts = act_missing s (plan_at s.opens s.exec)

    apart : (a b : Bool) → not (not a || not b) ≡ (a && b)
    apart true true = refl
    apart true false = refl
    apart false b = refl

    by_outcome : (o : Outcome) → not (not (elim o as (λ x. Bool) [ Badly ↦ true | other ↦ false ]) && (not (is_empty builds) || not (is_empty acts))) ≡ is_empty (elim o as (λ x. List Purpose) [ Badly ↦ [] | other ↦ builds ++ acts ])
    by_outcome Unsettled = apart (is_empty builds) (is_empty acts) ∙ sym (empty_append builds acts)
    by_outcome Well = apart (is_empty builds) (is_empty acts) ∙ sym (empty_append builds acts)
    by_outcome Badly = refl

-- nothing is owed, as the code tests it
pub free_is : (command : Command) (s : Progress) → (is_empty (owed_first s command) && is_empty (owed_after s.due) && not (lacks_any s)) ≡ owes_nothing command s
free_is command s =
    ap (λ t. is_empty (owed_first s command) && is_empty (owed_after s.due) && t) (lacks_any_is s ∙ sym (empty_map OwesScan (scans_missing s)))
    ∙ ap (λ t. t && is_empty (map OwesScan (scans_missing s))) (sym (empty_append (owed_first s command) (owed_after s.due)))
    ∙ sym (empty_append (owed_first s command ++ owed_after s.due) (map OwesScan (scans_missing s)))

-- the test of the opened descriptors, where the command hasn't failed
pub lacks_builds_is : (s : Progress) → (not (has_failed s) && lacks_opened (kept_at s) s.opened) ≡ lacks_builds s
lacks_builds_is s = ap (λ t. not (has_failed s) && t) (lacks_opened_is (kept_at s) s.opened) ∙ by_outcome (outcome_of (plan_at s.opens s.exec))
  where
    by_outcome : (o : Outcome) → (not (elim o as (λ x. Bool) [ Badly ↦ true | other ↦ false ]) && not (is_empty (builds_missing (kept_at s) s.opened))) ≡ elim o as (λ x. Bool) [ Badly ↦ false | other ↦ not (is_empty (builds_missing (kept_at s) s.opened)) ]
    by_outcome Unsettled = refl
    by_outcome Well = refl
    by_outcome Badly = refl

-- an accept of messages isn't over, as the code tests it
pub accepting_is : (command : Command) (s : Progress) → (not (is_empty (owed_first s command)) || not (is_empty (owed_after s.due)) || lacks_builds s) ≡ is_in_accept s (Some command)
accepting_is command s = sym (ap (λ t. not t || lacks_builds s) (empty_append (owed_first s command) (owed_after s.due)) ∙ apart (is_empty (owed_first s command)) (is_empty (owed_after s.due)) (lacks_builds s))
  where
    apart : (a b c : Bool) → (not (a && b) || c) ≡ (not a || not b || c)
    apart true b c = refl
    apart false b c = refl

-- of scans for descriptors one passes a test
any_found : (p : Purpose → Bool) (l : List Purpose) → AllByRecursion (λ d. is_build_scan d ≡ true) l → list_any is_build_scan (filter p l) ≡ is_some (find p l)
any_found p [] builds = refl
any_found p (x ∷ l) builds = by_test (any_found p l builds.1) (p x)
  where
    by_test : list_any is_build_scan (filter p l) ≡ is_some (find p l) → (t : Bool) → list_any is_build_scan (cond t (x ∷ filter p l) (filter p l)) ≡ is_some (cond t (Some x) (find p l))
    by_test more true = ap (λ t. t || list_any is_build_scan (filter p l)) builds.0
    by_test more false = more

pub builds_of : (kind : Kind) (rel : Oid) → AllByRecursion (λ d. is_build_scan d ≡ true) (build_scans kind rel)
builds_of Table rel = (refl, (refl, (refl, (refl, (refl, (refl, tt))))))
builds_of Index rel = (refl, (refl, tt))

opened_any : (kept : Kept) (opened : List Opening) → list_any is_build_scan (builds_missing kept opened) ≡ lacks_opened kept opened
opened_any kept [] = refl
opened_any kept (o ∷ opened) =
    list_any-append is_build_scan (missing kept (build_scans o.kind o.rel)) (builds_missing kept opened)
    ∙ ap (λ t. t || list_any is_build_scan (builds_missing kept opened)) (any_found p (build_scans o.kind o.rel) (builds_of o.kind o.rel))
    ∙ ap (λ t. is_some (find p (build_scans o.kind o.rel)) || t) (opened_any kept opened)
    ∙ by_test (is_some (find p (build_scans o.kind o.rel)))
  where
    p : Purpose → Bool
    p = λ scan. not (is_kept kept scan)

    by_test : (t : Bool) → (t || lacks_opened kept opened) ≡ is_some (cond t (Some o) (find (λ q. is_some (find p (build_scans q.kind q.rel))) opened))
    by_test true = refl
    by_test false = refl

no_build : (kept : Kept) (scan : Purpose) → is_build_scan scan ≡ false → list_any is_build_scan (missing kept (scan ∷ [])) ≡ false
no_build kept scan other = by_test (is_kept kept scan)
  where
    by_test : (t : Bool) → list_any is_build_scan (cond (not t) (scan ∷ []) []) ≡ false
    by_test true = refl
    by_test false = ap (λ t. t || false) other

act_any : (s : Progress) (p : Plan) → ReadsBuilds p → list_any is_build_scan (act_missing s p) ≡ lacks_to_build (kept_at s) p
act_any s (Do (Lookup name mode) rest) reads = no_build (kept_at s) (scans.RelName name) refl
act_any s (Do (Search scan) rest) reads = no_build (kept_at s) scan reads
act_any s (Do (Open rel kind) rest) reads = any_found (λ scan. not (is_kept (kept_at s) scan)) (build_scans kind rel) (builds_of kind rel)
act_any s (Do (Read scan) rest) reads = by_test (is_kept (kept_at s) scan)
  where
    by_test : (t : Bool) → list_any is_build_scan (cond (not t) (scan ∷ []) []) ≡ not t
    by_test true = refl
    by_test false = ap (λ t. t || false) reads
act_any s (Do (Lock rel mode) rest) reads = refl
act_any s (Do (Write draft) rest) reads = refl
act_any s (Done (tells.Regclass oid)) reads = no_build (kept_at s) (scans.RelOid oid) refl
act_any s p reads = refl

-- the test whether a scan for a descriptor is missing
pub lacks_build_scan_is : (s : Progress) → (not (has_failed s) && (lacks_opened (kept_at s) s.opened || lacks_to_build (kept_at s) (plan_at s.opens s.exec))) ≡ list_any is_build_scan (scans_missing s)
lacks_build_scan_is s = by_outcome (outcome_of (plan_at s.opens s.exec))
  where
    both : (lacks_opened (kept_at s) s.opened || lacks_to_build (kept_at s) (plan_at s.opens s.exec)) ≡ list_any is_build_scan (builds_missing (kept_at s) s.opened ++ act_missing s (plan_at s.opens s.exec))
    both = ap (λ t. t || lacks_to_build (kept_at s) (plan_at s.opens s.exec)) (sym (opened_any (kept_at s) s.opened)) ∙ ap (λ t. list_any is_build_scan (builds_missing (kept_at s) s.opened) || t) (sym (act_any s (plan_at s.opens s.exec) (stage_reads s.opens s.exec)))
        ∙ sym (list_any-append is_build_scan (builds_missing (kept_at s) s.opened) (act_missing s (plan_at s.opens s.exec)))

    by_outcome : (o : Outcome) → (not (elim o as (λ x. Bool) [ Badly ↦ true | other ↦ false ]) && (lacks_opened (kept_at s) s.opened || lacks_to_build (kept_at s) (plan_at s.opens s.exec))) ≡ list_any is_build_scan (elim o as (λ x. List Purpose) [ Badly ↦ [] | other ↦ builds_missing (kept_at s) s.opened ++ act_missing s (plan_at s.opens s.exec) ])
    by_outcome Unsettled = both
    by_outcome Well = both
    by_outcome Badly = refl
