-- A scan that a command's order lets come next is needed: nobody scans again what it may still rely on.
use Rattle.std.proofs.Common.{◌≡◌, ◌⊎◌, inl, inr, ◌∙◌, Bool, true, false, not, Option, Some, None, List, [], ◌∷◌, ◌++◌, ◌||◌, cond, refl, sym, ap, length, take, slice_get}
use Rattle.std.specs.List.{flat_map, list_any}
use Rattle.std.proofs.lemmas.Bool.{or_cases}
use Rattle.std.proofs.lemmas.List.Folds.{list_any-append}
use Rattle.base_types.specs.Scans.{same_scan, build_scans}
use Rattle.base_types.specs.declared.scan.Purpose.TheVariants as scans
use Rattle.base_types.proofs.SameScan.{same_scan-true}
use Rattle.event_kinds.specs.declared.entry.Event.TheVariants as events
use Rattle.ddl_effect.specs.declared.told.Told.TheVariants as tells
use Rattle.ddl_effect.specs.Plans.{Lookup, Open, Search, Read, Lock, Write, Plan, Done, Fails, Absent, Do}
use Rattle.ddl_effect.specs.Commands.{commands_of}
use Rattle.history_model.specs.Drawn.{next_oid}
use Rattle.history_model.specs.Read.{ScansOnlyIfNeeded}
use Rattle.cacheless.specs.Types.{Purpose, Opening, Scenario, Command, Entry, Event}
use Rattle.cacheless.specs.Facts.{Facts, facts_of}
use Rattle.cacheless.specs.Work.{work_of}
use Rattle.cacheless.specs.Owed.{missing, act_next, is_next_in}
use Rattle.cacheless.specs.Plays.{MayPlayIn, MayPlayAt, IsNext}
use Rattle.cacheless.specs.Session.{Session, Outcome, Unsettled, Well, Badly, outcome_of}
use Rattle.cacheless.specs.Sessions.{session_of}
use Rattle.local_caches.specs.Kept.{is_kept}
use Rattle.cacheless.proofs.Reading.{kept_usable}

-- of some scans those that aren't usable are lacked
first_lacked : (facts : Facts) (scan : Purpose) (wanted : List Purpose) → list_any (same_scan scan) (take 1 (missing facts.kept wanted)) ≡ true → is_kept facts.kept scan ≡ false
first_lacked facts scan [] is = absurd (cc is)
first_lacked facts scan (first ∷ wanted) is = by_usable (is_kept facts.kept first) refl is (first_lacked facts scan wanted)
  where
    by_usable : (t : Bool) → is_kept facts.kept first ≡ t → list_any (same_scan scan) (take 1 (cond (not t) (first ∷ missing facts.kept wanted) (missing facts.kept wanted))) ≡ true → (list_any (same_scan scan) (take 1 (missing facts.kept wanted)) ≡ true → is_kept facts.kept scan ≡ false) → is_kept facts.kept scan ≡ false
    by_usable true kept any more = more any
    by_usable false lacked any more = by_same (same_scan scan first) refl any
      where
        by_same : (t : Bool) → same_scan scan first ≡ t → (t || false) ≡ true → is_kept facts.kept scan ≡ false
        by_same true same has = ap (is_kept facts.kept) (same_scan-true scan first same) ∙ lacked
        by_same false other has = absurd (cc has)

each_lacked : (facts : Facts) (scan : Purpose) (opened : List Opening) → list_any (same_scan scan) (flat_map (λ o. take 1 (missing facts.kept (build_scans o.kind o.rel))) opened) ≡ true → is_kept facts.kept scan ≡ false
each_lacked facts scan [] is = absurd (cc is)
each_lacked facts scan (o ∷ opened) is = by_side (each_lacked facts scan opened) (or_cases _ _ (sym (list_any-append (same_scan scan) (take 1 (missing facts.kept (build_scans o.kind o.rel))) (flat_map (λ p. take 1 (missing facts.kept (build_scans p.kind p.rel))) opened)) ∙ is))
  where
    later : Bool
    later = list_any (same_scan scan) (flat_map (λ p. take 1 (missing facts.kept (build_scans p.kind p.rel))) opened)

    by_side : (later ≡ true → is_kept facts.kept scan ≡ false) → (list_any (same_scan scan) (take 1 (missing facts.kept (build_scans o.kind o.rel))) ≡ true) ⊎ (later ≡ true) → is_kept facts.kept scan ≡ false
    by_side more (inl here) = first_lacked facts scan (build_scans o.kind o.rel) here
    by_side more (inr there) = more there

-- and so it is with the scans of the next act
act_lacked : (facts : Facts) (scan : Purpose) (plan : Plan) → list_any (same_scan scan) (act_next facts plan) ≡ true → is_kept facts.kept scan ≡ false
act_lacked facts scan (Do (Lookup name mode) rest) is = first_lacked facts scan (scans.RelName name ∷ []) is
act_lacked facts scan (Do (Search wanted) rest) is = first_lacked facts scan (wanted ∷ []) is
act_lacked facts scan (Do (Open rel kind) rest) is = first_lacked facts scan (build_scans kind rel) is
act_lacked facts scan (Do (Read other) rest) is = absurd (cc is)
act_lacked facts scan (Do (Lock rel mode) rest) is = absurd (cc is)
act_lacked facts scan (Do (Write draft) rest) is = absurd (cc is)
act_lacked facts scan (Done (tells.Regclass oid)) is = first_lacked facts scan (scans.RelOid oid ∷ []) is
act_lacked facts scan (Done told) is = absurd (cc is)
act_lacked facts scan (Fails error) is = absurd (cc is)
act_lacked facts scan (Absent name) is = absurd (cc is)

-- a scan that comes next isn't usable
next_lacked : (facts : Facts) (scan : Purpose) (s : Session) → is_next_in scan facts (work_of s) ≡ true → is_kept facts.kept scan ≡ false
next_lacked facts scan s is = by_outcome (outcome_of s.left) is
  where
    builds : List Purpose
    builds = flat_map (λ (o : Opening). take 1 (missing facts.kept (build_scans o.kind o.rel))) s.opened

    both : list_any (same_scan scan) (builds ++ act_next facts s.left) ≡ true → is_kept facts.kept scan ≡ false
    both any = by_side (or_cases _ _ (sym (list_any-append (same_scan scan) builds (act_next facts s.left)) ∙ any))
      where
        by_side : (list_any (same_scan scan) builds ≡ true) ⊎ (list_any (same_scan scan) (act_next facts s.left) ≡ true) → is_kept facts.kept scan ≡ false
        by_side (inl here) = each_lacked facts scan s.opened here
        by_side (inr there) = act_lacked facts scan s.left there

    by_outcome : (o : Outcome) → list_any (same_scan scan) (elim o as (λ x. List Purpose) [ Badly ↦ [] | other ↦ builds ++ act_next facts s.left ]) ≡ true → is_kept facts.kept scan ≡ false
    by_outcome Unsettled any = both any
    by_outcome Well any = both any
    by_outcome Badly any = absurd (cc any)

-- what may come next is no needless scan
pub plays_needed : (scenario : Scenario) (history : List Entry) (e : Entry) → IsNext scenario history e → ScansOnlyIfNeeded history e.backend e.event
plays_needed scenario history e next = by_session (session_of scenario history e.backend) e.event next.1
  where
    facts : Facts
    facts = facts_of history e.backend

    by_command : (s : Session) (o : Option Command) (event : Event) → MayPlayIn (next_oid history) facts o s event → ScansOnlyIfNeeded history e.backend event
    by_command s None (events.Scan scan count) plays = sym (kept_usable history e.backend scan) ∙ next_lacked facts scan s plays.1
    by_command s (Some command) (events.Scan scan count) plays = sym (kept_usable history e.backend scan) ∙ next_lacked facts scan s plays.1
    by_command s o event plays = tt

    by_session : (o : Option Session) (event : Event) → MayPlayAt scenario history e.backend o e.command event → ScansOnlyIfNeeded history e.backend event
    by_session None (events.Scan scan count) plays = absurd plays
    by_session None event plays = tt
    by_session (Some s) event plays = by_command s (slice_get (commands_of scenario e.backend) (length s.finished)) event plays.1
