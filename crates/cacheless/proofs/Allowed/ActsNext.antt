-- After an allowed history a backend that is in the midst of no commit and no rollback, and whose command owes something or has an act left, has an allowed next entry.
use Rattle.std.proofs.Common.{◌≡◌, ◌∙◌, ◌==◌, ◌&&◌, ◌||◌, ℕ, Bool, true, false, not, Option, Some, None, List, [], ◌∷◌, ◌++◌, cond, refl, sym, ap, subst, map, take, length, slice_get}
use Rattle.std.specs.List.{list_any, flat_map}
use Rattle.std.proofs.lemmas.Bool.{and_parts, and_from, eq-eqb, eqb-true, both_ways}
use Rattle.base_types.specs.Scans.{same_oid, same_scan, build_scans}
use Rattle.base_types.specs.declared.row.Row.TheVariants as rows
use Rattle.base_types.specs.declared.scan.Purpose.TheVariants as scans
use Rattle.base_types.proofs.SameScan.{same_scan-itself, same_scan-true}
use Rattle.lock_modes.specs.Own.{is_own, has_lock}
use Rattle.ddl_effect.specs.Plans.{Act, Lookup, Open, Search, Read, Lock, Write, Plan, Done, Fails, Absent, Do}
use Rattle.ddl_effect.specs.Commands.{plan_of, commands_of}
use Rattle.history_model.specs.Changing.{is_empty}
use Rattle.history_model.proofs.Every.{any-left, any-right, any-weaker}
use Rattle.local_caches.specs.Kept.{Kept, is_kept, rows_kept}
use Rattle.cacheless.specs.Types.{Oid, Mode, Row, Purpose, Opening, Scenario, Command, Entry}
use Rattle.cacheless.specs.ActsDone.{made_in, opening_by}
use Rattle.cacheless.specs.Facts.{Facts, facts_of}
use Rattle.cacheless.specs.OnCourse.{OnItsWay, IsOnCourse, CourseOf}
use Rattle.cacheless.specs.OpenedReads.{is_of_opened}
use Rattle.cacheless.specs.Work.{work_of}
use Rattle.cacheless.specs.Owed.{Owes, OwesScan, missing, builds_missing, owed_first_in, owed_after, act_owed, act_next, scans_owed_in, owed_in, is_next_in}
use Rattle.cacheless.specs.Plays.{IsUnlock}
use Rattle.cacheless.specs.Session.{Session, Outcome, Unsettled, Well, Badly, held_before, number_of, outcome_of, is_settled}
use Rattle.cacheless.specs.Settled.{finds, if_locked, has_taken_no_other, looked_up_in, gives_in}
use Rattle.cacheless.proofs.Allowed.AllowedHistories.{allowed_on_course}
use Rattle.cacheless.proofs.Allowed.AtRest.{IsStuck, WaitsForEntry, WaitsIn, allowed_waits}
use Rattle.cacheless.proofs.Allowed.NextEntries.{HasNext, IsFree, owed_next, lacking_next, asking_next}
use Rattle.cacheless.proofs.Allowed.StartLooks.{begin_next}
use Rattle.cacheless.proofs.Allowed.TakenLocks.{TakesFit, allowed_takes, unlock_next}
use Rattle.cacheless.proofs.Allowed.WriteNext.{write_next}
use Rattle.cacheless.proofs.Plans.SilentActs.{both_empty, its_place, on_its_way}

-- one of these scans is the one
record HasFirst (among : List Purpose) : Type 0 where
  scan : Purpose
  is : list_any (same_scan scan) among ≡ true

first_of_list : (xs : List Purpose) → (xs ≡ [] → ⊥) → HasFirst (take 1 xs)
first_of_list [] some = absurd (some refl)
first_of_list (x ∷ xs) some = record { scan = x; is = ap (λ t. t || false) (same_scan-itself x) }

-- where descriptors lack scans one of them is next
build_first : (kept : Kept) (opened : List Opening) → (builds_missing kept opened ≡ [] → ⊥) → HasFirst (flat_map (λ o. take 1 (missing kept (build_scans o.kind o.rel))) opened)
build_first kept [] some = absurd (some refl)
build_first kept (o ∷ opened) some = by_own (missing kept (build_scans o.kind o.rel)) refl (λ more. build_first kept opened more)
  where
    rest : List Purpose
    rest = flat_map (λ x. take 1 (missing kept (build_scans x.kind x.rel))) opened

    by_own : (own : List Purpose) → missing kept (build_scans o.kind o.rel) ≡ own → ((builds_missing kept opened ≡ [] → ⊥) → HasFirst rest) → HasFirst (take 1 (missing kept (build_scans o.kind o.rel)) ++ rest)
    by_own [] at more = let later = more (λ none. some (ap (λ l. l ++ builds_missing kept opened) at ∙ none)) in record { scan = later.scan; is = any-right (same_scan later.scan) (take 1 (missing kept (build_scans o.kind o.rel))) rest later.is }
    by_own (x ∷ xs) at more = record { scan = x; is = any-left (same_scan x) (take 1 (missing kept (build_scans o.kind o.rel))) rest (ap (λ l. list_any (same_scan x) (take 1 l)) at ∙ ap (λ t. t || false) (same_scan-itself x)) }

-- and where the next act lacks one, unless it reads of a descriptor
act_first : (facts : Facts) (p : Plan) → ((scan : Purpose) (rest : List Row → Plan) → p ≡ Do (Read scan) rest → act_owed facts p ≡ []) → (act_owed facts p ≡ [] → ⊥) → HasFirst (act_next facts p)
act_first facts (Do (Read scan) rest) reads some = absurd (some (reads scan rest refl))
act_first facts (Do (Lookup name mode) rest) reads some = first_of_list (act_owed facts (Do (Lookup name mode) rest)) some
act_first facts (Do (Open rel kind) rest) reads some = first_of_list (act_owed facts (Do (Open rel kind) rest)) some
act_first facts (Do (Search scan) rest) reads some = first_of_list (act_owed facts (Do (Search scan) rest)) some
act_first facts (Do (Lock rel mode) rest) reads some = first_of_list (act_owed facts (Do (Lock rel mode) rest)) some
act_first facts (Do (Write draft) rest) reads some = first_of_list (act_owed facts (Do (Write draft) rest)) some
act_first facts (Done told) reads some = first_of_list (act_owed facts (Done told)) some
act_first facts (Fails error) reads some = first_of_list (act_owed facts (Fails error)) some
act_first facts (Absent name) reads some = first_of_list (act_owed facts (Absent name)) some

-- where scans are owed some scan is next
record HasNextScan (facts : Facts) (s : Session) : Type 0 where
  scan : Purpose
  is : is_next_in scan facts (work_of s) ≡ true

next_scan : (facts : Facts) (s : Session) → ((scan : Purpose) (rest : List Row → Plan) → s.left ≡ Do (Read scan) rest → builds_missing facts.kept s.opened ≡ [] → act_owed facts s.left ≡ []) → (scans_owed_in facts (work_of s) ≡ [] → ⊥) → HasNextScan facts s
next_scan facts s reads some = by_outcome (outcome_of s.left) refl
  where
    builds : List Purpose
    builds = flat_map (λ o. take 1 (missing facts.kept (build_scans o.kind o.rel))) s.opened

    owes_if : Outcome → List Purpose
    owes_if x = elim x as (λ y. List Purpose) [ Badly ↦ [] | other ↦ builds_missing facts.kept s.opened ++ act_owed facts s.left ]

    next_if : Outcome → List Purpose
    next_if x = elim x as (λ y. List Purpose) [ Badly ↦ [] | other ↦ builds ++ act_next facts s.left ]

    goes : (x : Outcome) → outcome_of s.left ≡ x → owes_if x ≡ builds_missing facts.kept s.opened ++ act_owed facts s.left → next_if x ≡ builds ++ act_next facts s.left → HasNextScan facts s
    goes x is owes nexts = by_builds (builds_missing facts.kept s.opened) refl
      where
        later : (scan : Purpose) → list_any (same_scan scan) (builds ++ act_next facts s.left) ≡ true → HasNextScan facts s
        later scan among = record { scan = scan; is = ap (λ o. list_any (same_scan scan) (next_if o)) is ∙ ap (list_any (same_scan scan)) nexts ∙ among }

        by_builds : (l : List Purpose) → builds_missing facts.kept s.opened ≡ l → HasNextScan facts s
        by_builds [] none =
            let first = act_first facts s.left (λ scan rest at. reads scan rest at none) (λ bare. some (ap owes_if is ∙ owes ∙ (λ i. none i ++ bare i))) in
            later first.scan (any-right (same_scan first.scan) builds (act_next facts s.left) first.is)
        by_builds (x' ∷ xs) are =
            let first = build_first facts.kept s.opened (λ none. let no : x' ∷ xs ≡ [] = sym are ∙ none in cc no) in
            later first.scan (any-left (same_scan first.scan) builds (act_next facts s.left) first.is)

    by_outcome : (x : Outcome) → outcome_of s.left ≡ x → HasNextScan facts s
    by_outcome Badly is = absurd (some (ap owes_if is))
    by_outcome Well is = goes Well is refl refl
    by_outcome Unsettled is = goes Unsettled is refl refl

-- a scan of an opened descriptor is kept, where these lack none
kept_among : (kept : Kept) (scan : Purpose) (xs : List Purpose) → list_any (same_scan scan) xs ≡ true → missing kept xs ≡ [] → is_kept kept scan ≡ true
kept_among kept scan [] has none = absurd (cc has)
kept_among kept scan (x ∷ xs) has none = by_kept (is_kept kept x) refl none (same_scan scan x) refl has (λ other fewer. kept_among kept scan xs other fewer)
  where
    by_kept : (t : Bool) → is_kept kept x ≡ t → cond (not t) (x ∷ missing kept xs) (missing kept xs) ≡ [] → (same : Bool) → same_scan scan x ≡ same → (same || list_any (same_scan scan) xs) ≡ true → (list_any (same_scan scan) xs ≡ true → missing kept xs ≡ [] → is_kept kept scan ≡ true) → is_kept kept scan ≡ true
    by_kept false is fewer same at among more = absurd (cc fewer)
    by_kept true is fewer true at among more = ap (is_kept kept) (same_scan-true scan x at) ∙ is
    by_kept true is fewer false at among more = more among fewer

kept_opened : (kept : Kept) (scan : Purpose) (opened : List Opening) → is_of_opened scan opened ≡ true → builds_missing kept opened ≡ [] → is_kept kept scan ≡ true
kept_opened kept scan [] has none = absurd (cc has)
kept_opened kept scan (o ∷ opened) has none = by_own (list_any (same_scan scan) (build_scans o.kind o.rel)) refl has (λ other. kept_opened kept scan opened other both.1)
  where
    both : (missing kept (build_scans o.kind o.rel) ≡ []) × (builds_missing kept opened ≡ [])
    both = both_empty (missing kept (build_scans o.kind o.rel)) (builds_missing kept opened) none

    by_own : (t : Bool) → list_any (same_scan scan) (build_scans o.kind o.rel) ≡ t → (t || is_of_opened scan opened) ≡ true → (is_of_opened scan opened ≡ true → is_kept kept scan ≡ true) → is_kept kept scan ≡ true
    by_own true is among more = kept_among kept scan (build_scans o.kind o.rel) is both.0
    by_own false is among more = more among

-- no scan is owed where none is among what is owed
pub unmapped : (l : List Purpose) → map OwesScan l ≡ [] → l ≡ []
unmapped [] is = refl
unmapped (x ∷ xs) is = absurd (cc is)

module _ (scenario : Scenario) (history : List Entry) (b : ℕ) (s : Session) (command : Command) (free : IsFree scenario history b s) (at : slice_get (commands_of scenario b) (length s.finished) ≡ Some command) where
  abbrev facts : Facts
  facts = facts_of history b

  course : IsOnCourse scenario history b s
  course = subst (CourseOf scenario history b) free.is (allowed_on_course scenario history free.spelled free.allowed b)

  -- its command isn't finished, and stops at its next act
  pub waits : WaitsForEntry facts command s
  waits = subst (WaitsIn scenario b facts) free.is (allowed_waits scenario history b free.spelled free.allowed) command at

  -- what it reads of a descriptor it has, where no descriptor lacks a scan
  reads_kept : (scan : Purpose) (rest : List Row → Plan) → s.left ≡ Do (Read scan) rest → builds_missing facts.kept s.opened ≡ [] → act_owed facts s.left ≡ []
  reads_kept scan rest left builds = ap (act_owed facts) left ∙ ap (λ t. cond (not t) (scan ∷ []) []) (kept_opened facts.kept scan s.opened of_opened builds)
    where
      way : OnItsWay history b s command
      way = on_its_way history b s command (Read scan) rest (course.follows command at) left

      of_opened : is_of_opened scan s.opened ≡ true
      of_opened = ap (is_of_opened scan) way.opened ∙ any-right (λ o. list_any (same_scan scan) (build_scans o.kind o.rel)) (held_before s) (made_in opening_by way.gave (plan_of s.opens command)) (its_place history b s command (Read scan) rest way left).2

  -- what it owes comes next
  pub owing_next : (owed_in facts command (work_of s) ≡ [] → ⊥) → HasNext scenario history b
  owing_next owes = by_due (owed_after facts.due) refl
    where
      by_scans : owed_after facts.due ≡ [] → owed_first_in facts command (work_of s) ≡ [] → (l : List Purpose) → scans_owed_in facts (work_of s) ≡ l → HasNext scenario history b
      by_scans due started [] none = absurd (owes (λ i. started i ++ due i ++ map OwesScan (none i)))
      by_scans due started (x ∷ xs) are = let next = next_scan facts s reads_kept (λ none. let no : x ∷ xs ≡ [] = sym are ∙ none in cc no) in lacking_next scenario history b s command next.scan free at due next.is

      by_start : owed_after facts.due ≡ [] → (l : List Owes) → owed_first_in facts command (work_of s) ≡ l → HasNext scenario history b
      by_start due [] none = by_scans due none (scans_owed_in facts (work_of s)) refl
      by_start due (x ∷ xs) are = begin_next scenario history b s command free at due (ap is_empty are)

      by_due : (l : List Owes) → owed_after facts.due ≡ l → HasNext scenario history b
      by_due [] none = by_start none (owed_first_in facts command (work_of s)) refl
      by_due (x ∷ xs) are = owed_next scenario history b s free.spelled free.number free.allowed free.stopped free.is (λ none. let no : x ∷ xs ≡ [] = sym are ∙ none in cc no)

  -- an act that is left, where nothing is owed
  module _ (act : Act) (rest : List Row → Plan) (none : owed_in facts command (work_of s) ≡ []) (left : s.left ≡ Do act rest) where
    front : (owed_first_in facts command (work_of s) ++ owed_after facts.due ≡ []) × (map OwesScan (scans_owed_in facts (work_of s)) ≡ [])
    front = both_empty (owed_first_in facts command (work_of s) ++ owed_after facts.due) (map OwesScan (scans_owed_in facts (work_of s))) none

    scans_none : builds_missing facts.kept s.opened ++ act_owed facts (Do act rest) ≡ []
    scans_none = sym (ap (λ p. elim (outcome_of p) as (λ x. List Purpose) [ Badly ↦ [] | other ↦ builds_missing facts.kept s.opened ++ act_owed facts p ]) left) ∙ unmapped (scans_owed_in facts (work_of s)) front.1

    gives_none : gives_in facts (work_of s) act ≡ None
    gives_none = sym (ap (λ l. elim (is_empty l) as (λ x. Option (List Row)) [ true ↦ gives_in facts (work_of s) act | false ↦ None ]) scans_none) ∙ subst (IsStuck facts s) left (waits.stuck front.0)

  takes : TakesFit (number_of s) s.locks s.taken s.left
  takes = allowed_takes scenario history b s command free.spelled free.allowed free.is at

  -- what the command took it holds
  held_here : (rel : Oid) (mode : Mode) → list_any (λ lock. is_own rel mode lock && (lock.command == number_of s)) s.locks ≡ true → has_lock s.locks rel mode ≡ true
  held_here rel mode some = any-weaker (λ lock. is_own rel mode lock && (lock.command == number_of s)) (is_own rel mode) (λ lock is. (and_parts (is_own rel mode lock) (lock.command == number_of s) is).0) s.locks some

  -- a lookup with a lock that it has newly taken gives that back
  taken_next : (name : List ℕ) (mode : Mode) (rest : List Row → Plan) (rel : Oid) → owed_in facts command (work_of s) ≡ [] → s.left ≡ Do (Lookup name mode) rest → s.taken ≡ Some rel → HasNext scenario history b
  taken_next name mode rest rel none left took = by_rows (rows_kept facts.kept (scans.RelName name)) refl (gives_none (Lookup name mode) rest none left)
    where
      own : has_lock s.locks rel mode ≡ true
      own = held_here rel mode (subst (TakesFit (number_of s) s.locks (Some rel)) left (subst (λ o. TakesFit (number_of s) s.locks o s.left) took takes))

      unlocks : finds rel (rows_kept facts.kept (scans.RelName name)) ≡ false → HasNext scenario history b
      unlocks other = unlock_next scenario history b s command rel mode free at none (subst (λ p. IsUnlock facts s.taken p rel mode) (sym left) (took, refl, other))

      unlocked : (t : Bool) (given : List Row) → if_locked t given ≡ None → t ≡ false
      unlocked false given is = refl
      unlocked true given is = absurd (cc is)

      by_rows : (given : List Row) → rows_kept facts.kept (scans.RelName name) ≡ given → looked_up_in facts (work_of s) mode (rows_kept facts.kept (scans.RelName name)) ≡ None → HasNext scenario history b
      by_rows (rows.Class oid name' kind fill ∷ more) gave stuck = by_same (same_oid rel oid) refl
        where
          by_same : (t : Bool) → same_oid rel oid ≡ t → HasNext scenario history b
          by_same false differs = unlocks (ap (finds rel) gave ∙ differs)
          by_same true same = absurd (both_ways _ (unlocked _ _ (sym (ap (λ x. looked_up_in facts (work_of s) mode x) gave) ∙ stuck))
              (and_from (has_lock s.locks oid mode) (has_taken_no_other s.taken oid) (ap (λ n. has_lock s.locks (record { 0 = n }) mode) (sym (eqb-true rel.0 oid.0 same)) ∙ own) (ap (λ o. has_taken_no_other o oid) took ∙ eq-eqb oid.0 rel.0 (sym (eqb-true rel.0 oid.0 same)))))
      by_rows [] gave stuck = unlocks (ap (finds rel) gave)
      by_rows (rows.Att of num own' col_type stat live ∷ more) gave stuck = unlocks (ap (finds rel) gave)
      by_rows (rows.Def oid of num word ∷ more) gave stuck = unlocks (ap (finds rel) gave)
      by_rows (rows.Ind index table state nums ∷ more) gave stuck = unlocks (ap (finds rel) gave)
      by_rows (rows.Con oid of own' valid what ∷ more) gave stuck = unlocks (ap (finds rel) gave)
      by_rows (rows.Trg oid of own' on ∷ more) gave stuck = unlocks (ap (finds rel) gave)

  -- an act that is left is asked for, or made, or what it has taken is given back
  pub acting_next : (act : Act) (rest : List Row → Plan) → owed_in facts command (work_of s) ≡ [] → s.left ≡ Do act rest → HasNext scenario history b
  acting_next (Lookup name mode) rest none left = by_taken s.taken refl
    where
      by_taken : (o : Option Oid) → s.taken ≡ o → HasNext scenario history b
      by_taken None untaken = asking_next scenario history b s command (Lookup name mode) rest free at none left tt untaken (gives_none (Lookup name mode) rest none left)
      by_taken (Some rel) took = taken_next name mode rest rel none left took
  acting_next (Lock rel mode) rest none left = by_taken s.taken refl
    where
      by_taken : (o : Option Oid) → s.taken ≡ o → HasNext scenario history b
      by_taken None untaken = asking_next scenario history b s command (Lock rel mode) rest free at none left tt untaken (gives_none (Lock rel mode) rest none left)
      by_taken (Some taken) took = absurd (let no : Some [] ≡ None = sym (ap (λ t. if_locked t []) (held_here rel mode (subst (TakesFit (number_of s) s.locks (Some taken)) left (subst (λ o. TakesFit (number_of s) s.locks o s.left) took takes)))) ∙ gives_none (Lock rel mode) rest none left in cc no)
  acting_next (Write draft) rest none left = write_next scenario history b s command draft rest free at none left
  acting_next (Open rel kind) rest none left = absurd (cc (gives_none (Open rel kind) rest none left))
  acting_next (Search scan) rest none left = absurd (cc (gives_none (Search scan) rest none left))
  acting_next (Read scan) rest none left = absurd (cc (gives_none (Read scan) rest none left))

  -- so a command that hasn't come out goes on
  pub unsettled_next : is_settled (outcome_of s.left) ≡ false → HasNext scenario history b
  unsettled_next going = by_owed (owed_in facts command (work_of s)) refl
    where
      by_plan : (p : Plan) → s.left ≡ p → owed_in facts command (work_of s) ≡ [] → HasNext scenario history b
      by_plan (Do act rest) left none = acting_next act rest none left
      by_plan (Done told) left none = absurd (both_ways _ going (ap (λ p. is_settled (outcome_of p)) left))
      by_plan (Fails error) left none = absurd (both_ways _ going (ap (λ p. is_settled (outcome_of p)) left))
      by_plan (Absent name) left none = absurd (both_ways _ going (ap (λ p. is_settled (outcome_of p)) left))

      by_owed : (l : List Owes) → owed_in facts command (work_of s) ≡ l → HasNext scenario history b
      by_owed [] none = by_plan s.left refl none
      by_owed (x ∷ xs) are = owing_next (λ none. let no : x ∷ xs ≡ [] = sym are ∙ none in cc no)
