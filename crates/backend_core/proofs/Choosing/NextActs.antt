-- What comes next of a command's acts, and of its end.
use Rattle.std.proofs.Common.{◌≡◌, ◌∙◌, inl, ℕ, Bool, true, false, not, ◌&&◌, ◌||◌, Option, Some, None, List, [], ◌∷◌, cond, refl, sym, ap, subst, filter, is_some, is_none, ◌==◌, ◌+◌}
use Rattle.std.specs.List.{cons_option, find, list_any}
use Rattle.std.specs.Option.{option_map_or}
use Rattle.std.proofs.Math.Bool.{or-true}
use Rattle.std.proofs.lemmas.Bool.{both_ways, eq-eqb, eqb-true, and_parts}
use Rattle.base_types.specs.Scans.{same_oid, same_scan, build_scans}
use Rattle.base_types.specs.Modes.{mode_number, same_mode}
use Rattle.base_types.specs.declared.row.Row.TheVariants as rows
use Rattle.base_types.specs.declared.scan.Purpose.TheVariants as scans
use Rattle.base_types.proofs.SameScan.{same_scan-itself}
use Rattle.lock_modes.specs.Own.{has_lock, is_own}
use Rattle.ddl_effect.specs.Plans.{Plan, Act, Done, Fails, Absent, Do, Lookup, Open, Search, Read, Lock, Write, told_rests_on}
use Rattle.ddl_effect.specs.Stages.{plan_at, want_of_act, want_of}
use Rattle.ddl_effect.specs.declared.want.Want.{Want}
use Rattle.ddl_effect.specs.declared.want.Want.TheVariants as wants
use Rattle.history_model.specs.Changing.{is_empty}
use Rattle.cacheless.specs.May.{has_failed, names_relation, is_lock_at, is_first_missing, is_missing, is_next_of_act, is_next_at, lacks_opened, lacks_any, owes_nothing, is_unlock_at}
use Rattle.cacheless.specs.OpenedReads.{ReadsOpened}
use Rattle.cacheless.specs.Session.{Badly, outcome_of}
use Rattle.cacheless.specs.Silently.{gives_at, gives_next, IsAtRest, looks_up_at, has_accepted_at}
use Rattle.cacheless.specs.State.{facts_at, work_at, kept_at, is_kept, rows_kept, row_sought, missing, builds_missing, act_missing, owed_after, owed_first}
use Rattle.cacheless.proofs.Same.{free_is, next_is as next_as, lacks_opened_is}
use Rattle.cacheless.proofs.WantedPlans.{first_up}
use Rattle.cacheless.proofs.Plans.SilentActs.{empty_list}
use Rattle.cacheless.proofs.Tests.{both_true, not_true}
use Rattle.backend_core.specs.Types.{Oid, Mode, Kind, Row, Purpose, Command, Progress, Backend}
use Rattle.backend_core.specs.Steps.{IsFree, IsScanNext, IsLockNext, IsUnlockNext, IsWriteNext, IsChoiceSound, Looks, IsAcceptNext}
use Rattle.backend_core.specs.Words.{relation_named, is_unfound}
use Rattle.cacheless.proofs.Answers.KeptReads.{kept_opened}
use Rattle.backend_core.proofs.Choosing.Nexting.{out_owes}
use Rattle.backend_core.specs.Fits.{TakesFit}
use Rattle.cacheless.specs.Settled.{has_taken_no_other, if_locked}
use Rattle.history_model.proofs.Every.{any-weaker}
use Rattle.cacheless.specs.Types.{Purpose}

-- the act that is wanted, but for a write
abbrev wanted_act : Want → Option Act
wanted_act (wants.Lookup name mode) = Some (Lookup name mode)
wanted_act (wants.Open rel kind) = Some (Open rel kind)
wanted_act (wants.Search scan) = Some (Search scan)
wanted_act (wants.Read scan) = Some (Read scan)
wanted_act (wants.Lock rel mode) = Some (Lock rel mode)
wanted_act want = None

record Wants (plan : Plan) (act : Act) : Type 0 where
  rest : List Row → Plan
  is : plan ≡ Do act rest

plan_wanted : (plan : Plan) (act : Act) → wanted_act (want_of plan) ≡ Some act → Wants plan act
plan_wanted (Done told) act is = absurd (cc is)
plan_wanted (Fails error) act is = absurd (cc is)
plan_wanted (Absent name) act is = absurd (cc is)
plan_wanted (Do done rest) act is = record { rest = rest; is = ap (λ a. Do a rest) (again done is) }
  where
    again : (a : Act) → wanted_act (want_of_act a) ≡ Some act → a ≡ act
    again (Write draft) same = absurd (cc same)
    again a same = cc same

-- an act that owes nothing and gives rows would be done without an entry
not_at_rest : (p : Progress) (command : Command) (act : Act) → IsAtRest p → IsFree p command → Wants (plan_at p.opens p.exec) act → owes_nothing command p ≡ true → is_some (gives_at p act) ≡ true → ⊥
not_at_rest p command act still free wants owes gives = both_ways _ (still command free.at).0 (both_true (owes_nothing command p) (gives_next p (plan_at p.opens p.exec)) owes (ap (gives_next p) wants.is ∙ gives))

goes_on : (p : Progress) (act : Act) → Wants (plan_at p.opens p.exec) act → has_failed p ≡ false
goes_on p act wants = ap (λ q. elim (outcome_of q) as (λ x. Bool) [ Badly ↦ true | other ↦ false ]) wants.is

-- what the act lacks is lacking
lacks_is : (p : Progress) (act : Act) (wants : Wants (plan_at p.opens p.exec) act) → lacks_opened (kept_at p) p.opened ≡ false → lacks_any p ≡ not (is_empty (act_missing p (Do act wants.rest)))
lacks_is p act wants whole = λ i. not (goes_on p act wants i) && (whole i || not (is_empty (act_missing p (wants.is i))))

next_is : (p : Progress) (act : Act) (wants : Wants (plan_at p.opens p.exec) act) (scan : Purpose) → is_next_of_act scan (kept_at p) (Do act wants.rest) ≡ true → is_next_at scan p ≡ true
next_is p act wants scan is = sym (next_as scan p) ∙ (λ i. not (goes_on p act wants i) && (list_any (λ o. is_first_missing scan (kept_at p) o.kind o.rel) p.opened || is_next_of_act scan (kept_at p) (wants.is i)))
    ∙ ap (λ t. list_any (λ o. is_first_missing scan (kept_at p) o.kind o.rel) p.opened || t) is ∙ or-true (list_any (λ o. is_first_missing scan (kept_at p) o.kind o.rel) p.opened)

-- a list lacks what is found of it
found_lacks : {X : Type 0} (f : X → Bool) (xs : List X) → is_empty (filter f xs) ≡ not (is_some (find f xs))
found_lacks f [] = refl
found_lacks f (x ∷ xs) = by_test (f x) (found_lacks f xs)
  where
    by_test : (t : Bool) → is_empty (filter f xs) ≡ not (is_some (find f xs)) → is_empty (cond t (x ∷ filter f xs) (filter f xs)) ≡ not (is_some (cond t (Some x) (find f xs)))
    by_test true more = refl
    by_test false more = more

one_lacks : (t : Bool) (scan : Purpose) → not (is_empty (cond (not t) (scan ∷ []) [])) ≡ not t
one_lacks true scan = refl
one_lacks false scan = refl

-- the row is that of the relation
named_is : (o : Option Row) (rel : Oid) → relation_named o ≡ Some rel → names_relation rel o ≡ true
named_is (Some (rows.Class oid name kind fill)) rel found = let one : oid ≡ rel = cc found in eq-eqb rel.0 oid.0 (ap (λ o. o.0) (sym one))
named_is o rel found = absurd (cc found)

-- or of another one
named_not : (o : Option Row) (rel taken : Oid) → relation_named o ≡ Some rel → (taken.0 == rel.0) ≡ false → names_relation taken o ≡ false
named_not (Some (rows.Class oid name kind fill)) rel taken found other = let one : oid ≡ rel = cc found in ap (λ (r : Oid). taken.0 == r.0) one ∙ other
named_not o rel taken found other = absurd (cc found)

-- or there is none
named_none : (o : Option Row) (rel : Oid) → relation_named o ≡ None → names_relation rel o ≡ false
named_none None rel none = refl
named_none (Some (rows.Class oid name kind fill)) rel none = absurd (cc none)
named_none (Some row) rel none = refl

module _ (s : Backend) (command : Command) (still : IsAtRest s.progress) (free : IsFree s.progress command) (bare : s.frames ≡ []) (whole : lacks_opened (kept_at s.progress) s.progress.opened ≡ false) where
  abbrev p : Progress
  p = s.progress

  -- the scan of a name
  pub lookup_next : (name : List ℕ) (mode : Mode) → want_of (plan_at p.opens p.exec) ≡ wants.Lookup name mode → owes_nothing command p ≡ false → IsScanNext s (scans.RelName name) false
  lookup_next name mode want owes = by_test (is_kept (kept_at p) (scans.RelName name)) refl
    where
      act : Wants (plan_at p.opens p.exec) (Lookup name mode)
      act = plan_wanted (plan_at p.opens p.exec) (Lookup name mode) (ap wanted_act want)

      lacks : (t : Bool) → is_kept (kept_at p) (scans.RelName name) ≡ t → lacks_any p ≡ not t
      lacks t is = lacks_is p (Lookup name mode) act whole ∙ one_lacks (is_kept (kept_at p) (scans.RelName name)) (scans.RelName name) ∙ ap not is

      first_of : is_kept (kept_at p) (scans.RelName name) ≡ false → (not (is_kept (kept_at p) (scans.RelName name)) && same_scan (scans.RelName name) (scans.RelName name)) ≡ true
      first_of has = (λ i. not (has i) && same_scan (scans.RelName name) (scans.RelName name)) ∙ same_scan-itself (scans.RelName name)

      by_test : (t : Bool) → is_kept (kept_at p) (scans.RelName name) ≡ t → IsScanNext s (scans.RelName name) false
      by_test true has = absurd (both_ways _ owes (out_owes p command free (lacks true has)))
      by_test false has = record {
        command = command;
        free = free;
        lacks = lacks false has;
        next = next_is p (Lookup name mode) act (scans.RelName name) (first_of has);
        turn = (bare, ap (is_next_of_act (scans.RelName name) (kept_at p)) act.is ∙ first_of has);
      }

  -- the scan of a catalog cache
  pub search_next : (scan : Purpose) → want_of (plan_at p.opens p.exec) ≡ wants.Search scan → IsScanNext s scan false
  search_next scan want = by_kept (is_kept (kept_at p) scan) refl
    where
      act : Wants (plan_at p.opens p.exec) (Search scan)
      act = plan_wanted (plan_at p.opens p.exec) (Search scan) (ap wanted_act want)

      lacks : (t : Bool) → is_kept (kept_at p) scan ≡ t → lacks_any p ≡ not t
      lacks t is = lacks_is p (Search scan) act whole ∙ one_lacks (is_kept (kept_at p) scan) scan ∙ ap not is

      by_kept : (t : Bool) → is_kept (kept_at p) scan ≡ t → IsScanNext s scan false
      by_kept true is = absurd (not_at_rest p command (Search scan) still free act (out_owes p command free (lacks true is)) refl)
      by_kept false is = record {
        command = command;
        free = free;
        lacks = lacks false is;
        next = next_is p (Search scan) act scan (ap (λ t. not t && same_scan scan scan) is ∙ same_scan-itself scan);
        turn = (bare, ap (is_next_of_act scan (kept_at p)) act.is ∙ ap (λ t. not t && same_scan scan scan) is ∙ same_scan-itself scan);
      }

  -- the first scan of a descriptor that is to be opened
  pub open_next : (rel : Oid) (kind : Kind) (scan : Purpose) → want_of (plan_at p.opens p.exec) ≡ wants.Open rel kind → find (λ d. not (is_kept (kept_at p) d)) (build_scans kind rel) ≡ Some scan → IsScanNext s scan false
  open_next rel kind scan want is = record {
    command = command;
    free = free;
    lacks = lacks_is p (Open rel kind) act whole ∙ ap not (found_lacks (λ d. not (is_kept (kept_at p) d)) (build_scans kind rel)) ∙ ap (λ f. not (not (is_some f))) is;
    next = next_is p (Open rel kind) act scan (ap (λ f. option_map_or (same_scan scan) f false) is ∙ same_scan-itself scan);
    turn = (bare, ap (is_next_of_act scan (kept_at p)) act.is ∙ ap (λ f. option_map_or (same_scan scan) f false) is ∙ same_scan-itself scan);
  }
    where
      act : Wants (plan_at p.opens p.exec) (Open rel kind)
      act = plan_wanted (plan_at p.opens p.exec) (Open rel kind) (ap wanted_act want)

  -- where it lacks none it would be opened without an entry
  pub open_none : (rel : Oid) (kind : Kind) → want_of (plan_at p.opens p.exec) ≡ wants.Open rel kind → find (λ d. not (is_kept (kept_at p) d)) (build_scans kind rel) ≡ None → ⊥
  open_none rel kind want none = not_at_rest p command (Open rel kind) still free act
      (out_owes p command free (lacks_is p (Open rel kind) act whole ∙ ap not (found_lacks (λ d. not (is_kept (kept_at p) d)) (build_scans kind rel)) ∙ ap (λ f. not (not (is_some f))) none)) refl
    where
      act : Wants (plan_at p.opens p.exec) (Open rel kind)
      act = plan_wanted (plan_at p.opens p.exec) (Open rel kind) (ap wanted_act want)

  -- the scan on which the answer rests, where something is owed
  pub rests_next : (scan : Purpose) → want_of (plan_at p.opens p.exec) ≡ wants.Done (Some scan) → owes_nothing command p ≡ false → IsScanNext s scan false
  rests_next scan want owes = by_plan (plan_at p.opens p.exec) refl want
    where
      by_act : (act : Act) → want_of_act act ≡ wants.Done (Some scan) → ⊥
      by_act (Lookup name mode) is = cc is
      by_act act is = cc is

      by_plan : (q : Plan) → plan_at p.opens p.exec ≡ q → want_of q ≡ wants.Done (Some scan) → IsScanNext s scan false
      by_plan (Fails error) at is = absurd (cc is)
      by_plan (Absent name) at is = absurd (cc is)
      by_plan (Do act rest) at is = absurd (by_act act is)
      by_plan (Done told) at is = by_kept (is_kept (kept_at p) scan) refl
        where
          rests : told_rests_on told ≡ Some scan
          rests = cc is

          goes : has_failed p ≡ false
          goes = ap (λ q. elim (outcome_of q) as (λ x. Bool) [ Badly ↦ true | other ↦ false ]) at

          lacks : (t : Bool) → is_kept (kept_at p) scan ≡ t → lacks_any p ≡ not t
          lacks t kept = (λ i. not (goes i) && (whole i || not (is_empty (act_missing p (at i))))) ∙ ap (λ o. not (is_empty (missing (kept_at p) (cons_option o [])))) rests ∙ one_lacks (is_kept (kept_at p) scan) scan ∙ ap not kept

          first : is_kept (kept_at p) scan ≡ false → is_next_of_act scan (kept_at p) (plan_at p.opens p.exec) ≡ true
          first lacked = ap (is_next_of_act scan (kept_at p)) at ∙ ap (λ o. option_map_or (is_missing scan (kept_at p)) o false) rests ∙ ap (λ t. not t && same_scan scan scan) lacked ∙ same_scan-itself scan

          by_kept : (t : Bool) → is_kept (kept_at p) scan ≡ t → IsScanNext s scan false
          by_kept true kept = absurd (both_ways _ owes (out_owes p command free (lacks true kept)))
          by_kept false lacked = record {
            command = command;
            free = free;
            lacks = lacks false lacked;
            next = sym (next_as scan p) ∙ (λ i. not (goes i) && (list_any (λ o. is_first_missing scan (kept_at p) o.kind o.rel) p.opened || first lacked i)) ∙ or-true (list_any (λ o. is_first_missing scan (kept_at p) o.kind o.rel) p.opened);
            turn = (bare, first lacked);
          }

  -- a write
  pub write_next : want_of (plan_at p.opens p.exec) ≡ wants.Write → IsWriteNext p
  write_next want = record { command = command; free = free; owes = out_owes p command free (by_plan (plan_at p.opens p.exec) refl want); wants = want }
    where
      by_act : (act : Act) (rest : List Row → Plan) → plan_at p.opens p.exec ≡ Do act rest → want_of_act act ≡ wants.Write → lacks_any p ≡ false
      by_act (Write draft) rest at is = lacks_is p (Write draft) (record { rest = rest; is = at }) whole
      by_act (Lookup name mode) rest at is = absurd (cc is)
      by_act act rest at is = absurd (cc is)

      by_plan : (q : Plan) → plan_at p.opens p.exec ≡ q → want_of q ≡ wants.Write → lacks_any p ≡ false
      by_plan (Do act rest) at is = by_act act rest at is
      by_plan q at is = absurd (cc is)

  -- what is read of an opened descriptor is there
  pub read_none : (scan : Purpose) → want_of (plan_at p.opens p.exec) ≡ wants.Read scan → ReadsOpened p.opened (plan_at p.opens p.exec) → ⊥
  read_none scan want reads = not_at_rest p command (Read scan) still free act (out_owes p command free (lacks_is p (Read scan) act whole ∙ ap (λ t. not (is_empty (cond (not t) (scan ∷ []) []))) kept)) refl
    where
      act : Wants (plan_at p.opens p.exec) (Read scan)
      act = plan_wanted (plan_at p.opens p.exec) (Read scan) (ap wanted_act want)

      not_false : (t : Bool) → not t ≡ false → t ≡ true
      not_false true is = refl
      not_false false is = absurd (cc is)

      kept : is_kept (kept_at p) scan ≡ true
      kept = kept_opened (kept_at p) scan p.opened (empty_list (builds_missing (kept_at p) p.opened) (not_false (is_empty (builds_missing (kept_at p) p.opened)) (sym (lacks_opened_is (kept_at p) p.opened) ∙ whole))) (subst (ReadsOpened p.opened) act.is reads).0

-- a command that hasn't failed wants no failure
abbrev fails : Want → Bool
fails (wants.Fails error) = true
fails (wants.Absent name) = true
fails want = false

pub fails_none : (p : Progress) (want : Want) → has_failed p ≡ false → want_of (plan_at p.opens p.exec) ≡ want → fails want ≡ true → ⊥
fails_none p want goes is failing = by_plan (plan_at p.opens p.exec) refl (ap fails is ∙ failing)
  where
    by_act : (act : Act) → fails (want_of_act act) ≡ true → ⊥
    by_act (Lookup name mode) bad = cc bad
    by_act act bad = cc bad

    by_plan : (q : Plan) → plan_at p.opens p.exec ≡ q → fails (want_of q) ≡ true → ⊥
    by_plan (Done told) at bad = cc bad
    by_plan (Do act rest) at bad = by_act act bad
    by_plan (Fails error) at bad = both_ways _ goes (ap (λ x. elim (outcome_of x) as (λ y. Bool) [ Badly ↦ true | other ↦ false ]) at)
    by_plan (Absent name) at bad = both_ways _ goes (ap (λ x. elim (outcome_of x) as (λ y. Bool) [ Badly ↦ true | other ↦ false ]) at)

-- a further lock that isn't had yet
pub further_lock : (s : Backend) (command : Command) → IsAtRest s.progress → IsChoiceSound s → IsFree s.progress command → lacks_opened (kept_at s.progress) s.progress.opened ≡ false → (rel : Oid) (mode : Mode) → want_of (plan_at s.progress.opens s.progress.exec) ≡ wants.Lock rel mode → IsLockNext s.progress rel mode
further_lock s command still chosen free whole rel mode want = record {
  command = command;
  free = free;
  may = both_true (owes_nothing command s.progress && is_none s.progress.taken) (is_lock_at s.progress (plan_at s.progress.opens s.progress.exec) rel mode) (both_true (owes_nothing command s.progress) (is_none s.progress.taken) owes (none_taken s.progress.taken refl))
      (ap (λ q. is_lock_at s.progress q rel mode) act.is ∙ both_true (same_oid rel rel) (same_mode mode mode) (eq-eqb rel.0 rel.0 refl) (eq-eqb (mode_number mode) (mode_number mode) refl));
}
  where
    act : Wants (plan_at s.progress.opens s.progress.exec) (Lock rel mode)
    act = plan_wanted (plan_at s.progress.opens s.progress.exec) (Lock rel mode) (ap wanted_act want)

    owes : owes_nothing command s.progress ≡ true
    owes = out_owes s.progress command free (lacks_is s.progress (Lock rel mode) act whole)

    had : (taken : Oid) → s.progress.taken ≡ Some taken → list_any (λ lock. is_own rel mode lock && (lock.command == s.progress.finished + 1)) s.progress.locks.items ≡ true
    had taken took = subst (TakesFit (s.progress.finished + 1) s.progress.locks.items (Some taken)) act.is (subst (λ o. TakesFit (s.progress.finished + 1) s.progress.locks.items o (plan_at s.progress.opens s.progress.exec)) took chosen.takes)

    none_taken : (o : Option Oid) → s.progress.taken ≡ o → is_none o ≡ true
    none_taken None took = refl
    none_taken (Some taken) took = absurd (not_at_rest s.progress command (Lock rel mode) still free act owes
        (λ i. is_some (if_locked (any-weaker (λ lock. is_own rel mode lock && (lock.command == s.progress.finished + 1)) (is_own rel mode) (λ lock is. (and_parts (is_own rel mode lock) _ is).0) s.progress.locks.items (had taken took) i) [])))

-- what comes next of a lookup whose scan serves
module _ (s : Backend) (command : Command) (still : IsAtRest s.progress) (chosen : IsChoiceSound s) (free : IsFree s.progress command) (name : List ℕ) (mode : Mode) (want : want_of (plan_at s.progress.opens s.progress.exec) ≡ wants.Lookup name mode) (owes : owes_nothing command s.progress ≡ true) where
  act : Wants (plan_at s.progress.opens s.progress.exec) (Lookup name mode)
  act = plan_wanted (plan_at s.progress.opens s.progress.exec) (Lookup name mode) (ap wanted_act want)

  -- the lock of the relation that it names
  pub lock_next : (rel : Oid) → relation_named (row_sought s.progress name) ≡ Some rel → s.progress.taken ≡ None → IsLockNext s.progress rel mode
  lock_next rel found none = record {
    command = command;
    free = free;
    may = both_true (owes_nothing command s.progress && is_none s.progress.taken) (is_lock_at s.progress (plan_at s.progress.opens s.progress.exec) rel mode) (both_true (owes_nothing command s.progress) (is_none s.progress.taken) owes (ap (λ o. is_none o) none)) (ap (λ q. is_lock_at s.progress q rel mode) act.is
        ∙ both_true (names_relation rel (row_sought s.progress name)) (same_mode mode mode) (named_is (row_sought s.progress name) rel found) (eq-eqb (mode_number mode) (mode_number mode) refl));
  }

  -- that of another one is given back
  unlock_next : (taken : Oid) → s.progress.taken ≡ Some taken → names_relation taken (row_sought s.progress name) ≡ false → IsUnlockNext s.progress taken mode
  unlock_next taken took other = record {
    command = command;
    free = free;
    may = both_true (owes_nothing command s.progress) (is_unlock_at s.progress (plan_at s.progress.opens s.progress.exec) taken mode) owes (ap (λ q. is_unlock_at s.progress q taken mode) act.is
        ∙ both_true (option_map_or (same_oid taken) s.progress.taken false && same_mode mode mode) (not (names_relation taken (row_sought s.progress name)))
        (both_true (option_map_or (same_oid taken) s.progress.taken false) (same_mode mode mode) (ap (λ o. option_map_or (same_oid taken) o false) took ∙ eq-eqb taken.0 taken.0 refl) (eq-eqb (mode_number mode) (mode_number mode) refl)) (ap not other));
  }

  pub unlock_other : (rel taken : Oid) → relation_named (row_sought s.progress name) ≡ Some rel → s.progress.taken ≡ Some taken → (taken.0 == rel.0) ≡ false → IsUnlockNext s.progress taken mode
  unlock_other rel taken found took other = unlock_next taken took (named_not (row_sought s.progress name) rel taken found other)

  pub unlock_unfound : (taken : Oid) → relation_named (row_sought s.progress name) ≡ None → s.progress.taken ≡ Some taken → IsUnlockNext s.progress taken mode
  unlock_unfound taken none took = unlock_next taken took (named_none (row_sought s.progress name) taken none)

  -- a relation that is locked already ends the lookup
  pub locked_ends : (rel taken : Oid) → relation_named (row_sought s.progress name) ≡ Some rel → s.progress.taken ≡ Some taken → (taken.0 == rel.0) ≡ true → ⊥
  locked_ends rel taken found took same = not_at_rest s.progress command (Lookup name mode) still free act owes (first_up (facts_at s.progress) (work_at s.progress) mode (rows_kept (kept_at s.progress) (scans.RelName name)) ∙ by_row (row_sought s.progress name) found)
    where
      has : list_any (λ lock. is_own taken mode lock && (lock.command == s.progress.finished + 1)) s.progress.locks.items ≡ true
      has = subst (TakesFit (s.progress.finished + 1) s.progress.locks.items (Some taken)) act.is (subst (λ o. TakesFit (s.progress.finished + 1) s.progress.locks.items o (plan_at s.progress.opens s.progress.exec)) took chosen.takes)

      one : taken ≡ rel
      one = ap (λ n. record { 0 = n }) (eqb-true taken.0 rel.0 same)

      by_row : (o : Option Row) → relation_named o ≡ Some rel → is_some (looks_up_at s.progress mode o) ≡ true
      by_row (Some (rows.Class oid own kind fill)) is = let named : oid ≡ rel = cc is in
          (λ i. is_some (if_locked (has_lock s.progress.locks.items (named i) mode && has_taken_no_other (took i) (named i)) (rows.Class oid own kind fill ∷ [])))
          ∙ (λ i. is_some (if_locked (has_lock s.progress.locks.items (sym one i) mode && has_taken_no_other (Some taken) (sym one i)) (rows.Class oid own kind fill ∷ [])))
          ∙ (λ i. is_some (if_locked (any-weaker (λ lock. is_own taken mode lock && (lock.command == s.progress.finished + 1)) (is_own taken mode) (λ lock is. (and_parts (is_own taken mode lock) _ is).0) s.progress.locks.items has i && eq-eqb taken.0 taken.0 refl i) (rows.Class oid own kind fill ∷ [])))
      by_row None is = absurd (cc is)
      by_row (Some row) is = absurd (cc is)

  -- the scan of the name is kept
  kept_name : is_kept (kept_at s.progress) (scans.RelName name) ≡ true
  kept_name = by_test (is_kept (kept_at s.progress) (scans.RelName name)) refl
    where
      lacks_same : lacks_any s.progress ≡ (lacks_opened (kept_at s.progress) s.progress.opened || not (is_kept (kept_at s.progress) (scans.RelName name)))
      lacks_same = (λ i. not (goes_on s.progress (Lookup name mode) act i) && (lacks_opened (kept_at s.progress) s.progress.opened || not (is_empty (act_missing s.progress (act.is i)))))
          ∙ ap (λ t. lacks_opened (kept_at s.progress) s.progress.opened || t) (one_lacks (is_kept (kept_at s.progress) (scans.RelName name)) (scans.RelName name))

      by_test : (t : Bool) → is_kept (kept_at s.progress) (scans.RelName name) ≡ t → t ≡ true
      by_test true is = refl
      by_test false is = absurd (both_ways _ (not_true (lacks_any s.progress) (and_parts (is_empty (owed_first s.progress command) && is_empty (owed_after s.progress.due)) (not (lacks_any s.progress)) (free_is command s.progress ∙ owes)).1)
          (lacks_same ∙ ap (λ t. lacks_opened (kept_at s.progress) s.progress.opened || not t) is ∙ or-true (lacks_opened (kept_at s.progress) s.progress.opened)))

  unfound_next : relation_named (row_sought s.progress name) ≡ None → s.progress.taken ≡ None → is_unfound s.progress (plan_at s.progress.opens s.progress.exec) ≡ true
  unfound_next none free_of = ap (is_unfound s.progress) act.is ∙ (λ i. is_none (free_of i) && kept_name i && is_none (relation_named (row_sought s.progress name))) ∙ ap (λ o. is_none o) none

  -- one that found no relation, and looked, ends
  pub accepted_ends : relation_named (row_sought s.progress name) ≡ None → s.progress.taken ≡ None → s.looked ≡ true → ⊥
  accepted_ends none free_of looked = not_at_rest s.progress command (Lookup name mode) still free act owes (first_up (facts_at s.progress) (work_at s.progress) mode (rows_kept (kept_at s.progress) (scans.RelName name)) ∙ by_row (row_sought s.progress name) none)
    where
      accepted : has_accepted_at s.progress ≡ true
      accepted = chosen.accepts looked (unfound_next none free_of) free.due

      by_row : (o : Option Row) → relation_named o ≡ None → is_some (looks_up_at s.progress mode o) ≡ true
      by_row None is = ap (λ t. is_some (if_locked t [])) accepted
      by_row (Some (rows.Class oid own kind fill)) is = absurd (cc is)
      by_row (Some row) is = ap (λ t. is_some (if_locked t (row ∷ []))) accepted

  -- it looks first
  pub accept_next : relation_named (row_sought s.progress name) ≡ None → s.progress.taken ≡ None → s.looked ≡ false → IsAcceptNext s
  accept_next none free_of unlooked = record { command = command; free = free; finds = Looks (unfound_next none free_of) owes; unlooked = inl unlooked }
