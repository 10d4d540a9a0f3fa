-- An act whose rows are at hand keeps a command on its way.
use Rattle.std.proofs.Common.{◌≡◌, ◌∙◌, ℕ, Bool, true, false, not, Option, Some, None, List, [], ◌∷◌, ◌++◌, ◌&&◌, cond, refl, sym, ap, subst, map, append_assoc, append-nil}
use Rattle.std.specs.List.{AllByRecursion}
use Rattle.base_types.specs.declared.row.Row.TheVariants as rows
use Rattle.base_types.specs.declared.scan.Purpose.TheVariants as scans
use Rattle.lock_modes.specs.Own.{has_lock, cleared}
use Rattle.ddl_effect.specs.declared.told.Told.TheVariants as tells
use Rattle.ddl_effect.specs.Plans.{Act, Lookup, Open, Search, Read, Lock, Write, Plan, Done, Fails, Absent, Do}
use Rattle.ddl_effect.specs.Commands.{plan_of}
use Rattle.history_model.specs.Read.{rows_read, is_usable}
use Rattle.history_model.specs.Versions.{answer_of}
use Rattle.history_model.specs.Changing.{is_empty}
use Rattle.history_model.proofs.Every.{every-append}
use Rattle.cacheless.specs.Types.{Mode, Row, Purpose, Scenario, Command, CommandError, OwnLock, Entry}
use Rattle.cacheless.specs.ActsDone.{LockOn, locks_by, named_by, IsDrawn, IsHeldOn, after_given, made_in, made_first, opening_by, IsFirstStill}
use Rattle.cacheless.specs.Facts.{Facts, facts_of, kept_in}
use Rattle.cacheless.specs.OnCourse.{is_absent, TakesNew, OnItsWay, Way, Begun, Wrote, Over, GaveNow, NamedFits, WasSought, FollowsPlan}
use Rattle.cacheless.specs.Work.{work_of}
use Rattle.cacheless.specs.Owed.{builds_missing, act_owed}
use Rattle.cacheless.specs.Played.{IsPlayed}
use Rattle.cacheless.specs.Session.{Session, held_before, outcome_of, is_settled}
use Rattle.cacheless.specs.Sessions.{session_of}
use Rattle.cacheless.specs.Settled.{class_oid, if_locked, has_taken_no_other, has_accepted_in, looked_up_in, gives_in, opened_by, found_by, act_done, done_here}
use Rattle.cacheless.proofs.FoundKept.{lookup_ends}
use Rattle.cacheless.proofs.Plans.ActOrder.{follows_order}
use Rattle.cacheless.proofs.Plans.AfterActs.{IsUnfound, after_opening, after_lock, after_search, after_reading, after_lookup, lookup_lost}
use Rattle.cacheless.proofs.Plans.ClearLocks.{session_holds, goes_now}
use Rattle.cacheless.proofs.NamedDrawn.{read_names}
use Rattle.cacheless.proofs.Plans.StillUnder.{still-push}
use Rattle.cacheless.proofs.Plans.UnderLocks.{GoesUnder, at_first, footing_after, Follows, FollowsOrder, follows_at}
use Rattle.cacheless.proofs.Plans.Ways.{acts, none_reached, reached-push, made_in-push}
use Rattle.local_caches.specs.Kept.{is_kept, rows_kept}
use Rattle.cacheless.proofs.Reading.{kept_usable, kept_rows_read}

pub both_empty : {X : Type 0} (xs ys : List X) → xs ++ ys ≡ [] → (xs ≡ []) × (ys ≡ [])
both_empty [] ys none = (refl, none)
both_empty (x ∷ xs) ys none = absurd (cc none)

pub empty_list : {X : Type 0} (xs : List X) → is_empty xs ≡ true → xs ≡ []
empty_list [] is = refl
empty_list (x ∷ xs) is = absurd (cc is)

pub some_is : {X : Type 0} (x y : X) → Some x ≡ Some y → x ≡ y
some_is x y is = cc is

-- a command of which an act is left was refused by nothing
pub unrefused : (seen : List Entry) (b : ℕ) (s : Session) (command : Command) (act : Act) (rest : List Row → Plan) → FollowsPlan seen b s command → s.left ≡ Do act rest → s.refused ≡ None
unrefused seen b s command act rest follows at = by_refusal s.refused refl
  where
    by_refusal : (o : Option CommandError) → s.refused ≡ o → s.refused ≡ None
    by_refusal None is = is
    by_refusal (Some error) is = absurd (let both : Do act rest ≡ Fails error = sym at ∙ follows.refused error is in cc both)

-- and is on its way
pub on_its_way : (seen : List Entry) (b : ℕ) (s : Session) (command : Command) (act : Act) (rest : List Row → Plan) → FollowsPlan seen b s command → s.left ≡ Do act rest → OnItsWay seen b s command
on_its_way seen b s command act rest follows at = by_way (follows.way (unrefused seen b s command act rest follows at))
  where
    by_way : Way seen b s command → OnItsWay seen b s command
    by_way (Begun way) = way
    by_way (Wrote w) = absurd (let both : Do act rest ≡ Done tells.Ok = sym at ∙ w.plan in cc both)
    by_way (Over w) = absurd (let both : false ≡ true = ap (λ p. is_settled (outcome_of p)) (sym at) ∙ w.out in cc both)

-- the order of its acts, and how far it has come in it
pub its_order : (seen : List Entry) (b : ℕ) (s : Session) (command : Command) → OnItsWay seen b s command → FollowsOrder (plan_of s.opens command)
its_order seen b s command way = follows_order s.opens command

pub its_place : (seen : List Entry) (b : ℕ) (s : Session) (command : Command) (act : Act) (rest : List Row → Plan) (way : OnItsWay seen b s command) → s.left ≡ Do act rest
    → Follows (footing_after way.gave (plan_of s.opens command) at_first) (Do act rest)
its_place seen b s command act rest way at = follows_at way.gave (plan_of s.opens command) act rest (its_order seen b s command way) (sym way.plan ∙ at)

-- where it finds no relation the command says so
pub lookup_says : (seen : List Entry) (b : ℕ) (s : Session) (command : Command) (name : List ℕ) (mode : Mode) (rest : List Row → Plan) (given : List Row) → FollowsPlan seen b s command → s.left ≡ Do (Lookup name mode) rest → class_oid given ≡ None → is_absent (rest given) ≡ true
lookup_says seen b s command name mode rest given follows at none =
    lookup_lost _ name mode rest given (its_place seen b s command (Lookup name mode) rest (on_its_way seen b s command (Lookup name mode) rest follows at) at) none

-- a scan that isn't owed is usable
pub kept_already : (t : Bool) (scan : Purpose) → cond (not t) (scan ∷ []) [] ≡ [] → t ≡ true
kept_already true scan none = refl
kept_already false scan none = absurd (cc none)

pub usable_already : (seen : List Entry) (b : ℕ) (scan : Purpose) → cond (not (is_kept (kept_in seen b) scan)) (scan ∷ []) [] ≡ [] → is_usable seen b scan ≡ true
usable_already seen b scan none = sym (kept_usable seen b scan) ∙ kept_already (is_kept (kept_in seen b) scan) scan none

-- what a scan gave that is done here is what the last such scan gave
gave_rows : (seen : List Entry) (b : ℕ) (scan : Purpose) (given : List Row) → cond (not (is_kept (kept_in seen b) scan)) (scan ∷ []) [] ≡ [] → Some (rows_kept (kept_in seen b) scan) ≡ Some given → rows_read seen b scan ≡ given
gave_rows seen b scan given none gave = sym (kept_rows_read seen b scan (usable_already seen b scan none)) ∙ some_is (rows_kept (kept_in seen b) scan) given gave

-- a played history in which the session of a backend has these locks, which are clear
pub record HoldsClear (scenario : Scenario) (seen : List Entry) (b : ℕ) (locks : List OwnLock) : Type 0 where
  pub played : IsPlayed scenario seen
  pub session : Session
  pub is : session_of scenario seen b ≡ Some session
  pub holds : session.locks ≡ locks
  pub clear : map cleared locks ≡ locks

class_first : (row : Row) (more : List Row) → class_oid (row ∷ more) ≡ class_oid (row ∷ [])
class_first (rows.Class rel own kind fill) more = refl
class_first row more = refl

if_gives : (t : Bool) (read given : List Row) → if_locked t read ≡ Some given → class_oid read ≡ class_oid given
if_gives true read given is = ap class_oid (some_is read given is)
if_gives false read given is = absurd (cc is)

-- a lookup gives the relation of its scan
pub gives_class : (facts : Facts) (s : Session) (mode : Mode) (read given : List Row) → looked_up_in facts (work_of s) mode read ≡ Some given → class_oid read ≡ class_oid given
gives_class facts s mode [] given is = if_gives (has_accepted_in facts (work_of s)) [] given is
gives_class facts s mode (rows.Class rel own kind fill ∷ more) given is = if_gives (has_lock s.locks rel mode && has_taken_no_other s.taken rel) (rows.Class rel own kind fill ∷ []) given is
gives_class facts s mode (row ∷ more) given is = class_first row more ∙ if_gives (has_accepted_in facts (work_of s)) (row ∷ []) given is

-- an act that is done here: nothing is owed before it, and it gives these rows
pub record IsDoneHere (facts : Facts) (s : Session) (act : Act) (rest : List Row → Plan) (given : List Row) : Type 0 where
  pub builds : builds_missing facts.kept s.opened ≡ []
  pub owed : act_owed facts (Do act rest) ≡ []
  pub gave : gives_in facts (work_of s) act ≡ Some given

pub is_done_here : (facts : Facts) (s : Session) (act : Act) (rest : List Row → Plan) (given : List Row) → done_here facts s act (Do act rest) ≡ Some given → IsDoneHere facts s act rest given
is_done_here facts s act rest given is = by_test (is_empty (builds_missing facts.kept s.opened ++ act_owed facts (Do act rest))) refl is
  where
    by_test : (t : Bool) → is_empty (builds_missing facts.kept s.opened ++ act_owed facts (Do act rest)) ≡ t → elim t as (λ x. Option (List Row)) [ true ↦ gives_in facts (work_of s) act | false ↦ None ] ≡ Some given → IsDoneHere facts s act rest given
    by_test true none gave = let both = both_empty (builds_missing facts.kept s.opened) (act_owed facts (Do act rest)) (empty_list _ none) in record { builds = both.0; owed = both.1; gave = gave }
    by_test false some gave = absurd (cc gave)

-- it isn't a write
passes_it : (facts : Facts) (s : Session) (act : Act) (rest : List Row → Plan) (given : List Row) → gives_in facts (work_of s) act ≡ Some given → after_given given (Do act rest) ≡ rest given
passes_it facts s (Write draft) rest given gave = absurd (cc gave)
passes_it facts s act rest given gave = refl

-- a lock that has to be held is
if_has : (t : Bool) (given : List Row) → if_locked t [] ≡ Some given → t ≡ true
if_has true given is = refl
if_has false given is = absurd (cc is)

-- what a scan gave that is done here is so
scan_still : (scenario : Scenario) (seen : List Entry) (b : ℕ) (s : Session) (command : Command) (scan : Purpose) (rest : List Row → Plan) (given : List Row) → HoldsClear scenario seen b s.locks → (way : OnItsWay seen b s command)
    → GoesUnder (made_in locks_by way.gave (plan_of s.opens command)) scan rest → is_usable seen b scan ≡ true → rows_read seen b scan ≡ given → rest given ≡ rest (answer_of seen b scan)
scan_still scenario seen b s command scan rest given holds way goes usable gave = ap rest (sym gave)
    ∙ goes_now scenario seen b holds.session (made_in locks_by way.gave (plan_of s.opens command)) scan rest holds.played holds.is (subst (λ l. map cleared l ≡ l) (sym holds.holds) holds.clear) way.holds.locked goes usable

-- what an act gave that is done here is so
act_gave : (scenario : Scenario) (seen : List Entry) (b : ℕ) (s : Session) (command : Command) (act : Act) (rest : List Row → Plan) (given : List Row) → HoldsClear scenario seen b s.locks → (way : OnItsWay seen b s command) → s.left ≡ Do act rest
    → IsDoneHere (facts_of seen b) s act rest given → GaveNow seen b act rest given
act_gave scenario seen b s command (Lookup name mode) rest given holds way at done = lookup_ends scenario seen b holds.session s (facts_of seen b) name mode rest given holds.played.sound holds.played.plays holds.is holds.holds holds.clear
    (usable_already seen b (scans.RelName name) done.owed) (ap (looked_up_in (facts_of seen b) (work_of s) mode) (sym (kept_rows_read seen b (scans.RelName name) (usable_already seen b (scans.RelName name) done.owed))) ∙ done.gave)
act_gave scenario seen b s command (Open rel kind) rest given holds way at done = record { locked = tt; drawn = tt; still = tt }
act_gave scenario seen b s command (Search scan) rest given holds way at done = record {
  locked = tt;
  drawn = tt;
  still = scan_still scenario seen b s command scan rest given holds way (its_place seen b s command (Search scan) rest way at).0 (usable_already seen b scan done.owed) (gave_rows seen b scan given done.owed done.gave);
}
act_gave scenario seen b s command (Read scan) rest given holds way at done = record {
  locked = tt;
  drawn = read_names seen b scan holds.played.sound given (gave_rows seen b scan given done.owed done.gave);
  still = scan_still scenario seen b s command scan rest given holds way (its_place seen b s command (Read scan) rest way at).0 (usable_already seen b scan done.owed) (gave_rows seen b scan given done.owed done.gave);
}
act_gave scenario seen b s command (Lock rel mode) rest given holds way at done = record {
  locked = (session_holds scenario seen b holds.session holds.played.sound holds.is rel mode ∙ ap (λ l. has_lock l rel mode) holds.holds ∙ if_has (has_lock s.locks rel mode) given done.gave, tt);
  drawn = tt;
  still = tt;
}
act_gave scenario seen b s command (Write draft) rest given holds way at done = absurd (let no : None ≡ Some given = done.gave in cc no)

-- where nothing is newly locked
pub takes_none : (locked : List LockOn) (plan : Plan) → TakesNew locked plan None
takes_none locked (Do (Lookup name mode) rest) = tt
takes_none locked (Do (Open rel kind) rest) = tt
takes_none locked (Do (Search scan) rest) = tt
takes_none locked (Do (Read scan) rest) = tt
takes_none locked (Do (Lock rel mode) rest) = tt
takes_none locked (Do (Write draft) rest) = tt
takes_none locked (Done told) = tt
takes_none locked (Fails error) = tt
takes_none locked (Absent name) = tt

-- one more act on the way of a command
pub way-act : (seen : List Entry) (b : ℕ) (s : Session) (command : Command) (act : Act) (rest : List Row → Plan) (given : List Row) → s.left ≡ Do act rest → after_given given (Do act rest) ≡ rest given → GaveNow seen b act rest given
    → OnItsWay seen b s command → OnItsWay seen b (act_done act given (rest given) s) command
way-act seen b s command act rest given at passes now way = record {
  gave = way.gave ++ given ∷ [];
  plan = sym passes ∙ ap (after_given given) (sym at ∙ way.plan) ∙ sym (reached-push way.gave given (plan_of s.opens command));
  found = ap (λ l. l ++ found_by act given) way.found ∙ sym (made found_by);
  opened = ap (λ l. l ++ opened_by act) way.opened ∙ append_assoc (held_before s) (made_in opening_by way.gave (plan_of s.opens command)) (opened_by act) ∙ ap (λ l. held_before s ++ l) (sym (made opening_by));
  holds = record {
    locked = subst (AllByRecursion (IsHeldOn seen b)) (sym (made locks_by)) (every-append (IsHeldOn seen b) (made_in locks_by way.gave (plan_of s.opens command)) (locks_by act given) way.holds.locked now.locked);
    drawn = subst (AllByRecursion (IsDrawn seen)) (sym (made named_by)) (every-append (IsDrawn seen) (made_in named_by way.gave (plan_of s.opens command)) (named_by act given) way.holds.drawn now.drawn);
    still = still-push (answer_of seen b) way.gave given (plan_of s.opens command) way.holds.still (subst (λ p. IsFirstStill (answer_of seen b) p given) (sym at ∙ way.plan) now.still);
  };
  newly = takes_none (made_in locks_by (way.gave ++ given ∷ []) (plan_of s.opens command)) (rest given);
  unwritten = way.unwritten;
}
  where
    made : {X : Type 0} (makes : Act → List Row → List X) → made_in makes (way.gave ++ given ∷ []) (plan_of s.opens command) ≡ made_in makes way.gave (plan_of s.opens command) ++ makes act given
    made makes = made_in-push makes way.gave given (plan_of s.opens command) ∙ ap (λ p. made_in makes way.gave (plan_of s.opens command) ++ made_first makes given p) (sym way.plan ∙ at)

-- where no lookup has failed, nothing is said of a scan
pub named_there : (seen : List Entry) (b : ℕ) (plan : Plan) → is_absent plan ≡ false → NamedFits seen b plan
named_there seen b (Absent name) there = absurd (cc there)
named_there seen b plan there = tt

-- what is left of a plan after an act: where it failed to find a relation, the act was a lookup, and gave none
pub record FailsToFind (seen : List Entry) (b : ℕ) (act : Act) (rest : List Row → Plan) (given : List Row) : Type 0 where
  pub name : List ℕ
  pub mode : Mode
  pub lookup : act ≡ Lookup name mode
  pub is : rest given ≡ Absent name
  pub none : class_oid (rows_read seen b (scans.RelName name)) ≡ None
  pub lost : class_oid given ≡ None

pub there_or_fails : (seen : List Entry) (b : ℕ) (s : Session) (command : Command) (act : Act) (rest : List Row → Plan) (given : List Row) → (way : OnItsWay seen b s command) → s.left ≡ Do act rest → IsDoneHere (facts_of seen b) s act rest given → is_absent (rest given) ≡ true
    → FailsToFind seen b act rest given
there_or_fails seen b s command (Lookup name mode) rest given way at done absent = record {
  name = name;
  mode = mode;
  lookup = refl;
  is = unfound.is;
  none = ap class_oid (sym (kept_rows_read seen b (scans.RelName name) (usable_already seen b (scans.RelName name) done.owed))) ∙ gives_class (facts_of seen b) s mode (rows_kept (kept_in seen b) (scans.RelName name)) given done.gave ∙ unfound.none;
  lost = unfound.none;
}
  where
    unfound : IsUnfound name (rest given) given
    unfound = after_lookup _ name mode rest given (its_place seen b s command (Lookup name mode) rest way at) absent
there_or_fails seen b s command (Open rel kind) rest given way at done absent =
    absurd (let both : true ≡ false = sym absent ∙ after_opening _ rel kind rest given (its_place seen b s command (Open rel kind) rest way at) in cc both)
there_or_fails seen b s command (Search scan) rest given way at done absent =
    absurd (let both : true ≡ false = sym absent ∙ after_search _ scan rest given (its_place seen b s command (Search scan) rest way at) in cc both)
there_or_fails seen b s command (Read scan) rest given way at done absent =
    absurd (let both : true ≡ false = sym absent ∙ after_reading _ scan rest given (its_place seen b s command (Read scan) rest way at) in cc both)
there_or_fails seen b s command (Lock rel mode) rest given way at done absent =
    absurd (let both : true ≡ false = sym absent ∙ after_lock _ rel mode rest given (its_place seen b s command (Lock rel mode) rest way at) in cc both)
there_or_fails seen b s command (Write draft) rest given way at done absent = absurd (let no : None ≡ Some given = done.gave in cc no)

pub absent_name : (name : List ℕ) (plan : Plan) → plan ≡ Absent name → is_absent plan ≡ true
absent_name name plan is = ap is_absent is

-- an act that is done here keeps the running command on its course
pub act_follows : (scenario : Scenario) (seen : List Entry) (b : ℕ) (s : Session) (command : Command) (act : Act) (rest : List Row → Plan) (given : List Row) → HoldsClear scenario seen b s.locks → s.left ≡ Do act rest → IsDoneHere (facts_of seen b) s act rest given → FollowsPlan seen b s command
    → FollowsPlan seen b (act_done act given (rest given) s) command
act_follows scenario seen b s command act rest given holds at done follows = record {
  refused = λ error is. absurd (let both : None ≡ Some error = sym (unrefused seen b s command act rest follows at) ∙ is in cc both);
  way = λ none. Begun (way-act seen b s command act rest given at (passes_it (facts_of seen b) s act rest given done.gave) gave way);
  named = by_test (is_absent (rest given)) refl;
  sought = λ name is. was_sought name is (there_or_fails seen b s command act rest given way at done (absent_name name (rest given) is));
  plain = λ told none. absurd (none_reached way.gave (plan_of s.opens command) act rest (ap acts none) (sym way.plan ∙ at));
  admitted = follows.admitted;
  held = λ going. let still = follows.held going in record { more = still.more ++ opened_by act; opened = ap (λ l. l ++ opened_by act) still.opened ∙ append_assoc (held_before s) still.more (opened_by act) };
  unwritten = follows.unwritten;
}
  where
    way : OnItsWay seen b s command
    way = on_its_way seen b s command act rest follows at

    gave : GaveNow seen b act rest given
    gave = act_gave scenario seen b s command act rest given holds way at done

    by_test : (t : Bool) → is_absent (rest given) ≡ t → NamedFits seen b (rest given)
    by_test true absent = let fails = there_or_fails seen b s command act rest given way at done absent in subst (NamedFits seen b) (sym fails.is) fails.none
    by_test false there = named_there seen b (rest given) there

    was_sought : (name : List ℕ) → rest given ≡ Absent name → FailsToFind seen b act rest given → WasSought seen b (act_done act given (rest given) s) command name
    was_sought name is fails = subst (λ a. WasSought seen b (act_done a given (rest given) s) command name) (sym fails.lookup) (record {
      gave = way.gave;
      mode = fails.mode;
      rest = rest;
      looks = at ∙ (λ i. Do (fails.lookup i) rest) ∙ ap (λ n. Do (Lookup n fails.mode) rest) same;
      plan = way.plan;
      found = (λ i. way.found i ++ fails.lost i ∷ []);
      opened = λ going. append-nil s.opened ∙ way.opened;
      holds = λ going. way.holds;
      taken = refl;
      unwritten = way.unwritten;
    })
      where
        same : fails.name ≡ name
        same = let both : Absent fails.name ≡ Absent name = sym fails.is ∙ is in cc both
