-- An entry of a backend keeps its running command on its course.
use Rattle.std.proofs.Common.{◌≡◌, ◌+◌, ◌-◌, ◌∙◌, ℕ, Bool, true, false, Option, Some, None, List, [], ◌∷◌, ◌++◌, ◌&&◌, ◌||◌, refl, sym, ap, subst, append-nil, length, take, arith}
use Rattle.std.specs.List.{AllByRecursion, flat_map, list_any}
use Rattle.std.proofs.Math.Bool.{or-true}
use Rattle.std.proofs.Math.Seq.{take-append_seam}
use Rattle.std.proofs.lemmas.Bool.{eq-eqb}
use Rattle.std.proofs.lemmas.List.{length-append}
use Rattle.base_types.specs.Scans.{same_scan, build_scans}
use Rattle.base_types.specs.declared.ids.Xid.{Xid}
use Rattle.base_types.specs.declared.scan.Purpose.TheVariants as scans
use Rattle.event_kinds.specs.declared.entry.Event.TheVariants as events
use Rattle.command_answers.specs.declared.error.CommandError.TheVariants as errors
use Rattle.ddl_effect.specs.declared.told.Told.TheVariants as tells
use Rattle.ddl_effect.specs.Plans.{Act, Lookup, Open, Search, Read, Lock, Write, Plan, Done, Fails, Absent, Do}
use Rattle.txn_blocks.specs.Blocks.{refused_by}
use Rattle.history_model.specs.Drawn.{next_oid}
use Rattle.lock_modes.specs.Grants.{holds}
use Rattle.history_model.specs.Held.{held_of}
use Rattle.history_model.specs.Lives.{last_event_of}
use Rattle.history_model.specs.Read.{is_scan_of}
use Rattle.history_model.specs.Transactions.{has_written, is_write}
use Rattle.history_model.proofs.Every.{every-weaker}
use Rattle.history_model.proofs.Locked.{IsQuiet}
use Rattle.history_model.proofs.Reading.{has_written-more, last_event_of-own}
use Rattle.history_model.proofs.Touched.{entry_of}
use Rattle.cacheless.specs.Types.{Oid, Mode, Row, Purpose, Item, Opening, Command, CommandError, Told, Entry, Event}
use Rattle.cacheless.specs.ActsDone.{LockOn, locks_by, IsHeldOn, reached, made_in, opening_by, WayHolds, IsOtherLock}
use Rattle.cacheless.specs.Work.{work_of}
use Rattle.cacheless.specs.Ends.{End, Ends, end_in, next_of_end, end_left_in, end_well_in, end_badly_in}
use Rattle.cacheless.specs.Facts.{Facts, facts_of}
use Rattle.cacheless.specs.OnCourse.{is_absent, TakesNew, OnItsWay, is_over, Begun, Wrote, Over, NamedFits, WasSought, DoesNoAct, StillHolds, TellsAlone, FollowsPlan}
use Rattle.cacheless.specs.Owed.{missing, act_next, is_next_in}
use Rattle.cacheless.specs.Plays.{IsLock, IsWrite, IsUnlock, MayPlay}
use Rattle.cacheless.specs.Session.{Session, Outcome, Unsettled, Well, Badly, held_before, number_of, outcome_of, is_settled}
use Rattle.cacheless.specs.Sessions.{refused_with, written, resumed, noted}
use Rattle.cacheless.specs.Settled.{found_by}
use Rattle.cacheless.proofs.Plans.ActOrder.{follows_order}
use Rattle.cacheless.proofs.Plans.StillUnder.{way_stays, way_unlocked}
use Rattle.cacheless.proofs.Plans.SilentActs.{on_its_way, its_place, unrefused, its_order, named_there, takes_none}
use Rattle.cacheless.proofs.Allowed.StaysOnCourse.{has_written-quiet, rows_read-unscanned, IsAfter, IsAfterTaking, IsAfterEnd, before_end, begun-more, HoldsOn, over_before, plan_same, MayCome, held_same, named-more, way-more, sought-more, plain-more, admitted-more, holds-more, follows-more, over_stays}
use Rattle.cacheless.proofs.Plans.Ways.{acts, none_reached}
use Rattle.ddl_effect.specs.Commands.{plan_of}

-- an entry that the running command of a backend may make next
pub record OwnEntry (history : List Entry) (b : ℕ) (s : Session) (command : Command) (event : Event) : Type 0 where
  pub may : MayCome history (entry_of b (number_of s) event)
  pub plays : MayPlay (next_oid history) (facts_of history b) command s event
  pub follows : FollowsPlan history b s command
  pub going : s.ended ≡ true → TellsAlone history b s command

abbrev pub with_own : List Entry → ℕ → Session → Event → List Entry
with_own history b s event = history ++ entry_of b (number_of s) event ∷ []

-- the session after an entry that left this one
pub record IsNoted (s later : Session) : Type 0 where
  pub after : IsAfter s later
  pub ended : later.ended ≡ s.ended

own_over : (history : List Entry) (b : ℕ) (s later : Session) (command : Command) (event : Event) → OwnEntry history b s command event → IsQuiet event → later.ended ≡ s.ended → is_over (last_event_of history b) s ≡ true → is_over (last_event_of (with_own history b s event) b) later ≡ true
own_over history b s later command event own quiet same over =
    ap (λ last. is_over last later) (last_event_of-own history (entry_of b (number_of s) event) b (eq-eqb b b refl)) ∙ over_stays (last_event_of history b) event s later own.may.comes.follows.gone quiet same over

-- an entry that changes nothing of the command
quiet_follows : (history : List Entry) (b : ℕ) (s later : Session) (command : Command) (event : Event) → OwnEntry history b s command event → IsQuiet event → is_write event ≡ false → ((name : List ℕ) → is_scan_of (scans.RelName name) event ≡ false) → IsNoted s later → FollowsPlan (with_own history b s event) b later command
quiet_follows history b s later command event own quiet unwritten unread noted = follows-more history (entry_of b (number_of s) event) b s later command own.may (λ mine. quiet) (λ c. has_written-quiet history (entry_of b (number_of s) event) b c unwritten)
    (λ name. rows_read-unscanned history (entry_of b (number_of s) event) b (scans.RelName name) (unread name)) (own_over history b s later command event own quiet noted.ended) noted.after noted.ended own.follows

-- an entry that locks a relation or gives a lock back: an act is left before it and after it
taking_follows : (history : List Entry) (b : ℕ) (s later : Session) (command : Command) (event : Event) (act : Act) (rest : List Row → Plan) → OwnEntry history b s command event → is_write event ≡ false → s.left ≡ Do act rest → IsAfterTaking s later → later.refused ≡ s.refused → later.ended ≡ s.ended
    → (way : OnItsWay history b s command) → WayHolds (with_own history b s event) b way.gave (plan_of s.opens command) → TakesNew (made_in locks_by way.gave (plan_of s.opens command)) s.left later.taken → FollowsPlan (with_own history b s event) b later command
taking_follows history b s later command event act rest own unwritten at after refused ended way holds newly = record {
  refused = λ error is. after.left ∙ own.follows.refused error (sym refused ∙ is);
  way = λ none. Begun (begun-more history e b s later command (λ c. has_written-quiet history e b c unwritten) after way holds newly);
  named = subst (NamedFits new b) (sym (after.left ∙ at)) tt;
  sought = λ name is. absurd (let both : Do act rest ≡ Absent name = sym (after.left ∙ at) ∙ is in cc both);
  plain = λ told none. absurd (none_reached way.gave (plan_of s.opens command) act rest (ap acts (plan_same s later command after.opens ∙ none)) (sym way.plan ∙ at));
  admitted = λ none. ap (λ b. refused_by b command) after.blocks ∙ own.follows.admitted (sym refused ∙ none);
  held = λ going. let was = own.follows.held (sym ended ∙ going) in record { more = was.more; opened = after.opened ∙ was.opened ∙ ap (λ l. l ++ was.more) (held_same s later after.opens after.blocks) };
  unwritten = λ told none. ap (λ l. has_written new b (length l + 1)) after.finished ∙ has_written-quiet history e b (number_of s) unwritten ∙ own.follows.unwritten told (plan_same s later command after.opens ∙ none);
}
  where
    e : Entry
    e = entry_of b (number_of s) event

    new : List Entry
    new = history ++ e ∷ []

-- the session after it but for what is newly locked
after_taking : (s later : Session) (taken : Option Oid) → IsAfter (record s { taken = taken }) later → IsAfterTaking s later
after_taking s later taken after = record { left = after.left; opens = after.opens; opened = after.opened; found = after.found; finished = after.finished; blocks = after.blocks }

-- a lock that isn't held is another than those that are
others_held : (history : List Entry) (b : ℕ) (rel : Oid) (mode : Mode) (locked : List LockOn) → holds (held_of history) b rel mode ≡ false → AllByRecursion (IsHeldOn history b) locked → AllByRecursion (IsOtherLock rel mode) locked
others_held history b rel mode locked free held = every-weaker (IsHeldOn history b) (IsOtherLock rel mode)
    (λ o is same_rel same_mode. let both : true ≡ false = sym is ∙ (λ i. holds (held_of history) b (same_rel i) (same_mode i)) ∙ free in cc both) locked held

-- a lock that is granted: none under which the command goes on
lock_follows : (history : List Entry) (b : ℕ) (s later : Session) (command : Command) (rel : Oid) (mode : Mode) → OwnEntry history b s command (events.LockOk rel mode) → IsNoted (record s { taken = Some rel }) later → FollowsPlan (with_own history b s (events.LockOk rel mode)) b later command
lock_follows history b s later command rel mode own noted = by_plan s.left refl own.plays.2
  where
    Newly : (act : Act) (rest : List Row → Plan) → OnItsWay history b s command → Type 0
    Newly act rest way = TakesNew (made_in locks_by way.gave (plan_of s.opens command)) (Do act rest) (Some rel)

    goes : (act : Act) (rest : List Row → Plan) → s.left ≡ Do act rest → ((way : OnItsWay history b s command) → Newly act rest way) → FollowsPlan (with_own history b s (events.LockOk rel mode)) b later command
    goes act rest at newly = taking_follows history b s later command (events.LockOk rel mode) act rest own refl at (after_taking s later (Some rel) noted.after) noted.after.refused noted.ended way
        (way_stays history (entry_of b (number_of s) (events.LockOk rel mode)) b way.gave (plan_of s.opens command) own.may (λ mine. tt) (its_order history b s command way) way.holds)
        (subst (λ p. TakesNew (made_in locks_by way.gave (plan_of s.opens command)) p later.taken) (sym at) (subst (TakesNew (made_in locks_by way.gave (plan_of s.opens command)) (Do act rest)) (sym noted.after.taken) (newly way)))
      where
        way : OnItsWay history b s command
        way = on_its_way history b s command act rest own.follows at

    by_plan : (p : Plan) → s.left ≡ p → IsLock (facts_of history b) p rel mode → FollowsPlan (with_own history b s (events.LockOk rel mode)) b later command
    by_plan (Do (Lookup name wanted) rest) at asks = goes (Lookup name wanted) rest at (λ way. subst (λ m. AllByRecursion (IsOtherLock rel m) (made_in locks_by way.gave (plan_of s.opens command))) asks.1
        (others_held history b rel mode (made_in locks_by way.gave (plan_of s.opens command)) own.may.comes.follows.event.0 way.holds.locked))
    by_plan (Do (Lock on wanted) rest) at asks = goes (Lock on wanted) rest at (λ way. tt)
    by_plan (Do (Open of kind) rest) at asks = absurd asks
    by_plan (Do (Search scan) rest) at asks = absurd asks
    by_plan (Do (Read scan) rest) at asks = absurd asks
    by_plan (Do (Write draft) rest) at asks = absurd asks
    by_plan (Done told) at asks = absurd asks
    by_plan (Fails error) at asks = absurd asks
    by_plan (Absent name) at asks = absurd asks

-- a lock that is given back: a lookup has newly taken it, so it is none under which the command goes on
unlock_follows : (history : List Entry) (b : ℕ) (s later : Session) (command : Command) (rel : Oid) (mode : Mode) → OwnEntry history b s command (events.Unlock rel mode) → IsNoted (record s { taken = None }) later → FollowsPlan (with_own history b s (events.Unlock rel mode)) b later command
unlock_follows history b s later command rel mode own noted = by_plan s.left refl own.plays.1
  where
    by_plan : (p : Plan) → s.left ≡ p → IsUnlock (facts_of history b) s.taken p rel mode → FollowsPlan (with_own history b s (events.Unlock rel mode)) b later command
    by_plan (Do (Lookup name wanted) rest) at asks = taking_follows history b s later command (events.Unlock rel mode) (Lookup name wanted) rest own refl at (after_taking s later None noted.after) noted.after.refused noted.ended way
        (way_unlocked history b (number_of s) rel mode way.gave (plan_of s.opens command) own.may (its_order history b s command way) way.holds
        (subst (λ m. AllByRecursion (IsOtherLock rel m) locked) (sym asks.1) (subst (TakesNew locked (Do (Lookup name wanted) rest)) asks.0 (subst (λ p. TakesNew locked p s.taken) at way.newly))))
        (subst (TakesNew locked s.left) (sym noted.after.taken) (takes_none locked s.left))
      where
        way : OnItsWay history b s command
        way = on_its_way history b s command (Lookup name wanted) rest own.follows at

        locked : List LockOn
        locked = made_in locks_by way.gave (plan_of s.opens command)
    by_plan (Do (Open of kind) rest) at asks = absurd asks
    by_plan (Do (Search scan) rest) at asks = absurd asks
    by_plan (Do (Read scan) rest) at asks = absurd asks
    by_plan (Do (Lock of wanted) rest) at asks = absurd asks
    by_plan (Do (Write draft) rest) at asks = absurd asks
    by_plan (Done told) at asks = absurd asks
    by_plan (Fails error) at asks = absurd asks
    by_plan (Absent name) at asks = absurd asks

-- an entry that shows an error
error_follows : (seen : List Entry) (b : ℕ) (s later : Session) (command : Command) (error : CommandError) → ((told : Told) → plan_of s.opens command ≡ Done told → DoesNoAct s told) → (s.ended ≡ false → StillHolds s) → ((told : Told) → plan_of s.opens command ≡ Done told → has_written seen b (number_of s) ≡ false) → IsNoted (refused_with error s) later → FollowsPlan seen b later command
error_follows seen b s later command error plain held unwritten noted = record {
  refused = λ shown is. noted.after.left ∙ (let both : Some error ≡ Some shown = sym noted.after.refused ∙ is in cc both);
  way = λ none. absurd (let both : Some error ≡ None = sym noted.after.refused ∙ none in cc both);
  named = subst (NamedFits seen b) (sym noted.after.left) tt;
  sought = λ name is. absurd (let both : Fails error ≡ Absent name = sym noted.after.left ∙ is in cc both);
  plain = λ told none. record {
    opened = λ going. noted.after.opened ∙ (plain told (plan_same s later command noted.after.opens ∙ none)).opened (sym noted.ended ∙ going) ∙ held_same s later noted.after.opens noted.after.blocks;
    left = λ well. absurd (let both : Badly ≡ Well = ap outcome_of (sym noted.after.left) ∙ well in cc both);
  };
  admitted = λ none. absurd (let both : Some error ≡ None = sym noted.after.refused ∙ none in cc both);
  held = λ going. let was = held (sym noted.ended ∙ going) in record { more = was.more; opened = noted.after.opened ∙ was.opened ∙ ap (λ l. l ++ was.more) (held_same s later noted.after.opens noted.after.blocks) };
  unwritten = λ told none. ap (λ l. has_written seen b (length l + 1)) noted.after.finished ∙ unwritten told (plan_same s later command noted.after.opens ∙ none);
}

-- a command that failed to find a relation makes no scan
pub scan_there : (facts : Facts) (s : Session) (scan : Purpose) (plan : Plan) → s.left ≡ plan → is_next_in scan facts (work_of s) ≡ true → is_absent plan ≡ false
scan_there facts s scan (Absent name) at is = absurd (let no : false ≡ true = sym (ap (λ p. list_any (same_scan scan) (elim (outcome_of p) as (λ x. List Purpose) [ Badly ↦ [] | other ↦ flat_map (λ (o : Opening). take 1 (missing facts.kept (build_scans o.kind o.rel))) s.opened ++ act_next facts p ])) at) ∙ is in cc no)
scan_there facts s scan plan at is = refl

-- a scan
scan_follows : (history : List Entry) (b : ℕ) (s later : Session) (command : Command) (scan : Purpose) (count : ℕ) → OwnEntry history b s command (events.Scan scan count) → IsNoted s later → FollowsPlan (with_own history b s (events.Scan scan count)) b later command
scan_follows history b s later command scan count own noted = record {
  refused = λ error is. noted.after.left ∙ own.follows.refused error (sym noted.after.refused ∙ is);
  way = λ none. way-more history e b s later command own.may (λ mine. tt) (λ c. has_written-quiet history e b c refl) (own_over history b s later command (events.Scan scan count) own tt noted.ended) noted.after (own.follows.way (sym noted.after.refused ∙ none));
  named = subst (NamedFits new b) (sym noted.after.left) (named_there new b s.left there);
  sought = λ name is. absurd (let both : false ≡ true = sym there ∙ ap is_absent (sym noted.after.left ∙ is) in cc both);
  plain = λ told none. plain-more s later told (before_end s later noted.after noted.ended) (own.follows.plain told (plan_same s later command noted.after.opens ∙ none));
  admitted = admitted-more s later command (before_end s later noted.after noted.ended) own.follows.admitted;
  held = holds-more s later (before_end s later noted.after noted.ended) own.follows.held;
  unwritten = λ told none. ap (λ l. has_written new b (length l + 1)) noted.after.finished ∙ has_written-quiet history e b (number_of s) refl ∙ own.follows.unwritten told (plan_same s later command noted.after.opens ∙ none);
}
  where
    e : Entry
    e = entry_of b (number_of s) (events.Scan scan count)

    new : List Entry
    new = history ++ e ∷ []

    there : is_absent s.left ≡ false
    there = scan_there (facts_of history b) s scan s.left refl own.plays.1

-- a command whose plan isn't done hasn't made its release
pub not_released : (history : List Entry) (b : ℕ) (s : Session) (command : Command) (plan : Plan) → s.left ≡ plan → ((told : Told) → plan ≡ Done told → ⊥) → (s.ended ≡ true → TellsAlone history b s command) → s.ended ≡ false
not_released history b s command plan at undone going = by_ended s.ended refl
  where
    by_ended : (t : Bool) → s.ended ≡ t → s.ended ≡ false
    by_ended false is = is
    by_ended true is = let alone = going is in absurd (undone alone.told (sym at ∙ alone.left))

-- all but the last
but_last : {X : Type 0} (xs : List X) (x : X) → take (length (xs ++ x ∷ []) - 1) (xs ++ x ∷ []) ≡ xs
but_last xs x = ap (λ n. take n (xs ++ x ∷ [])) (let more = length-append xs (x ∷ []) in omega (arith, more)) ∙ take-append_seam xs (x ∷ [])

-- a fetch brings a command that failed to find a relation back to its last lookup
brought_back : (history : List Entry) (b : ℕ) (s later : Session) (command : Command) (name : List ℕ) (event : Event) → OwnEntry history b s command event → IsQuiet event → is_write event ≡ false → ((own : List ℕ) → is_scan_of (scans.RelName own) event ≡ false) → s.left ≡ Absent name
    → IsNoted (record s { left = s.sought; found = take (length s.found - 1) s.found }) later → FollowsPlan (with_own history b s event) b later command
brought_back history b s later command name event own quiet unwritten unread at noted = record {
  refused = λ error is. absurd (let both : Absent name ≡ Fails error = sym at ∙ own.follows.refused error (sym after.refused ∙ is) in cc both);
  way = λ none. Begun (record {
    gave = was.gave;
    plan = after.left ∙ was.plan ∙ ap (reached was.gave) same;
    found = after.found ∙ ap (λ l. take (length l - 1) l) was.found ∙ but_last (made_in found_by was.gave (plan_of s.opens command)) None ∙ ap (made_in found_by was.gave) same;
    opened = after.opened ∙ was.opened going ∙ (λ i. held_same s later after.opens after.blocks i ++ made_in opening_by was.gave (same i));
    holds = subst (WayHolds new b was.gave) same (way_stays history e b was.gave (plan_of s.opens command) own.may (λ mine. quiet) (follows_order s.opens command) (was.holds not_over));
    newly = subst (TakesNew (made_in locks_by was.gave (plan_of later.opens command)) later.left) (sym (after.taken ∙ was.taken)) (takes_none (made_in locks_by was.gave (plan_of later.opens command)) later.left);
    unwritten = ap (λ l. has_written new b (length l + 1)) after.finished ∙ has_written-quiet history e b (number_of s) unwritten ∙ was.unwritten;
  });
  named = subst (NamedFits new b) (sym (after.left ∙ was.looks)) tt;
  sought = λ other is. absurd (let both : Do (Lookup name was.mode) was.rest ≡ Absent other = sym (after.left ∙ was.looks) ∙ is in cc both);
  plain = λ told none. absurd (none_reached was.gave (plan_of s.opens command) (Lookup name was.mode) was.rest (ap acts (same ∙ none)) (sym was.plan ∙ was.looks));
  admitted = λ none. ap (λ b. refused_by b command) after.blocks ∙ own.follows.admitted (sym after.refused ∙ none);
  held = λ on. record { more = made_in opening_by was.gave (plan_of s.opens command); opened = after.opened ∙ was.opened going ∙ ap (λ l. l ++ made_in opening_by was.gave (plan_of s.opens command)) (held_same s later after.opens after.blocks) };
  unwritten = λ told none. ap (λ l. has_written new b (length l + 1)) after.finished ∙ has_written-quiet history e b (number_of s) unwritten ∙ was.unwritten;
}
  where
    e : Entry
    e = entry_of b (number_of s) event

    new : List Entry
    new = history ++ e ∷ []

    after : IsAfter (record s { left = s.sought; found = take (length s.found - 1) s.found }) later
    after = noted.after

    was : WasSought history b s command name
    was = own.follows.sought name at

    same : plan_of s.opens command ≡ plan_of later.opens command
    same = plan_same s later command after.opens

    going : s.ended ≡ false
    going = not_released history b s command (Absent name) at (λ told is. cc is) own.going

    not_over : is_over (last_event_of history b) s ≡ false
    not_over = by_test (is_over (last_event_of history b) s) refl
      where
        by_test : (t : Bool) → is_over (last_event_of history b) s ≡ t → is_over (last_event_of history b) s ≡ false
        by_test false is = is
        by_test true is = absurd (let both : true ≡ false = sym (over_before (last_event_of history b) event s own.may.comes.follows.gone quiet is) ∙ going in cc both)

-- a fetch
fetch_follows : (history : List Entry) (b : ℕ) (s later : Session) (command : Command) (event : Event) → OwnEntry history b s command event → IsQuiet event → is_write event ≡ false → ((name : List ℕ) → is_scan_of (scans.RelName name) event ≡ false) → IsNoted (resumed s.left s) later
    → FollowsPlan (with_own history b s event) b later command
fetch_follows history b s later command event own quiet unwritten unread noted = by_plan s.left refl noted
  where
    by_plan : (p : Plan) → s.left ≡ p → IsNoted (resumed p s) later → FollowsPlan (with_own history b s event) b later command
    by_plan (Absent name) at is = brought_back history b s later command name event own quiet unwritten unread at is
    by_plan p at is = quiet_follows history b s later command event own quiet unwritten unread is

-- the backend has written in the command, after its write
written_now : (history : List Entry) (b c : ℕ) (xid : Xid) (items : List Item) → has_written (history ++ entry_of b c (events.Write xid items) ∷ []) b c ≡ true
written_now history b c xid items = has_written-more history (entry_of b c (events.Write xid items)) b c
    ∙ (λ i. has_written history b c || (eq-eqb b b refl i && eq-eqb c c refl i && true)) ∙ or-true (has_written history b c)

-- a write
write_follows : (history : List Entry) (b : ℕ) (s later : Session) (command : Command) (xid : Xid) (items : List Item) → OwnEntry history b s command (events.Write xid items) → IsNoted (written s.left s) later → FollowsPlan (with_own history b s (events.Write xid items)) b later command
write_follows history b s later command xid items own noted = by_plan s.left refl own.plays.1 noted
  where
    new : List Entry
    new = with_own history b s (events.Write xid items)

    by_plan : (p : Plan) → s.left ≡ p → IsWrite (next_oid history) p items → IsNoted (written p s) later → FollowsPlan new b later command
    by_plan (Do (Write draft) rest) at writes is = record {
      refused = λ error shown. absurd (let both : None ≡ Some error = sym (unrefused history b s command (Write draft) rest own.follows at) ∙ sym is.after.refused ∙ shown in cc both);
      way = λ none. Wrote (record {
        gave = way.gave;
        draft = draft;
        further = rest;
        came = ap (reached way.gave) (sym (plan_same s later command is.after.opens)) ∙ sym way.plan ∙ at;
        plan = done;
        written = ap (λ l. has_written new b (length l + 1)) is.after.finished ∙ written_now history b (number_of s) xid items;
      });
      named = subst (NamedFits new b) (sym done) tt;
      sought = λ name absent. absurd (let both : Done tells.Ok ≡ Absent name = sym done ∙ absent in cc both);
      plain = λ told none. absurd (none_reached way.gave (plan_of s.opens command) (Write draft) rest (ap acts (plan_same s later command is.after.opens ∙ none)) (sym way.plan ∙ at));
      admitted = λ none. ap (λ b. refused_by b command) is.after.blocks ∙ own.follows.admitted (sym is.after.refused ∙ none);
      held = λ going. record { more = []; opened = is.after.opened ∙ held_same s later is.after.opens is.after.blocks ∙ sym (append-nil (held_before later)) };
      unwritten = λ told none. absurd (none_reached way.gave (plan_of s.opens command) (Write draft) rest (ap acts (plan_same s later command is.after.opens ∙ none)) (sym way.plan ∙ at));
    }
      where
        way : OnItsWay history b s command
        way = on_its_way history b s command (Write draft) rest own.follows at

        done : later.left ≡ Done tells.Ok
        done = is.after.left ∙ (its_place history b s command (Write draft) rest way at).0 []
    by_plan (Do (Lookup name mode) rest) at writes is = absurd writes
    by_plan (Do (Open rel kind) rest) at writes is = absurd writes
    by_plan (Do (Search scan) rest) at writes is = absurd writes
    by_plan (Do (Read scan) rest) at writes is = absurd writes
    by_plan (Do (Lock rel mode) rest) at writes is = absurd writes
    by_plan (Done told) at writes is = absurd writes
    by_plan (Fails error) at writes is = absurd writes
    by_plan (Absent name) at writes is = absurd writes

-- a command that is at its end has come out
pub ends_out : (facts : Facts) (command : Command) (s : Session) (event : Event) → end_left_in facts command (work_of s) ≡ Some event → is_settled (outcome_of s.left) ≡ true
ends_out facts command s event is = by_outcome (outcome_of s.left) (by_ended s.ended is)
  where
    by_ended : (t : Bool) → elim t as (λ x. Option Event) [ true ↦ None | false ↦ next_of_end facts (end_in facts command (work_of s)) ] ≡ Some event → next_of_end facts (end_in facts command (work_of s)) ≡ Some event
    by_ended true left = absurd (cc left)
    by_ended false left = left

    by_outcome : (o : Outcome) → next_of_end facts (elim o as (λ x. End) [ Well ↦ end_well_in facts command (work_of s) | Badly ↦ end_badly_in (work_of s) | Unsettled ↦ Ends ]) ≡ Some event → is_settled o ≡ true
    by_outcome Unsettled left = absurd (cc left)
    by_outcome Well left = refl
    by_outcome Badly left = refl

-- a taking back, or a release
over_follows : (history : List Entry) (b : ℕ) (s later : Session) (command : Command) (event : Event) → OwnEntry history b s command event → is_settled (outcome_of s.left) ≡ true → is_write event ≡ false → ((name : List ℕ) → is_scan_of (scans.RelName name) event ≡ false) → is_over (Some event) later ≡ true → IsAfterEnd s later
    → FollowsPlan (with_own history b s event) b later command
over_follows history b s later command event own out unwritten unread over after = record {
  refused = λ error is. after.left ∙ own.follows.refused error (sym after.refused ∙ is);
  way = λ none. Over (record { out = ap (λ p. is_settled (outcome_of p)) after.left ∙ out; over = ap (λ last. is_over last later) (last_event_of-own history e b (eq-eqb b b refl)) ∙ over });
  named = subst (NamedFits new b) (sym after.left) (named-more history e b s.left (λ name. rows_read-unscanned history e b (scans.RelName name) (unread name)) own.follows.named);
  sought = λ name is. sought-more history e b s later command name (λ c. has_written-quiet history e b c unwritten) after over_holds (own.follows.sought name (sym after.left ∙ is));
  plain = λ told none. plain-more s later told after (own.follows.plain told (plan_same s later command after.opens ∙ none));
  admitted = admitted-more s later command after own.follows.admitted;
  held = holds-more s later after own.follows.held;
  unwritten = λ told none. ap (λ l. has_written new b (length l + 1)) after.finished ∙ has_written-quiet history e b (number_of s) unwritten ∙ own.follows.unwritten told (plan_same s later command after.opens ∙ none);
}
  where
    e : Entry
    e = entry_of b (number_of s) event

    new : List Entry
    new = history ++ e ∷ []

    over_holds : HoldsOn history e b s later
    over_holds gave opens c holds going = absurd (let both : true ≡ false = sym (ap (λ last. is_over last later) (last_event_of-own history e b (eq-eqb b b refl)) ∙ over) ∙ going in cc both)

-- whichever entry it is
pub own_follows : (history : List Entry) (b : ℕ) (s later : Session) (command : Command) (event : Event) → OwnEntry history b s command event → IsNoted (noted event s) later → FollowsPlan (with_own history b s event) b later command
own_follows history b s later command (events.Look some_wait) own noted = quiet_follows history b s later command (events.Look some_wait) own tt refl (λ name. refl) noted
own_follows history b s later command (events.Fetch count) own noted = fetch_follows history b s later command (events.Fetch count) own tt refl (λ name. refl) noted
own_follows history b s later command events.FetchReset own noted = fetch_follows history b s later command events.FetchReset own tt refl (λ name. refl) noted
own_follows history b s later command (events.Scan scan count) own noted = scan_follows history b s later command scan count own noted
own_follows history b s later command (events.LockOk rel mode) own noted = lock_follows history b s later command rel mode own noted
own_follows history b s later command (events.Unlock rel mode) own noted = unlock_follows history b s later command rel mode own noted
own_follows history b s later command (events.LockHeld rel mode holder held) own noted = error_follows (with_own history b s (events.LockHeld rel mode holder held)) b s later command (errors.Locked rel holder held) own.follows.plain own.follows.held (λ told none. has_written-quiet history (entry_of b (number_of s) (events.LockHeld rel mode holder held)) b (number_of s) refl ∙ own.follows.unwritten told none) noted
own_follows history b s later command (events.Write xid items) own noted = write_follows history b s later command xid items own noted
own_follows history b s later command (events.ClashRow name rel) own noted = error_follows (with_own history b s (events.ClashRow name rel)) b s later command (errors.RelationExists name) own.follows.plain own.follows.held (λ told none. has_written-quiet history (entry_of b (number_of s) (events.ClashRow name rel)) b (number_of s) refl ∙ own.follows.unwritten told none) noted
own_follows history b s later command (events.ClashRunning name xid) own noted = error_follows (with_own history b s (events.ClashRunning name xid)) b s later command (errors.NameInUse name xid) own.follows.plain own.follows.held (λ told none. has_written-quiet history (entry_of b (number_of s) (events.ClashRunning name xid)) b (number_of s) refl ∙ own.follows.unwritten told none) noted
own_follows history b s later command (events.Visible xid) own noted = quiet_follows history b s later command (events.Visible xid) own tt refl (λ name. refl) noted
own_follows history b s later command (events.Publish count) own noted = quiet_follows history b s later command (events.Publish count) own tt refl (λ name. refl) noted
own_follows history b s later command (events.Gone from) own noted =
    over_follows history b s later command (events.Gone from) own (ends_out (facts_of history b) command s (events.Gone from) own.plays.1) refl (λ name. refl) refl (before_end s later noted.after noted.ended)
own_follows history b s later command (events.Release from) own noted =
    over_follows history b s later command (events.Release from) own (ends_out (facts_of history b) command s (events.Release from) own.plays.1) refl (λ name. refl) noted.ended
    (let a = noted.after in record { left = a.left; refused = a.refused; opens = a.opens; opened = λ going. absurd (let both : true ≡ false = sym noted.ended ∙ going in cc both); found = a.found; sought = a.sought; finished = a.finished; blocks = a.blocks; taken = a.taken })
own_follows history b s later command event own noted = absurd own.plays
