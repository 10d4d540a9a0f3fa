-- In an allowed history the lock that a lookup has newly taken is held by a grant of its command, so it may be given back.
use Rattle.std.proofs.Common.{◌≡◌, ◌≤◌, ◌<◌, ◌+◌, ◌∙◌, ◌==◌, ◌&&◌, ◌||◌, ℕ, Bool, true, false, Option, Some, None, List, [], ◌∷◌, ◌++◌, refl, sym, ap, subst, map, filter, length, slice_get, arith}
use Rattle.std.specs.Prelude.{⊤, nat_le}
use Rattle.std.specs.List.{AllByRecursion, list_any}
use Rattle.std.proofs.lemmas.Bool.{eq-eqb, eqb-true, eqb-false, and_from, leb-true, leb-false, false_from_ne_true, both_ways}
use Rattle.base_types.specs.Modes.{mode_number, same_mode}
use Rattle.event_kinds.specs.declared.entry.Event.TheVariants as events
use Rattle.command_answers.specs.declared.error.CommandError.TheVariants as errors
use Rattle.lock_modes.specs.Own.{is_own, cleared}
use Rattle.inval_messages.specs.Lists.{Written, has_write_from}
use Rattle.ddl_effect.specs.Plans.{Plan, Done, Fails, Absent, Do, Lookup, Open, Search, Read, Lock, Write}
use Rattle.ddl_effect.specs.Commands.{commands_of}
use Rattle.history_model.specs.Drawn.{next_oid}
use Rattle.history_model.specs.Held.{held_of}
use Rattle.history_model.specs.Sent.{lists_of}
use Rattle.history_model.specs.Sound.{MayComeNext, IsSound}
use Rattle.history_model.specs.Transactions.{has_written}
use Rattle.history_model.proofs.Every.{any-right, every-weaker}
use Rattle.history_model.proofs.Prefixes.{EachEntry-weaker}
use Rattle.cacheless.specs.Types.{Oid, Mode, Row, Item, OwnLock, Scenario, Command, CommandError, Entry, Event}
use Rattle.cacheless.specs.Facts.{Facts, facts_of}
use Rattle.cacheless.specs.Locks.{grant_of, locks_by}
use Rattle.cacheless.specs.OnCourse.{OnItsWay, IsOnCourse, CourseOf}
use Rattle.cacheless.specs.Output.{IsAllowed}
use Rattle.cacheless.specs.Work.{work_of}
use Rattle.cacheless.specs.Owed.{accepts_in, owed_in}
use Rattle.cacheless.specs.Played.{AreSpelled}
use Rattle.cacheless.specs.Plays.{IsLock, IsUnlock, IsWrite, MayPlay, MayPlayLast, MayPlayIn}
use Rattle.cacheless.specs.Session.{Session, number_of, first_of, outcome_of, is_settled}
use Rattle.cacheless.specs.Sessions.{written, resumed, placed_at, counted, entered, session_of}
use Rattle.cacheless.proofs.FactsAfter.{facts_by}
use Rattle.cacheless.proofs.HeldLocks.{lock_of_command, locks_of, locks_are_held, Follows}
use Rattle.cacheless.proofs.Allowed.AllowedHistories.{allowed_sound, allowed_on_course}
use Rattle.cacheless.proofs.Allowed.KeptAlong.{IsKept, HoldsBy, kept_along}
use Rattle.cacheless.proofs.Allowed.NextEntries.{HasNext, IsFree, free_next}
use Rattle.cacheless.proofs.Allowed.OwnEntries.{ends_out}
use Rattle.cacheless.proofs.Plans.SilentActs.{on_its_way}
use Rattle.cacheless.proofs.Written.Listed.{all_written}

-- the lock that a lookup has newly taken, or a further one, is held by a grant of its command; a lookup that found no relation has taken none
abbrev pub TakesFit : ℕ → List OwnLock → Option Oid → Plan → Type 0
TakesFit number locks (Some rel) (Do (Lookup name mode) rest) = list_any (λ lock. is_own rel mode lock && (lock.command == number)) locks ≡ true
TakesFit number locks (Some taken) (Do (Lock rel mode) rest) = list_any (λ lock. is_own rel mode lock && (lock.command == number)) locks ≡ true
TakesFit number locks (Some rel) (Absent name) = ⊥
TakesFit number locks taken plan = ⊤

-- so it is of the running command; after the last one none is newly taken
abbrev pub TakesIn : Option Command → Session → Type 0
TakesIn None s = s.taken ≡ None
TakesIn (Some command) s = TakesFit (number_of s) s.locks s.taken s.left

-- where none is newly taken
takes_none : (number : ℕ) (locks : List OwnLock) (taken : Option Oid) (p : Plan) → taken ≡ None → TakesFit number locks taken p
takes_none number locks None p none = tt
takes_none number locks (Some rel) p none = absurd (cc none)

none_taken : (o : Option Command) (s : Session) → s.taken ≡ None → TakesIn o s
none_taken None s none = none
none_taken (Some command) s none = takes_none (number_of s) s.locks s.taken s.left none

own_cleared : (rel : Oid) (mode : Mode) (number : ℕ) (locks : List OwnLock) → list_any (λ lock. is_own rel mode lock && (lock.command == number)) (map cleared locks) ≡ list_any (λ lock. is_own rel mode lock && (lock.command == number)) locks
own_cleared rel mode number [] = refl
own_cleared rel mode number (lock ∷ locks) = ap (λ t. (is_own rel mode lock && (lock.command == number)) || t) (own_cleared rel mode number locks)

-- a lock that becomes clear is the same lock
takes_cleared : (t : Bool) (number : ℕ) (locks : List OwnLock) (taken : Option Oid) (p : Plan) → TakesFit number locks taken p → TakesFit number (elim t as (λ x. List OwnLock) [ true ↦ locks | false ↦ map cleared locks ]) taken p
takes_cleared true number locks taken p takes = takes
takes_cleared false number locks None p takes = tt
takes_cleared false number locks (Some rel) (Do (Lookup name mode) rest) takes = own_cleared rel mode number locks ∙ takes
takes_cleared false number locks (Some rel) (Absent name) takes = takes
takes_cleared false number locks (Some rel) (Do (Open of kind) rest) takes = tt
takes_cleared false number locks (Some rel) (Do (Search scan) rest) takes = tt
takes_cleared false number locks (Some rel) (Do (Read scan) rest) takes = tt
takes_cleared false number locks (Some taken) (Do (Lock rel mode) rest) takes = own_cleared rel mode number locks ∙ takes
takes_cleared false number locks (Some rel) (Do (Write draft) rest) takes = tt
takes_cleared false number locks (Some rel) (Done told) takes = tt
takes_cleared false number locks (Some rel) (Fails error) takes = tt

-- the lock that an entry grants is held by a grant of the command
takes_granted : (facts : Facts) (number c : ℕ) (locks : List OwnLock) (p : Plan) (rel : Oid) (mode : Mode) → c ≡ number → IsLock facts p rel mode → TakesFit number (locks ++ record { rel = rel; mode = mode; command = c; clear = false } ∷ []) (Some rel) p
takes_granted facts number c locks (Do (Lookup name wanted) rest) rel mode same asks = any-right (λ (lock : OwnLock). is_own rel wanted lock && (lock.command == number)) locks (new ∷ [])
    (ap (λ t. t || false) (and_from (is_own rel wanted new) (c == number) (and_from (rel.0 == rel.0) (same_mode mode wanted) (eq-eqb rel.0 rel.0 refl) (eq-eqb (mode_number mode) (mode_number wanted) (ap mode_number asks.1))) (eq-eqb c number same)))
  where
    new : OwnLock
    new = record { rel = rel; mode = mode; command = c; clear = false }
takes_granted facts number c locks (Do (Lock of wanted) rest) rel mode same asks = any-right (λ (lock : OwnLock). is_own of wanted lock && (lock.command == number)) locks (new ∷ [])
    (ap (λ t. t || false) (and_from (is_own of wanted new) (c == number) (and_from (rel.0 == of.0) (same_mode mode wanted) (eq-eqb rel.0 of.0 (ap (λ (o : Oid). o.0) asks.0)) (eq-eqb (mode_number mode) (mode_number wanted) (ap mode_number asks.1))) (eq-eqb c number same)))
  where
    new : OwnLock
    new = record { rel = rel; mode = mode; command = c; clear = false }
takes_granted facts number c locks (Do (Open of kind) rest) rel mode same asks = absurd asks
takes_granted facts number c locks (Do (Search scan) rest) rel mode same asks = absurd asks
takes_granted facts number c locks (Do (Read scan) rest) rel mode same asks = absurd asks
takes_granted facts number c locks (Do (Write draft) rest) rel mode same asks = absurd asks
takes_granted facts number c locks (Done told) rel mode same asks = absurd asks
takes_granted facts number c locks (Fails error) rel mode same asks = absurd asks
takes_granted facts number c locks (Absent name) rel mode same asks = absurd asks

-- a command that has come out needs none
takes_out : (number number' : ℕ) (locks locks' : List OwnLock) (taken : Option Oid) (p : Plan) → is_settled (outcome_of p) ≡ true → TakesFit number locks taken p → TakesFit number' locks' taken p
takes_out number number' locks locks' None p out takes = tt
takes_out number number' locks locks' (Some rel) (Do act rest) out takes = absurd (cc out)
takes_out number number' locks locks' (Some rel) (Absent name) out takes = takes
takes_out number number' locks locks' (Some rel) (Done told) out takes = tt
takes_out number number' locks locks' (Some rel) (Fails error) out takes = tt

-- nor does one that an entry refuses
takes_failed : (number : ℕ) (locks : List OwnLock) (taken : Option Oid) (error : CommandError) → TakesFit number locks taken (Fails error)
takes_failed number locks None error = tt
takes_failed number locks (Some rel) error = tt

-- a lookup that goes on has taken none
takes_resumed : (p : Plan) (s : Session) → s.left ≡ p → TakesFit (number_of s) s.locks s.taken s.left → TakesFit (number_of (resumed p s)) s.locks (resumed p s).taken (resumed p s).left
takes_resumed (Absent name) s at takes = by_taken s.taken (subst (TakesFit (number_of s) s.locks s.taken) at takes)
  where
    by_taken : (o : Option Oid) → TakesFit (number_of s) s.locks o (Absent name) → TakesFit (number_of s) s.locks o s.sought
    by_taken None none = tt
    by_taken (Some rel) none = absurd none
takes_resumed (Done told) s at takes = takes
takes_resumed (Fails error) s at takes = takes
takes_resumed (Do act rest) s at takes = takes

-- a write leaves none
takes_written : (next number : ℕ) (items : List Item) (locks : List OwnLock) (p : Plan) (s : Session) → IsWrite next p items → TakesFit number locks (written p s).taken (written p s).left
takes_written next number items locks (Do (Write draft) rest) s writes = tt
takes_written next number items locks (Do (Lookup name mode) rest) s writes = absurd writes
takes_written next number items locks (Do (Open of kind) rest) s writes = absurd writes
takes_written next number items locks (Do (Search scan) rest) s writes = absurd writes
takes_written next number items locks (Do (Read scan) rest) s writes = absurd writes
takes_written next number items locks (Do (Lock of mode) rest) s writes = absurd writes
takes_written next number items locks (Done told) s writes = absurd writes
takes_written next number items locks (Fails error) s writes = absurd writes
takes_written next number items locks (Absent name) s writes = absurd writes

-- what an entry of a command leaves, before locks become clear
abbrev TakesThen : Facts → ℕ → Event → Session → Type 0
TakesThen later at event s = let now = counted later event (placed_at at (number_of s) event s) in TakesFit (number_of now) now.locks now.taken now.left

takes_by : (history : List Entry) (b : ℕ) (later : Facts) (at : ℕ) (command : Command) (s : Session) (event : Event) → MayPlay (next_oid history) (facts_of history b) command s event → TakesFit (number_of s) s.locks s.taken s.left → TakesThen later at event s
takes_by history b later at command s (events.Look some_wait) may takes = takes
takes_by history b later at command s (events.Fetch count) may takes = takes_resumed s.left s refl takes
takes_by history b later at command s events.FetchReset may takes = takes_resumed s.left s refl takes
takes_by history b later at command s (events.Scan scan rows) may takes = takes
takes_by history b later at command s (events.LockOk rel mode) may takes = takes_granted (facts_of history b) (number_of s) (number_of s) s.locks s.left rel mode refl may.2
takes_by history b later at command s (events.LockHeld rel mode holder held) may takes = takes_failed (number_of s) s.locks s.taken (errors.Locked rel holder held)
takes_by history b later at command s (events.Unlock rel mode) may takes = tt
takes_by history b later at command s (events.Write xid items) may takes = takes_written (next_oid history) (number_of (written s.left s)) items (locks_by (number_of s) (events.Write xid items) s.locks) s.left s may.1
takes_by history b later at command s (events.ClashRow name rel) may takes = takes_failed (number_of s) s.locks s.taken (errors.RelationExists name)
takes_by history b later at command s (events.ClashRunning name xid) may takes = takes_failed (number_of s) s.locks s.taken (errors.NameInUse name xid)
takes_by history b later at command s (events.Visible xid) may takes = takes
takes_by history b later at command s (events.Publish count) may takes = takes
takes_by history b later at command s (events.Gone from) may takes = takes
takes_by history b later at command s (events.Release from) may takes = takes_out (number_of s) (number_of s) s.locks (locks_by (number_of s) (events.Release from) s.locks) s.taken s.left (ends_out (facts_of history b) command s (events.Release from) may.1) takes
takes_by history b later at command s event may takes = absurd may

resumed_taken : (p : Plan) (s : Session) → (resumed p s).taken ≡ s.taken
resumed_taken (Absent name) s = refl
resumed_taken (Done told) s = refl
resumed_taken (Fails error) s = refl
resumed_taken (Do act rest) s = refl

-- after the last command none is taken
last_taken : (facts later : Facts) (at : ℕ) (s : Session) (event : Event) → MayPlayLast facts s event → s.taken ≡ None → (counted later event (placed_at at (number_of s) event s)).taken ≡ None
last_taken facts later at s (events.Fetch count) may none = resumed_taken s.left s ∙ none
last_taken facts later at s events.FetchReset may none = resumed_taken s.left s ∙ none
last_taken facts later at s (events.Look some_wait) may none = none
last_taken facts later at s (events.Scan scan rows) may none = none
last_taken facts later at s (events.Gone from) may none = none
last_taken facts later at s (events.Release from) may none = none
last_taken facts later at s events.Stop may none = none
last_taken facts later at s event may none = absurd may

entered_takes : (history : List Entry) (b : ℕ) (later : Facts) (at : ℕ) (o : Option Command) (s : Session) (event : Event) (left : List Command) → MayPlayIn (next_oid history) (facts_of history b) o s event → TakesIn o s → TakesIn o (entered later left at (number_of s) event s)
entered_takes history b later at None s event left may none = last_taken (facts_of history b) later at s event may none
entered_takes history b later at (Some command) s event left may takes = takes_cleared (accepts_in later (work_of now) (first_of left)) (number_of now) now.locks now.taken now.left (takes_by history b later at command s event may takes)
  where
    now : Session
    now = counted later event (placed_at at (number_of s) event s)

-- so it is kept
taken_kept : (scenario : Scenario) → IsKept scenario (λ facts. ⊤) (λ facts. TakesIn)
taken_kept scenario = record {
  first = λ b. tt;
  starts = λ history b c o first. none_taken o _ refl;
  enters = λ history b o s event left makes first takes. entered_takes history b (facts_by history b (number_of s) event (facts_of history b)) (length history + 1) o s event left makes.plays takes;
  acts = λ facts command s act rest given at free done takes. tt;
  passes = λ facts command next s over takes. none_taken next _ refl;
}

-- a lock that is newly taken in an allowed history is held by a grant of its command
pub allowed_takes : (scenario : Scenario) (history : List Entry) (b : ℕ) (s : Session) (command : Command) → AreSpelled scenario → IsAllowed scenario history → session_of scenario history b ≡ Some s → slice_get (commands_of scenario b) (length s.finished) ≡ Some command → TakesFit (number_of s) s.locks s.taken s.left
allowed_takes scenario history b s command spelled allowed is at = subst (λ o. TakesIn o s) at
    (subst (λ (o : Option Session). elim o as (λ x. Type 0) [ None ↦ ⊤ | Some x ↦ TakesIn (slice_get (commands_of scenario b) (length x.finished)) x ]) is (as_elim (session_of scenario history b) (kept_along scenario (λ facts. ⊤) (λ facts. TakesIn) (taken_kept scenario) history spelled allowed b)))
  where
    as_elim : (o : Option Session) → HoldsBy scenario (λ facts. ⊤) (λ facts. TakesIn) (taken_kept scenario) b (facts_of history b) o → elim o as (λ x. Type 0) [ None ↦ ⊤ | Some x ↦ TakesIn (slice_get (commands_of scenario b) (length x.finished)) x ]
    as_elim None holds = tt
    as_elim (Some x) holds = holds

-- a lookup gives back what it has taken
record IsLookup (taken : Option Oid) (p : Plan) (rel : Oid) (mode : Mode) : Type 0 where
  name : List ℕ
  rest : List Row → Plan
  is : p ≡ Do (Lookup name mode) rest
  took : taken ≡ Some rel

unlocks_lookup : (facts : Facts) (taken : Option Oid) (p : Plan) (rel : Oid) (mode : Mode) → IsUnlock facts taken p rel mode → IsLookup taken p rel mode
unlocks_lookup facts taken (Do (Lookup name wanted) rest) rel mode asks = record { name = name; rest = rest; is = ap (λ m. Do (Lookup name m) rest) (sym asks.1); took = asks.0 }
unlocks_lookup facts taken (Do (Open of kind) rest) rel mode asks = absurd asks
unlocks_lookup facts taken (Do (Search scan) rest) rel mode asks = absurd asks
unlocks_lookup facts taken (Do (Read scan) rest) rel mode asks = absurd asks
unlocks_lookup facts taken (Do (Lock of wanted) rest) rel mode asks = absurd asks
unlocks_lookup facts taken (Do (Write draft) rest) rel mode asks = absurd asks
unlocks_lookup facts taken (Done told) rel mode asks = absurd asks
unlocks_lookup facts taken (Fails error) rel mode asks = absurd asks
unlocks_lookup facts taken (Absent name) rel mode asks = absurd asks

none_standing : (n : ℕ) (lists : List Written) → AllByRecursion (λ (list : Written). list.command < n) lists → has_write_from n lists ≡ false
none_standing n [] all = refl
none_standing n (w ∷ lists) all = λ i. false_from_ne_true (nat_le n w.command) (λ is. absurd (omega (arith, leb-true n w.command is, all.0))) i || none_standing n lists all.1 i

-- where no command from this one on has written, no write of these stands
pub unwritten_from : (history : List Entry) (b n : ℕ) → IsSound history → has_written history b n ≡ false → ((c : ℕ) → n < c → has_written history b c ≡ false) → has_write_from n (lists_of history b) ≡ false
unwritten_from history b n sound none later = none_standing n (lists_of history b) (every-weaker (λ (list : Written). has_written history b list.command ≡ true) (λ (list : Written). list.command < n) low (lists_of history b) (all_written b history sound))
  where
    low : (list : Written) → has_written history b list.command ≡ true → list.command < n
    low list is = by_order (nat_le n list.command) refl
      where
        by_same : (t : Bool) → (list.command == n) ≡ t → n ≤ list.command → list.command < n
        by_same true same above = absurd (both_ways _ none (sym (ap (has_written history b) (eqb-true list.command n same)) ∙ is))
        by_same false differs above = absurd (both_ways _ (later list.command (omega (arith, above, eqb-false list.command n differs))) is)

        by_order : (t : Bool) → nat_le n list.command ≡ t → list.command < n
        by_order true above = by_same (list.command == n) refl (leb-true n list.command above)
        by_order false below = omega (arith, leb-false n list.command below)

-- such a lock may be given back
pub unlock_next : (scenario : Scenario) (history : List Entry) (b : ℕ) (s : Session) (command : Command) (rel : Oid) (mode : Mode) → IsFree scenario history b s → slice_get (commands_of scenario b) (length s.finished) ≡ Some command → owed_in (facts_of history b) command (work_of s) ≡ []
    → IsUnlock (facts_of history b) s.taken s.left rel mode → HasNext scenario history b
unlock_next scenario history b s command rel mode free at none asks = free_next scenario history b s (events.Unlock rel mode) free tt (lock_of_command b (number_of s) rel mode (held_of history) s.locks grants granted, standing) tt tt
    (subst (λ o. MayPlayIn (next_oid history) (facts_of history b) o s (events.Unlock rel mode)) (sym at) (none, asks))
  where
    sound : IsSound history
    sound = allowed_sound scenario history free.spelled free.allowed

    lookup : IsLookup s.taken s.left rel mode
    lookup = unlocks_lookup (facts_of history b) s.taken s.left rel mode asks

    course : IsOnCourse scenario history b s
    course = subst (CourseOf scenario history b) free.is (allowed_on_course scenario history free.spelled free.allowed b)

    way : OnItsWay history b s command
    way = on_its_way history b s command (Lookup lookup.name mode) lookup.rest (course.follows command at) lookup.is

    granted : list_any (λ lock. is_own rel mode lock && (lock.command == number_of s)) s.locks ≡ true
    granted = subst (TakesFit (number_of s) s.locks (Some rel)) lookup.is (subst (λ o. TakesFit (number_of s) s.locks o s.left) lookup.took (allowed_takes scenario history b s command free.spelled free.allowed free.is at))

    standing : has_write_from (number_of s) (lists_of history b) ≡ false
    standing = unwritten_from history b (number_of s) sound way.unwritten course.later

    grants : filter (λ g. g.backend == b) (held_of history) ≡ map (grant_of b) s.locks
    grants = locks_are_held scenario history b (EachEntry-weaker MayComeNext Follows (λ before e comes. comes.follows.life) history sound) ∙ ap (λ o. map (grant_of b) (locks_of o)) free.is
