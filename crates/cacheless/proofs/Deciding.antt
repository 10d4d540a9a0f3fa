-- The rule decides what may come next: what the definitions' relation says, it answers.
use Rattle.std.proofs.Common.{◌≡◌, ◌∙◌, ◌&&◌, ℕ, Bool, true, false, not, Option, Some, None, List, [], ◌∷◌, ◌++◌, refl, sym, ap, subst, is_none, is_some, unwrap_or, slice_get, length, map, if◌then◌else◌, zero, suc, ◌==◌, nat_le}
use Rattle.std.specs.Bool.{Decides}
use Rattle.std.specs.List.{list_any, flat_map, AllByRecursion}
use Rattle.std.specs.Option.{option_map_or}
use Rattle.std.specs.Prelude.{IfSome, ⊤}
use Rattle.std.proofs.lemmas.Bool.{eq-eqb, eqb-true, leb-true, le-leb}
use Rattle.base_types.specs.Modes.{same_mode}
use Rattle.base_types.specs.Scans.{same_oid}
use Rattle.base_types.specs.declared.change.Change.{Change}
use Rattle.base_types.specs.declared.change.Change.TheVariants as changes
use Rattle.base_types.specs.declared.row.Row.TheVariants as rows
use Rattle.base_types.specs.declared.scan.Purpose.TheVariants as scans
use Rattle.event_kinds.specs.declared.entry.Event.TheVariants as events
use Rattle.event_kinds.specs.declared.entry.Item.TheVariants as items
use Rattle.inval_messages.specs.Lists.{has_write_from}
use Rattle.local_caches.specs.Kept.{rows_kept}
use Rattle.ddl_effect.specs.Drawing.{drawn_change}
use Rattle.ddl_effect.specs.Plans.{Plan, Do, Lookup, Lock, Write}
use Rattle.history_model.specs.Changes.{item_of, items_of}
use Rattle.history_model.specs.Names.{has_name}
use Rattle.txn_blocks.specs.declared.transaction.RunningTransaction.{RunningTransaction}
use Rattle.history_model.specs.Transactions.{is_visible}
use Rattle.history_model.specs.Sent.{unsent_in}
use Rattle.history_model.specs.Changing.{is_empty}
use Rattle.history_model.proofs.Decided.{always, never, both_decide, decided_by, mode_decides}
use Rattle.cacheless.specs.Types.{Oid, Xid, Mode, Row, Purpose, Command, Scenario, Entry, Item, Event, Opening}
use Rattle.cacheless.specs.declared.progress.Progress.{Progress}
use Rattle.cacheless.specs.Facts.{Facts, facts_of}
use Rattle.cacheless.specs.Session.{Session, number_of}
use Rattle.cacheless.specs.Sessions.{session_of}
use Rattle.cacheless.specs.Nexts.{is_start, is_next_event, is_next, are_next}
use Rattle.ddl_effect.specs.Commands.{commands_of}
use Rattle.history_model.specs.Drawn.{next_oid}
use Rattle.history_model.specs.Prefixes.{EachFrom}
use Rattle.cacheless.specs.Work.{work_of}
use Rattle.cacheless.specs.Owed.{Owes, owed_after, owed_in, is_free, is_next_in, has_looked_in}
use Rattle.cacheless.specs.Ends.{End, Ends, Commits, TakesBack, xid_of, next_sent, next_of_end, end_in, end_of_all}
use Rattle.cacheless.specs.Plays.{IsLock, IsUnlock, drafted, IsWrite, IsClash, IsEnd, IsLastEnd, IsStart, MayPlay, MayPlayLast, MayPlayIn, MayPlayAt, IsNext}
use Rattle.cacheless.specs.Puts.{PutOpened}
use Rattle.cacheless.specs.Settled.{class_oid, finds}
use Rattle.cacheless.specs.State.{facts_at, work_at, session_at}
use Rattle.cacheless.specs.Rule.{may_scan, names_relation, row_of_name, is_lock, is_unlock, is_write, names_by, is_clash, same_end, comes_next, is_free_to, may_end, may_play, may_end_last, may_last, may_come}
use Rattle.cacheless.specs.Holds.{Holds}
use Rattle.cacheless.proofs.Tests.{and_true, empty_is}
use Rattle.cacheless.proofs.Same.{work_same}
use Rattle.cacheless.proofs.SameRows.{oid_decides, items_decide}
use Rattle.cacheless.proofs.Written.NamesGiven.{names_of}

by_path : {a b : Bool} → a ≡ b → Decides b (a ≡ true)
by_path same = (λ is. same ∙ is, λ is. sym same ∙ is)

none_decide : {X : Type 0} (xs : List X) (t : Bool) → is_empty xs ≡ t → Decides t (xs ≡ [])
none_decide xs t same = (λ is. empty_is xs (same ∙ is), λ is. sym same ∙ ap is_empty is)

named_decides : (rel : Oid) (given : List Row) → Decides (names_relation rel (slice_get given 0)) (class_oid given ≡ Some rel)
named_decides rel [] = never (λ is. absurd (cc))
named_decides rel (rows.Class oid name kind fill ∷ more) = decided_by (same_oid rel oid) (oid_decides rel oid) (λ is. ap Some (sym is)) (λ is. sym (ap (λ o. unwrap_or o rel) is))
named_decides rel (row ∷ more) = never (λ is. absurd (cc))

free_decides : {P : Type 0} (taken : Option Oid) (t : Bool) → Decides t P → Decides (is_none taken && t) ((taken ≡ None) × P)
free_decides None t d = both_decide true t (always refl) d
free_decides (Some oid) t d = never (λ is. absurd (some_is is.0))
  where
    some_is : Some oid ≡ None → ⊥
    some_is is = absurd (cc is)

lock_decides : (facts : Facts) (taken : Option Oid) (p : Plan) (rel : Oid) (mode : Mode) → Decides (is_none taken && is_lock facts p rel mode) ((taken ≡ None) × IsLock facts p rel mode)
lock_decides facts taken (Do (Lookup name wanted) rest) rel mode =
    free_decides taken (names_relation rel (row_of_name facts name) && same_mode mode wanted) (both_decide (names_relation rel (row_of_name facts name)) (same_mode mode wanted) (named_decides rel (rows_kept facts.kept (scans.RelName name))) (mode_decides mode wanted))
lock_decides facts taken (Do (Lock other wanted) rest) rel mode = free_decides taken (same_oid rel other && same_mode mode wanted) (both_decide (same_oid rel other) (same_mode mode wanted) (oid_decides rel other) (mode_decides mode wanted))
lock_decides facts taken p rel mode = free_decides taken false (never (λ is. is))

-- giving one back
finds_is : (rel : Oid) (given : List Row) → names_relation rel (slice_get given 0) ≡ finds rel given
finds_is rel [] = refl
finds_is rel (rows.Class oid name kind fill ∷ more) = refl
finds_is rel (row ∷ more) = refl

not_decides : (t u : Bool) → t ≡ u → Decides (not t) (u ≡ false)
not_decides true u same = never (λ is. absurd (let both : true ≡ false = same ∙ is in cc both))
not_decides false u same = always (sym same)

taken_decides : (taken : Option Oid) (rel : Oid) → Decides (option_map_or (same_oid rel) taken false) (taken ≡ Some rel)
taken_decides None rel = never (λ is. absurd (cc))
taken_decides (Some oid) rel = decided_by (same_oid rel oid) (oid_decides rel oid) (λ is. ap Some (sym is)) (λ is. sym (ap (λ o. unwrap_or o rel) is))

unlock_decides : (facts : Facts) (taken : Option Oid) (p : Plan) (rel : Oid) (mode : Mode) → Decides (is_unlock facts taken p rel mode) (IsUnlock facts taken p rel mode)
unlock_decides facts taken (Do (Lookup name wanted) rest) rel mode = decided_by _
    (both_decide (option_map_or (same_oid rel) taken false && same_mode mode wanted) (not (names_relation rel (row_of_name facts name)))
    (both_decide (option_map_or (same_oid rel) taken false) (same_mode mode wanted) (taken_decides taken rel) (mode_decides mode wanted))
    (not_decides (names_relation rel (row_of_name facts name)) (finds rel (rows_kept facts.kept (scans.RelName name))) (finds_is rel (rows_kept facts.kept (scans.RelName name)))))
    (λ is. (is.0.0, is.0.1, is.1)) (λ is. ((is.0, is.1), is.2))
unlock_decides facts taken p rel mode = never (λ is. is)

-- what waits until nothing is owed
owed_decides : {P : Type 0} (facts : Facts) (command : Command) (s : Session) (t : Bool) → Decides t P → Decides (is_free facts command (work_of s) && t) ((owed_in facts command (work_of s) ≡ []) × P)
owed_decides facts command s t d = both_decide (is_free facts command (work_of s)) t (none_decide (owed_in facts command (work_of s)) (is_free facts command (work_of s)) refl) d

-- a lock, granted or refused
held_decides : (facts : Facts) (command : Command) (s : Session) (rel : Oid) (mode : Mode) → Decides (is_free facts command (work_of s) && is_none s.taken && is_lock facts s.left rel mode) ((owed_in facts command (work_of s) ≡ []) × (s.taken ≡ None) × IsLock facts s.left rel mode)
held_decides facts command s rel mode = decided_by _ (regrouped (is_free facts command (work_of s)) (is_none s.taken) (is_lock facts s.left rel mode) (owed_decides facts command s (is_none s.taken && is_lock facts s.left rel mode) (lock_decides facts s.taken s.left rel mode)))
    (λ is. (is.0, is.1.0, is.1.1)) (λ is. (is.0, (is.1, is.2)))
  where
    regrouped : {P : Type 0} (a b c : Bool) → Decides (a && (b && c)) P → Decides (a && b && c) P
    regrouped true b c d = d
    regrouped false b c d = d

-- a write
write_decides : (next : ℕ) (written : List Item) (p : Plan) → Decides (is_write next written p) (IsWrite next p written)
write_decides next written (Do (Write draft) rest) = items_decide written (drafted next draft)
write_decides next written p = never (λ is. is)

-- the names that a draft gives
change_names : (facts : Facts) (opened : List Opening) (next new_oids : ℕ) (change : Change) → PutOpened opened new_oids change → names_of facts (item_of (drawn_change next new_oids change)) ≡ names_by facts.kept change
change_names facts opened next new_oids (changes.Insert (rows.Class oid name kind fill)) puts = refl
change_names facts opened next new_oids (changes.Insert row) puts = refl
change_names facts opened next new_oids (changes.Replace (rows.Class oid name kind fill)) puts = ap (λ o. if list_any (has_name name) (rows_kept facts.kept (scans.Class o)) then [] else name ∷ []) (puts.1 next)
change_names facts opened next new_oids (changes.Replace row) puts = refl
change_names facts opened next new_oids (changes.Delete key) puts = refl

forced_names : (facts : Facts) (forced : List Oid) → flat_map (names_of facts) (map items.Force forced) ≡ []
forced_names facts [] = refl
forced_names facts (rel ∷ forced) = forced_names facts forced

pub all_names : (facts : Facts) (opened : List Opening) (next new_oids : ℕ) (given : List Change) (forced : List Oid) → AllByRecursion (PutOpened opened new_oids) given
    → flat_map (names_of facts) (items_of (map (drawn_change next new_oids) given) forced) ≡ flat_map (names_by facts.kept) given
all_names facts opened next new_oids [] forced puts = forced_names facts forced
all_names facts opened next new_oids (change ∷ given) forced puts =
    ap (λ l. l ++ flat_map (names_of facts) (items_of (map (drawn_change next new_oids) given) forced)) (change_names facts opened next new_oids change puts.0)
    ∙ ap (λ l. names_by facts.kept change ++ l) (all_names facts opened next new_oids given forced puts.1)

clash_decides : (facts : Facts) (next : ℕ) (name : List ℕ) (p : Plan) → Decides (is_clash facts.kept name p) (IsClash facts p name)
clash_decides facts next name (Do (Write draft) rest) = by_path refl
clash_decides facts next name p = never (λ is. is)

-- the entries of an end
abbrev IsOfEnd : Event → Type 0
IsOfEnd (events.Visible xid) = ⊤
IsOfEnd (events.Publish count) = ⊤
IsOfEnd (events.Gone from) = ⊤
IsOfEnd (events.Release from) = ⊤
IsOfEnd event = ⊥

release_decides : (first : ℕ) (event : Event) → Decides (same_end (events.Release first) event) (events.Release first ≡ event)
release_decides first (events.Release from) = (λ is. ap events.Release (sym (eqb-true from first is)), λ is. eq-eqb from first (sym (cc is)))
release_decides first event = never (λ is. absurd (cc))

visible_decides : (own : Xid) (event : Event) → Decides (same_end (events.Visible own) event) (events.Visible own ≡ event)
visible_decides own (events.Visible xid) = (λ is. ap (λ n. events.Visible (record { 0 = n })) (sym (eqb-true xid.0 own.0 is)), λ is. eq-eqb xid.0 own.0 (sym (cc is)))
visible_decides own event = never (λ is. absurd (cc))

publish_decides : (most : ℕ) (event : Event) → Decides (same_end (events.Publish most) event) (events.Publish most ≡ event)
publish_decides most (events.Publish count) = (λ is. ap events.Publish (sym (eqb-true count most is)), λ is. eq-eqb count most (sym (cc is)))
publish_decides most event = never (λ is. absurd (cc))

gone_decides : (first : ℕ) (event : Event) → Decides (same_end (events.Gone first) event) (events.Gone first ≡ event)
gone_decides first (events.Gone from) = (λ is. ap events.Gone (sym (eqb-true from first is)), λ is. eq-eqb from first (sym (cc is)))
gone_decides first event = never (λ is. absurd (cc))

same_decides : (next event : Event) → IsOfEnd next → Decides (same_end next event) (next ≡ event)
same_decides (events.Visible xid) event is = visible_decides xid event
same_decides (events.Publish count) event is = publish_decides count event
same_decides (events.Gone from) event is = gone_decides from event
same_decides (events.Release from) event is = release_decides from event
same_decides next event is = absurd is

sent_of_end : (first unsent : ℕ) → IsOfEnd (next_sent first unsent)
sent_of_end first zero = tt
sent_of_end first (suc unsent) = tt

next_is_of_end : (facts : Facts) (end : End) → IfSome (next_of_end facts end) IsOfEnd
next_is_of_end facts Ends = tt
next_is_of_end facts (Commits first) = by_write (has_write_from first facts.lists) (is_visible facts.running)
  where
    by_write : (w v : Bool) → IsOfEnd (elim w as (λ x. Event) [ true ↦ elim v as (λ x. Event) [ true ↦ next_sent first (length (unsent_in facts.lists facts.running)) | false ↦ events.Visible (record { 0 = xid_of facts }) ] | false ↦ events.Release first ])
    by_write false v = tt
    by_write true false = tt
    by_write true true = sent_of_end first (length (unsent_in facts.lists facts.running))
next_is_of_end facts (TakesBack from) = by_write (has_write_from from facts.lists)
  where
    by_write : (w : Bool) → IsOfEnd (elim w as (λ x. Event) [ true ↦ events.Gone from | false ↦ events.Release from ])
    by_write true = tt
    by_write false = tt

none_made : (event : Event) → ◌≡◌ {A = Option Event} None (Some event) → ⊥
none_made event is = absurd (cc is)

-- the next entry of an end, if there is one
comes_decides : (o : Option Event) (event : Event) → IfSome o IsOfEnd → Decides (comes_next o event) (o ≡ Some event)
comes_decides None event of = never (none_made event)
comes_decides (Some next) event of = decided_by (same_end next event) (same_decides next event of) (ap Some) (λ is. ap (λ o. unwrap_or o next) is)

before_decides : (facts : Facts) (command : Command) (s : Session) (end : End) → Decides (is_free_to end facts command (work_of s)) (elim end as (λ x. List Owes) [ TakesBack back ↦ owed_after facts.due | other ↦ owed_in facts command (work_of s) ] ≡ [])
before_decides facts command s Ends = none_decide (owed_in facts command (work_of s)) (is_free facts command (work_of s)) refl
before_decides facts command s (Commits first) = none_decide (owed_in facts command (work_of s)) (is_free facts command (work_of s)) refl
before_decides facts command s (TakesBack from) = none_decide (owed_after facts.due) (is_empty (owed_after facts.due)) refl

end_decides : (facts : Facts) (command : Command) (s : Session) (event : Event) → Decides (may_end facts command (work_of s) event) (IsEnd facts command s event)
end_decides facts command s event = both_decide (is_free_to (end_in facts command (work_of s)) facts command (work_of s)) (comes_next (left s.ended) event) (before_decides facts command s (end_in facts command (work_of s))) (comes_decides (left s.ended) event (by_ended s.ended))
  where
    left : Bool → Option Event
    left t = elim t [ true ↦ None | false ↦ next_of_end facts (end_in facts command (work_of s)) ]

    by_ended : (t : Bool) → IfSome (left t) IsOfEnd
    by_ended true = tt
    by_ended false = next_is_of_end facts (end_in facts command (work_of s))

-- a scan may be made now
scan_decides : (facts : Facts) (s : Session) (scan : Purpose) → Decides (may_scan scan facts (work_of s)) ((owed_after facts.due ≡ []) × (is_next_in scan facts (work_of s) ≡ true) × (has_looked_in facts (work_of s) ≡ true))
scan_decides facts s scan = decided_by _
    (both_decide (is_empty (owed_after facts.due) && is_next_in scan facts (work_of s)) (has_looked_in facts (work_of s)) (both_decide (is_empty (owed_after facts.due)) (is_next_in scan facts (work_of s)) (none_decide (owed_after facts.due) (is_empty (owed_after facts.due)) refl) (by_path refl)) (by_path refl))
    (λ is. (is.0.0, is.0.1, is.1)) (λ is. ((is.0, is.1), is.2))

-- the rule decides what may come next in a command
may_decides : (next : ℕ) (facts : Facts) (command : Command) (s : Session) (event : Event) → Decides (may_play next facts command (work_of s) event) (MayPlay next facts command s event)
may_decides next facts command s (events.Look some_wait) = by_path refl
may_decides next facts command s (events.Fetch n) = always tt
may_decides next facts command s events.FetchReset = always tt
may_decides next facts command s (events.Scan scan n) = scan_decides facts s scan
may_decides next facts command s (events.LockOk rel mode) = held_decides facts command s rel mode
may_decides next facts command s (events.LockHeld rel mode holder held) = held_decides facts command s rel mode
may_decides next facts command s (events.Unlock rel mode) = owed_decides facts command s (is_unlock facts s.taken s.left rel mode) (unlock_decides facts s.taken s.left rel mode)
may_decides next facts command s (events.Write xid written) = owed_decides facts command s (is_write next written s.left) (write_decides next written s.left)
may_decides next facts command s (events.ClashRow name rel) = owed_decides facts command s (is_clash facts.kept name s.left) (clash_decides facts next name s.left)
may_decides next facts command s (events.ClashRunning name xid) = owed_decides facts command s (is_clash facts.kept name s.left) (clash_decides facts next name s.left)
may_decides next facts command s (events.Visible xid) = end_decides facts command s (events.Visible xid)
may_decides next facts command s (events.Publish n) = end_decides facts command s (events.Publish n)
may_decides next facts command s (events.Gone from) = end_decides facts command s (events.Gone from)
may_decides next facts command s (events.Release from) = end_decides facts command s (events.Release from)
may_decides next facts command s event = never (λ is. is)

-- the end of what still runs after the last command
last_decides : (facts : Facts) (event : Event) → Decides (may_end_last facts event) (IsLastEnd facts event)
last_decides facts event = both_decide (is_empty (owed_after facts.due)) (comes_next (next_of_end facts (end_of_all facts)) event) (none_decide (owed_after facts.due) (is_empty (owed_after facts.due)) refl) (comes_decides (next_of_end facts (end_of_all facts)) event (next_is_of_end facts (end_of_all facts)))

none_running : (own : Option RunningTransaction) → Decides (is_none own) (own ≡ None)
none_running None = always refl
none_running (Some t) = never (λ is. absurd (cc))

-- and after the last one
after_all : (facts : Facts) (s : Session) (event : Event) → Decides (may_last facts (work_of s) event) (MayPlayLast facts s event)
after_all facts s (events.Look some_wait) = both_decide (is_some facts.running) _ (by_path refl) (by_path refl)
after_all facts s (events.Fetch n) = always tt
after_all facts s events.FetchReset = always tt
after_all facts s (events.Scan scan n) = scan_decides facts s scan
after_all facts s (events.Gone from) = last_decides facts (events.Gone from)
after_all facts s (events.Release from) = last_decides facts (events.Release from)
after_all facts s events.Stop = none_running facts.running
after_all facts s event = never (λ is. is)

pub come_decides : (next : ℕ) (facts : Facts) (o : Option Command) (s : Session) (event : Event) → Decides (may_come next facts o (work_of s) event) (MayPlayIn next facts o s event)
come_decides next facts None s event = after_all facts s event
come_decides next facts (Some command) s event = may_decides next facts command s event

-- what the code answers decides it, in each history of which the session is held
pub holds_decides : (s : Progress) (next : ℕ) (event : Event) (t : Bool) → t ≡ may_come next (facts_at s) (slice_get s.commands s.finished) (work_at s) event → (scenario : Scenario) (seen : List Entry) (holds : Holds scenario seen s)
    → Decides t (MayPlayIn next (facts_of seen s.id) (slice_get s.commands s.finished) (session_at s holds.rest) event)
holds_decides s next event t same scenario seen holds = subst (λ u. Decides u (MayPlayIn next (facts_of seen s.id) (slice_get s.commands s.finished) (session_at s holds.rest) event))
    (sym (same ∙ sym (λ i. may_come next (holds.facts i) (slice_get s.commands s.finished) (work_same s holds.rest holds.count i) event)))
    (come_decides next (facts_of seen s.id) (slice_get s.commands s.finished) (session_at s holds.rest) event)

-- a backend without entries starts
pub start_decides : (event : Event) → Decides (is_start event) (IsStart event)
start_decides events.Start = always tt
start_decides event = never (λ is. is)

at_decides : (scenario : Scenario) (before : List Entry) (b : ℕ) (o : Option Session) (c : ℕ) (event : Event) → Decides (is_next_event scenario before b o c event) (MayPlayAt scenario before b o c event)
at_decides scenario before b None c event = start_decides event
at_decides scenario before b (Some s) c event =
    both_decide (c == number_of s) _ (eqb-true c (number_of s), eq-eqb c (number_of s)) (come_decides (next_oid before) (facts_of before b) (slice_get (commands_of scenario b) (length s.finished)) s event)

-- and so what a backend of the script may do next: an entry of which the test says no doesn't come next
pub next_decides : (scenario : Scenario) (before : List Entry) (e : Entry) → Decides (is_next scenario before e) (IsNext scenario before e)
next_decides scenario before e =
    both_decide (nat_le 1 e.backend && nat_le e.backend scenario.backends) _
    (both_decide (nat_le 1 e.backend) (nat_le e.backend scenario.backends) (leb-true 1 e.backend, le-leb 1 e.backend) (leb-true e.backend scenario.backends, le-leb e.backend scenario.backends))
    (at_decides scenario before e.backend (session_of scenario before e.backend) e.command e.event)

-- a history of which the test says yes plays its script
pub plays_by : (scenario : Scenario) (before history : List Entry) → are_next scenario before history ≡ true → EachFrom (IsNext scenario) before history
plays_by scenario before [] is = tt
plays_by scenario before (e ∷ rest) is = let parts = and_true (is_next scenario before e) (are_next scenario (before ++ e ∷ []) rest) is in ((next_decides scenario before e).0 parts.0, plays_by scenario (before ++ e ∷ []) rest parts.1)
