-- What a running transaction has touched it holds a lock on that no other may hold.
use Rattle.std.proofs.Common.{◌≡◌, ◌≤◌, ◌<◌, ◌∙◌, ◌⊎◌, inl, inr, ℕ, Bool, true, false, not, Option, Some, None, List, [], ◌∷◌, ◌++◌, ◌==◌, ◌&&◌, if◌then◌else◌, refl, sym, ap, subst, filter, arith}
use Rattle.std.specs.Prelude.{nat_le, ⊤}
use Rattle.std.specs.List.{AllByRecursion, list_any}
use Rattle.std.specs.Option.{IfSome}
use Rattle.std.proofs.lemmas.Bool.{eqb-true, eq-eqb, both_ways, or_cases, and_parts, and_from, leb-true, leb-false, le-leb, lt-leb, not_from_false, false_from_ne_true}
use Rattle.base_types.specs.declared.ids.Oid.{Oid}
use Rattle.base_types.specs.declared.mode.Mode.{Mode}
use Rattle.base_types.specs.declared.mode.Mode.TheVariants.{ShareUpdateExclusive, ShareRowExclusive, AccessExclusive}
use Rattle.base_types.specs.declared.row.Row.{Row}
use Rattle.base_types.specs.declared.row_key.RowKey.{RowKey}
use Rattle.base_types.specs.declared.row_key.RowKey.TheVariants as keys
use Rattle.base_types.specs.RowKeys.{same_key}
use Rattle.base_types.specs.Modes.{conflicts}
use Rattle.base_types.specs.Scans.{same_oid}
use Rattle.event_kinds.specs.declared.entry.Entry.{Entry}
use Rattle.event_kinds.specs.declared.entry.Event.{Event}
use Rattle.event_kinds.specs.declared.entry.Event.TheVariants as events
use Rattle.event_kinds.specs.declared.entry.Item.{Item}
use Rattle.lock_modes.specs.declared.grant.Grant.{Grant}
use Rattle.lock_modes.specs.Grants.{is_lock, stays}
use Rattle.history_model.specs.After.{segment_of}
use Rattle.history_model.specs.Transactions.{Running, running_transaction_of, running_by, begun, after_release, has_xid, runs_as}
use Rattle.row_visibility.specs.declared.version.Version.{Version}
use Rattle.row_visibility.specs.declared.version.Stamp.{Stamp}
use Rattle.history_model.specs.Versions.{versions_of, versions_by, ends, added_row, is_back}
use Rattle.history_model.specs.Held.{held_of, held_by}
use Rattle.inval_messages.specs.Lists.{Written, has_write_from}
use Rattle.history_model.specs.Sent.{lists_of, ends_transaction as ends_at}
use Rattle.history_model.specs.Orderly.{main_rel}
use Rattle.history_model.proofs.Every.{every-weaker, every-both, any-weaker, any-filter, any-kept, any-left}
use Rattle.history_model.proofs.Lawful.{IsLawful}
use Rattle.history_model.proofs.Reading.{running_transaction_of-own as running-own, held_of-more as held-more, versions_of-more as versions-more}
use Rattle.history_model.proofs.Runs.{Draws, runs-before, Runs, Runs-more}
use Rattle.history_model.proofs.Touched.{entry_of, OfStamps, stamps-both, stamps-write, stamps-gone, is_of, Touch, Touched}
use Rattle.history_model.proofs.Exclude.{Agree, AllAgree, lock_is}

oid_eq : (a b : Oid) → same_oid a b ≡ true → a ≡ b
oid_eq a b is = let e : a.0 ≡ b.0 = eqb-true a.0 b.0 is in ap {B = Oid} (λ n. record { 0 = n }) e

pub key_eq : (a b : RowKey) → same_key a b ≡ true → a ≡ b
key_eq (keys.Class a) (keys.Class b) is = ap keys.Class (oid_eq a b is)
key_eq (keys.Att a num) (keys.Att b other) is = let parts = and_parts (same_oid a b) (num == other) is in ap (λ o. keys.Att o num) (oid_eq a b parts.0) ∙ ap (keys.Att b) (eqb-true num other parts.1)
key_eq (keys.Def a) (keys.Def b) is = ap keys.Def (oid_eq a b is)
key_eq (keys.Ind a) (keys.Ind b) is = ap keys.Ind (oid_eq a b is)
key_eq (keys.Con a) (keys.Con b) is = ap keys.Con (oid_eq a b is)
key_eq (keys.Trg a) (keys.Trg b) is = ap keys.Trg (oid_eq a b is)
key_eq a b is = absurd (cc)

pub key_refl : (a : RowKey) → same_key a a ≡ true
key_refl (keys.Class a) = eq-eqb a.0 a.0 refl
key_refl (keys.Att a num) = and_from (same_oid a a) (num == num) (eq-eqb a.0 a.0 refl) (eq-eqb num num refl)
key_refl (keys.Def a) = eq-eqb a.0 a.0 refl
key_refl (keys.Ind a) = eq-eqb a.0 a.0 refl
key_refl (keys.Con a) = eq-eqb a.0 a.0 refl
key_refl (keys.Trg a) = eq-eqb a.0 a.0 refl

-- the modes under which rows are changed: each conflicts with each
abbrev pub is_changing : Mode → Bool
is_changing ShareUpdateExclusive = true
is_changing ShareRowExclusive = true
is_changing AccessExclusive = true
is_changing mode = false

-- AccessExclusive alone, and ShareUpdateExclusive alone
abbrev pub is_exclusive : Mode → Bool
is_exclusive AccessExclusive = true
is_exclusive mode = false

abbrev pub is_update : Mode → Bool
is_update ShareUpdateExclusive = true
is_update mode = false

pub exclusive_changes : (mode : Mode) → is_exclusive mode ≡ true → is_changing mode ≡ true
exclusive_changes AccessExclusive is = refl
exclusive_changes mode is = absurd (cc)

pub update_changes : (mode : Mode) → is_update mode ≡ true → is_changing mode ≡ true
update_changes ShareUpdateExclusive is = refl
update_changes mode is = absurd (cc)

changing_conflict : (a b : Mode) → is_changing a ≡ true → is_changing b ≡ true → conflicts a b ≡ true
changing_conflict ShareUpdateExclusive ShareUpdateExclusive is also = refl
changing_conflict ShareUpdateExclusive ShareRowExclusive is also = refl
changing_conflict ShareUpdateExclusive AccessExclusive is also = refl
changing_conflict ShareRowExclusive ShareUpdateExclusive is also = refl
changing_conflict ShareRowExclusive ShareRowExclusive is also = refl
changing_conflict ShareRowExclusive AccessExclusive is also = refl
changing_conflict AccessExclusive ShareUpdateExclusive is also = refl
changing_conflict AccessExclusive ShareRowExclusive is also = refl
changing_conflict AccessExclusive AccessExclusive is also = refl
changing_conflict a b is also = absurd (cc)

-- a grant of this command or below on the relation, in a mode that passes a test
abbrev pub guards_in : (Mode → Bool) → ℕ → ℕ → Oid → Grant → Bool
guards_in test a c rel g = ((g.backend == a) && nat_le g.command c) && (same_oid g.rel rel && test g.mode)

abbrev pub IsHeldIn : (Mode → Bool) → List Grant → ℕ → ℕ → Oid → Type 0
IsHeldIn test held a c rel = list_any (guards_in test a c rel) held ≡ true

-- a grant of this command or below that guards the changes of rows of the relation
abbrev pub guards : ℕ → ℕ → Oid → Grant → Bool
guards a c rel g = guards_in is_changing a c rel g

abbrev pub IsGuarded : List Grant → ℕ → ℕ → Oid → Type 0
IsGuarded held a c rel = list_any (guards a c rel) held ≡ true

-- what is held in a mode is held in one that passes a weaker test
pub held_in-weaker : (test other : Mode → Bool) → ((mode : Mode) → test mode ≡ true → other mode ≡ true) → (held : List Grant) (a c : ℕ) (rel : Oid) → IsHeldIn test held a c rel → IsHeldIn other held a c rel
held_in-weaker test other weaker held a c rel is = any-weaker (guards_in test a c rel) (guards_in other a c rel) (λ g here.
    let p = and_parts ((g.backend == a) && nat_le g.command c) (same_oid g.rel rel && test g.mode) here in
    let q = and_parts (same_oid g.rel rel) (test g.mode) p.1 in
    and_from ((g.backend == a) && nat_le g.command c) (same_oid g.rel rel && other g.mode) p.0 (and_from (same_oid g.rel rel) (other g.mode) q.0 (weaker g.mode q.1))) held is

-- what is demanded of the grants for a stamp of a backend and a command on a row
abbrev pub Demand : Type 1
Demand = List Grant → ℕ → ℕ → Row → Type 0

-- a stamp's backend, while the transaction runs, has the grants that are demanded
abbrev pub GuardBy : Demand → List Entry → Stamp → Row → Type 0
GuardBy Q history s row = (a : ℕ) → runs_as history a s.xid.0 ≡ true → Q (held_of history) a s.command row

-- it guards the row
abbrev pub ByMain : Demand
ByMain held a c row = IsGuarded held a c (main_rel row)

abbrev pub Guard : List Entry → Stamp → Row → Type 0
Guard history s row = GuardBy ByMain history s row

abbrev pub Guards : List Entry → Type 0
Guards history = AllByRecursion (OfStamps (Guard history)) (versions_of history)

-- the rows that a change adds and ends are guarded
abbrev pub IsGuardedItem : List Entry → ℕ → (Oid → Type 0) → Item → Type 0
IsGuardedItem before b P item = IfSome (added_row item) (λ row. P (main_rel row)) × AllByRecursion (λ v. ends before b item v ≡ true → P (main_rel v.row)) (versions_of before)

-- a release after which the transaction goes on takes no grant of a command that has a write; an unlock takes grants of this command alone, and no write of it or of a later one stands
abbrev pub ReleasesLawfully : List Entry → ℕ → ℕ → Event → Type 0
ReleasesLawfully before b c (events.Release from) = ends_at from (running_transaction_of before b) ≡ false → has_write_from from (lists_of before b) ≡ false
ReleasesLawfully before b c (events.Unlock rel mode) = AllByRecursion (λ g. is_lock b rel mode g ≡ true → g.command ≡ c) (held_of before) × (has_write_from c (lists_of before b) ≡ false)
ReleasesLawfully before b c event = ⊤

-- what is needed of a write, a release and an unlock
abbrev pub GuardsBy : Demand → List Entry → ℕ → ℕ → Event → Type 0
GuardsBy Q before b c (events.Write xid changes) =
    AllByRecursion (λ item. IfSome (added_row item) (Q (held_by b c (events.Write xid changes) (held_of before)) b c) × AllByRecursion (λ v. ends before b item v ≡ true → Q (held_by b c (events.Write xid changes) (held_of before)) b c v.row) (versions_of before)) changes
GuardsBy Q before b c event = ReleasesLawfully before b c event

abbrev pub GuardsLawfully : List Entry → ℕ → ℕ → Event → Type 0
GuardsLawfully before b c event = GuardsBy ByMain before b c event

pub any_with : {X : Type 0} (p : X → Bool) (Q : X → Type 0) (C : Type 0) → ((x : X) → p x ≡ true → Q x → C) → (xs : List X) → list_any p xs ≡ true → AllByRecursion Q xs → C
any_with p Q C of [] some all = absurd (cc)
any_with p Q C of (x ∷ xs) some all = by_place (or_cases (p x) (list_any p xs) some) (λ rest. any_with p Q C of xs rest all.1)
  where
    by_place : (p x ≡ true) ⊎ (list_any p xs ≡ true) → (list_any p xs ≡ true → C) → C
    by_place (inl here) rest = of x here all.0
    by_place (inr there) rest = rest there

-- a grant to the backend under which rows of the relation may be changed
abbrev pub changes_on : ℕ → Oid → Grant → Bool
changes_on a rel g = (g.backend == a) && (same_oid g.rel rel && is_changing g.mode)

abbrev pub MayChange : List Grant → ℕ → Oid → Type 0
MayChange held a rel = list_any (changes_on a rel) held ≡ true

pub guard_changes : (held : List Grant) (a c : ℕ) (rel : Oid) → IsGuarded held a c rel → MayChange held a rel
guard_changes held a c rel guard = any-weaker (guards a c rel) (changes_on a rel) (λ g is.
    let p = and_parts ((g.backend == a) && nat_le g.command c) (same_oid g.rel rel && is_changing g.mode) is in
    and_from (g.backend == a) (same_oid g.rel rel && is_changing g.mode) (and_parts (g.backend == a) (nat_le g.command c) p.0).0 p.1) held guard

-- two backends don't change rows of one relation
pub one_changer : (held : List Grant) (a b : ℕ) (rel : Oid) → AllAgree held held → MayChange held a rel → MayChange held b rel → a ≡ b
one_changer held a b rel agree may other = any_with (changes_on a rel) (λ g. AllByRecursion (Agree g) held) (a ≡ b) (λ g is all. any_with (changes_on b rel) (Agree g) (a ≡ b) (λ k also agrees. both g k is also agrees) held other all) held may agree
  where
    both : (g k : Grant) → changes_on a rel g ≡ true → changes_on b rel k ≡ true → Agree g k → a ≡ b
    both g k is also agrees =
        let p = and_parts (g.backend == a) (same_oid g.rel rel && is_changing g.mode) is in
        let q = and_parts (k.backend == b) (same_oid k.rel rel && is_changing k.mode) also in
        let p1 = and_parts (same_oid g.rel rel) (is_changing g.mode) p.1 in
        let q1 = and_parts (same_oid k.rel rel) (is_changing k.mode) q.1 in
        let one : g.rel.0 ≡ k.rel.0 = eqb-true g.rel.0 rel.0 p1.0 ∙ sym (eqb-true k.rel.0 rel.0 q1.0) in
        by_backends (g.backend == k.backend) refl (eqb-true g.backend a p.0) (eqb-true k.backend b q.0) (eq-eqb g.rel.0 k.rel.0 one) (changing_conflict g.mode k.mode p1.1 q1.1)
      where
        by_backends : (t : Bool) → (g.backend == k.backend) ≡ t → g.backend ≡ a → k.backend ≡ b → same_oid g.rel k.rel ≡ true → conflicts g.mode k.mode ≡ true → a ≡ b
        by_backends true same ga kb one clash = sym ga ∙ eqb-true g.backend k.backend same ∙ kb
        by_backends false differ ga kb one clash = absurd (both_ways _ (agrees one differ) clash)

-- two backends don't guard one relation
pub one_guard : (held : List Grant) (a b c c' : ℕ) (rel : Oid) → AllAgree held held → IsGuarded held a c rel → IsGuarded held b c' rel → a ≡ b
one_guard held a b c c' rel agree guard other = one_changer held a b rel agree (guard_changes held a c rel guard) (guard_changes held b c' rel other)

-- what is held by a grant that a release leaves
pub held_stays : (test : Mode → Bool) (held : List Grant) (b from a c : ℕ) (key : Oid) → ((a == b) ≡ true → nat_le from c ≡ false) → IsHeldIn test held a c key → IsHeldIn test (filter (stays b from) held) a c key
held_stays test held b from a c key below guard = any-filter (guards_in test a c key) (stays b from) kept held guard
  where
    kept : (g : Grant) → guards_in test a c key g ≡ true → not ((g.backend == b) && nat_le from g.command) ≡ true
    kept g is =
        let p = and_parts ((g.backend == a) && nat_le g.command c) (same_oid g.rel key && test g.mode) is in
        let q = and_parts (g.backend == a) (nat_le g.command c) p.0 in
        by_owner (g.backend == b) refl (eqb-true g.backend a q.0) (leb-true g.command c q.1)
      where
        by_owner : (t : Bool) → (g.backend == b) ≡ t → g.backend ≡ a → g.command ≤ c → not (t && nat_le from g.command) ≡ true
        by_owner false other ga low = refl
        by_owner true own ga low =
            let short : c < from = leb-false from c (below (eq-eqb a b (sym ga ∙ eqb-true g.backend b own))) in
            not_from_false (nat_le from g.command) (lt-leb from g.command (omega arith))

-- what is held by a grant that an unlock leaves: it takes those of one command
pub held_left : (test : Mode → Bool) (held : List Grant) (b from : ℕ) (rel : Oid) (mode : Mode) (a c : ℕ) (key : Oid) → AllByRecursion (λ g. is_lock b rel mode g ≡ true → g.command ≡ from) held → ((a == b) ≡ true → nat_le from c ≡ false) → IsHeldIn test held a c key
    → IsHeldIn test (filter (λ g. not (is_lock b rel mode g)) held) a c key
held_left test held b from rel mode a c key of_command below guard = any-kept (guards_in test a c key) (λ g. not (is_lock b rel mode g)) held (every-weaker (λ g. is_lock b rel mode g ≡ true → g.command ≡ from) (λ g. guards_in test a c key g ≡ true → not (is_lock b rel mode g) ≡ true) kept held of_command) guard
  where
    kept : (g : Grant) → (is_lock b rel mode g ≡ true → g.command ≡ from) → guards_in test a c key g ≡ true → not (is_lock b rel mode g) ≡ true
    kept g of_from is =
        let p = and_parts ((g.backend == a) && nat_le g.command c) (same_oid g.rel key && test g.mode) is in
        let q = and_parts (g.backend == a) (nat_le g.command c) p.0 in
        not_from_false (is_lock b rel mode g) (false_from_ne_true (is_lock b rel mode g) (λ lock.
        let one : a ≡ b = sym (eqb-true g.backend a q.0) ∙ (lock_is b rel mode g lock).0 in
        both_ways _ (below (eq-eqb a b one)) (le-leb from c (omega (arith, of_from lock, leb-true g.command c q.1)))))

-- a command that has a write is below the commands that have none
pub is_below : (from c : ℕ) (lists : List Written) → has_write_from from lists ≡ false → list_any (is_of c) lists ≡ true → nat_le from c ≡ false
is_below from c lists none there = false_from_ne_true (nat_le from c) (λ above. both_ways _ none (any-weaker (is_of c) (λ w. nat_le from w.command) (λ w is. ap (nat_le from) (eqb-true w.command c is) ∙ above) lists there))

-- a grant after an event, while its transaction runs on
held_kept : (test : Mode → Bool) (history : List Entry) (b c' : ℕ) (event : Event) (a x c : ℕ) (key : Oid) → ReleasesLawfully history b c' event → ((a == b) ≡ true → has_xid x (running_by c' event (running_transaction_of history b)) ≡ true)
    → ((a == b) ≡ true → list_any (is_of c) (lists_of history b) ≡ true) → IsHeldIn test (held_of history) a c key → IsHeldIn test (held_by b c' event (held_of history)) a c key
held_kept test history b c' (events.LockOk rel mode) a x c key lawful runs there guard = any-left (guards_in test a c key) (held_of history) _ guard
held_kept test history b c' (events.Write xid changes) a x c key lawful runs there guard = any-left (guards_in test a c key) (held_of history) _ guard
held_kept test history b c' (events.Release from) a x c key lawful runs there guard =
    held_stays test (held_of history) b from a c key (λ own. is_below from c (lists_of history b) (lawful (runs_on (running_transaction_of history b) (runs own))) (there own)) guard
  where
    runs_on : (r : Option Running) → has_xid x (after_release from (begun c' r)) ≡ true → ends_at from r ≡ false
    runs_on None is = refl
    runs_on (Some t) is = by_end (t.first == from) is
      where
        by_end : (f : Bool) → has_xid x (if f then None else Some t) ≡ true → f ≡ false
        by_end true h = absurd (cc)
        by_end false h = refl
held_kept test history b c' (events.Unlock rel mode) a x c key lawful runs there guard = held_left test (held_of history) b c' rel mode a c key lawful.0 (λ own. is_below c' c (lists_of history b) lawful.1 (there own)) guard
held_kept test history b c' event a x c key lawful runs there guard = guard

-- a demand that is met by what is held in some modes
abbrev pub IsOfHeld : Demand → Type 0
IsOfHeld Q = (old new : List Grant) (a c : ℕ) (row : Row) → ((test : Mode → Bool) (rel : Oid) → IsHeldIn test old a c rel → IsHeldIn test new a c rel) → Q old a c row → Q new a c row

releases : (Q : Demand) (history : List Entry) (b c : ℕ) (event : Event) → GuardsBy Q history b c event → ReleasesLawfully history b c event
releases Q history b c (events.Write xid changes) lawful = tt
releases Q history b c event lawful = lawful

GuardBy-kept : (Q : Demand) → IsOfHeld Q → (history : List Entry) (e : Entry) (s : Stamp) (row : Row) → IsLawful history e → GuardsBy Q history e.backend e.command e.event → Touch history s row → GuardBy Q history s row → GuardBy Q (history ++ e ∷ []) s row
GuardBy-kept Q of_held history e s row lawful guarding touch guard a is = of (runs-before history e a s.xid.0 lawful is)
  where
    of : (runs_as history a s.xid.0 ≡ true) ⊎ Draws history e a s.xid.0 → Q (held_of (history ++ e ∷ [])) a s.command row
    of (inr drew) = absurd (omega (arith, touch.bound, drew.new))
    of (inl had) = subst (λ held. Q held a s.command row) (sym (held-more history e))
        (of_held (held_of history) (held_by e.backend e.command e.event (held_of history)) a s.command row (λ test rel. held_kept test history e.backend e.command e.event a s.xid.0 s.command rel (releases Q history e.backend e.command e.event guarding)
        (λ own. subst (λ o. has_xid s.xid.0 (running_by e.command e.event (running_transaction_of history o)) ≡ true) (eqb-true a e.backend own) (sym (ap (has_xid s.xid.0) (running-own history e a (eq-eqb e.backend a (sym (eqb-true a e.backend own))))) ∙ is))
        (λ own. subst (λ o. list_any (is_of s.command) (lists_of history o) ≡ true) (eqb-true a e.backend own) (touch.written a had))) (guard a had))

guards_by : (Q : Demand) → IsOfHeld Q → (history : List Entry) (b c : ℕ) (event : Event) → IsLawful history (entry_of b c event) → GuardsBy Q history b c event → Runs history → Touched history → AllByRecursion (OfStamps (GuardBy Q history)) (versions_of history)
    → AllByRecursion (OfStamps (GuardBy Q (history ++ entry_of b c event ∷ []))) (versions_by history b c event (versions_of history))
guards_by Q of_held history b c (events.Write xid changes) lawful guarding r touched guards' =
    stamps-write (GuardBy Q after) P (segment_of history) b (record { xid = xid; command = c }) new changes (versions_of history) guarding
    (both (versions_of history) touched guards')
  where
    e : Entry
    e = entry_of b c (events.Write xid changes)

    after : List Entry
    after = history ++ e ∷ []

    P : Row → Type 0
    P = Q (held_by b c (events.Write xid changes) (held_of history)) b c

    after_well : Runs after
    after_well = Runs-more history e r lawful

    runs : runs_as after b xid.0 ≡ true
    runs = ap (has_xid xid.0) (running-own history e b (eq-eqb b b refl)) ∙ eq-eqb xid.0 xid.0 refl

    new : (row : Row) → P row → GuardBy Q after (record { xid = xid; command = c }) row
    new row guard a is = subst (λ o. Q (held_of after) o c row) (after_well.one b a xid.0 runs is) (subst (λ held. Q held b c row) (sym (held-more history e)) guard)

    both : (vs : List Version) → AllByRecursion (OfStamps (Touch history)) vs → AllByRecursion (OfStamps (GuardBy Q history)) vs → AllByRecursion (OfStamps (GuardBy Q after)) vs
    both vs ts gs = every-weaker (λ v. OfStamps (Touch history) v × OfStamps (GuardBy Q history) v) (OfStamps (GuardBy Q after)) (λ v held. stamps-both (Touch history) (GuardBy Q history) (GuardBy Q after) (λ s row. GuardBy-kept Q of_held history e s row lawful guarding) v held.0 held.1) vs
        (every-both (OfStamps (Touch history)) (OfStamps (GuardBy Q history)) vs ts gs)
guards_by Q of_held history b c (events.Gone from) lawful guarding r touched guards' =
    stamps-gone (λ s row. Touch history s row × GuardBy Q history s row) (GuardBy Q (history ++ entry_of b c (events.Gone from) ∷ [])) (is_back history b from) (λ s row stays held. GuardBy-kept Q of_held history (entry_of b c (events.Gone from)) s row lawful guarding held.0 held.1) (versions_of history)
    (every-weaker (λ v. OfStamps (Touch history) v × OfStamps (GuardBy Q history) v) (OfStamps (λ s row. Touch history s row × GuardBy Q history s row)) (λ v held. stamps-both (Touch history) (GuardBy Q history) (λ s row. Touch history s row × GuardBy Q history s row) (λ s row t g. (t, g)) v held.0 held.1) (versions_of history)
    (every-both (OfStamps (Touch history)) (OfStamps (GuardBy Q history)) (versions_of history) touched guards'))
guards_by Q of_held history b c event lawful guarding r touched guards' =
    every-weaker (λ v. OfStamps (Touch history) v × OfStamps (GuardBy Q history) v) (OfStamps (GuardBy Q (history ++ entry_of b c event ∷ [])))
    (λ v held. stamps-both (Touch history) (GuardBy Q history) (GuardBy Q (history ++ entry_of b c event ∷ [])) (λ s row. GuardBy-kept Q of_held history (entry_of b c event) s row lawful guarding) v held.0 held.1) (versions_of history)
    (every-both (OfStamps (Touch history)) (OfStamps (GuardBy Q history)) (versions_of history) touched guards')

-- what is demanded of all stamps, after one more entry
pub GuardsBy-more : (Q : Demand) → IsOfHeld Q → (history : List Entry) (e : Entry) → IsLawful history e → GuardsBy Q history e.backend e.command e.event → Runs history → Touched history → AllByRecursion (OfStamps (GuardBy Q history)) (versions_of history)
    → AllByRecursion (OfStamps (GuardBy Q (history ++ e ∷ []))) (versions_of (history ++ e ∷ []))
GuardsBy-more Q of_held history e lawful guarding r touched guards' = subst (AllByRecursion (OfStamps (GuardBy Q (history ++ e ∷ [])))) (sym (versions-more history e)) (guards_by Q of_held history e.backend e.command e.event lawful guarding r touched guards')

-- and the guards
pub Guards-more : (history : List Entry) (e : Entry) → IsLawful history e → GuardsLawfully history e.backend e.command e.event → Runs history → Touched history → Guards history → Guards (history ++ e ∷ [])
Guards-more history e lawful guarding r touched guards' = GuardsBy-more ByMain (λ old new a c row kept. kept is_changing (main_rel row)) history e lawful guarding r touched guards'
