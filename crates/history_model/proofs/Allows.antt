-- The rule of a segment decides what an entry may follow, part by part.
use Rattle.std.proofs.Common.{◌≡◌, ◌≤◌, ◌+◌, ◌∙◌, ◌||◌, ◌&&◌, ◌==◌, ◌-◌, ℕ, Bool, true, false, not, Option, Some, None, List, [], ◌∷◌, ◌++◌, is_none, is_some, length, map, min, refl, sym, ap, subst, arith}
use Rattle.std.specs.Prelude.{nat_le}
use Rattle.std.specs.Bool.{Decides}
use Rattle.std.specs.List.{flat_map, filter_map, list_any, list_all, range_with_len}
use Rattle.std.specs.Option.{option_map, option_map_or}
use Rattle.std.proofs.lemmas.Bool.{eq-eqb, eqb-true, leb-true, le-leb, or_left, or_right, and_from, and_parts, both_ways, false_from_ne_true}
use Rattle.std.proofs.lemmas.List.Folds.{list_all-append}
use Rattle.base_types.specs.RowKeys.{key_of, are_distinct_keys}
use Rattle.base_types.specs.Modes.{same_mode}
use Rattle.lock_modes.specs.Grants.{holds, first_conflict}
use Rattle.inval_messages.specs.Lists.{Written, has_write_from}
use Rattle.history_model.specs.Types.{Oid, Xid, Mode, Grant, Row, RowKey, Purpose, Item, Add, Put, Remove, Force, Entry, Event, Start, Look, Fetch, FetchReset, LockOk, LockHeld, Unlock, Scan, Write, ClashRow, ClashRunning, Visible, Publish, Release, Gone, Stop}
use Rattle.history_model.specs.Segment.{Segment, no_entries, Life, Unstarted, Alive, Stopped, Asked, Nothing, LookedYes, TookBack, Running, Standing, asks, wrote_by, ends_transaction, xid_at}
use Rattle.history_model.specs.Rows.{ended_key, added_row, old_at, row_at, answer_at}
use Rattle.history_model.specs.Messages.{messages_at}
use Rattle.history_model.specs.After.{after_event, after_entry, segment_of, standing_of}
use Rattle.history_model.specs.InUse.{new_name, names_at, users_at}
use Rattle.history_model.specs.Coverage.{scans_of, is_covered, same_rows, counted_for, changed_at, covers_at}
use Rattle.history_model.specs.Changing.{is_empty, changed_key, free_at, guarded_at, leaves_kind, is_there, may_change, are_from, is_last_write, may_write}
use Rattle.history_model.specs.Allows.{follows_life, follows_visible, follows_gone, has_looked, may_look, may_fetch, may_lock, is_holder, may_refuse, is_all_sent, may_release, allows_event, allows, is_lapped_at, fetches_from}
use Rattle.history_model.specs.Drawn.{drawn_by, made_by}
use Rattle.history_model.specs.MayFollow.{FollowsLife}
use Rattle.history_model.specs.Lives.{last_event_of}
use Rattle.history_model.specs.Lapped.{FetchesFrom}
use Rattle.history_model.specs.Writes.{IsWriteAllowed, has_row, keeps_kind}
use Rattle.history_model.specs.Transactions.{has_written, is_write}
use Rattle.history_model.specs.Covered.{covers_changes}
use Rattle.history_model.specs.Transactions.{is_visible}
use Rattle.history_model.specs.MayFollow.{FollowsVisible, FollowsGone, AllowsLook, AllowsFetch, AllowsPublish, MayRelease, AllowsEvent, MayFollow}
use Rattle.history_model.specs.Legal.{IsAllowed, IsLegal}
use Rattle.history_model.proofs.Decided.{always, never, both_decide, decided_by, mode_decides}
use Rattle.history_model.proofs.Prefixes.{along-keeps, EachEntry-weaker}
use Rattle.history_model.specs.Prefixes.{EachFrom, EachEntry}
use Rattle.history_model.proofs.Reading.{segment_of-more, standing_of-own, standing_of-other, last_event_of-own, last_event_of-other, has_written-more}

-- what holds of the empty history, and of one more entry, holds of each history
pub by_entries : (P : List Entry → Type 0) → P [] → ((before : List Entry) (e : Entry) → P before → P (before ++ e ∷ [])) → (history : List Entry) → P history
by_entries P start more history = along-keeps {X = Unit {0}} (λ before x. P before) (λ before x e. x) (λ before x e. more before e) tt history start

-- what the last event asks, if there is one
abbrev pub asks_of : Option Event → Asked
asks_of None = Nothing
asks_of (Some event) = asks event

-- what is left of the last event is what it asks
pub last_asks : (history : List Entry) (b : ℕ) → (standing_of history b).asked ≡ asks_of (last_event_of history b)
last_asks history b = by_entries (λ h. (standing_of h b).asked ≡ asks_of (last_event_of h b)) refl more history
  where
    more : (h : List Entry) (e : Entry) → (standing_of h b).asked ≡ asks_of (last_event_of h b) → (standing_of (h ++ e ∷ []) b).asked ≡ asks_of (last_event_of (h ++ e ∷ []) b)
    more h e was = by_owner (e.backend == b) refl
      where
        by_owner : (t : Bool) → (e.backend == b) ≡ t → (standing_of (h ++ e ∷ []) b).asked ≡ asks_of (last_event_of (h ++ e ∷ []) b)
        by_owner true own = ap (λ (s : Standing). s.asked) (standing_of-own h e b own) ∙ ap asks_of (sym (last_event_of-own h e b own))
        by_owner false other = ap (λ (s : Standing). s.asked) (standing_of-other h e b other) ∙ was ∙ ap asks_of (sym (last_event_of-other h e b other))

-- in the command of its last write a backend has written
pub last_written : (history : List Entry) (b c : ℕ) → is_last_write (standing_of history b).wrote c ≡ true → has_written history b c ≡ true
last_written history b c = by_entries (λ h. is_last_write (standing_of h b).wrote c ≡ true → has_written h b c ≡ true) (λ none. absurd (cc none)) more history
  where
    more : (h : List Entry) (e : Entry) → (is_last_write (standing_of h b).wrote c ≡ true → has_written h b c ≡ true) → is_last_write (standing_of (h ++ e ∷ []) b).wrote c ≡ true → has_written (h ++ e ∷ []) b c ≡ true
    more h e was is = has_written-more h e b c ∙ by_owner (e.backend == b) refl
      where
        old : Option ℕ
        old = (standing_of h b).wrote

        earlier : is_last_write old c ≡ true → (has_written h b c || ((e.backend == b) && (e.command == c) && is_write e.event)) ≡ true
        earlier here = or_left (has_written h b c) _ (was here)

        by_event : (event : Event) → e.event ≡ event → (e.backend == b) ≡ true → is_last_write (wrote_by e.command event old) c ≡ true → (has_written h b c || ((e.backend == b) && (e.command == c) && is_write e.event)) ≡ true
        by_event (Write xid items) at own here = or_right (has_written h b c) _ (and_from _ _ (and_from _ _ own here) (ap is_write at))
        by_event event at own here = earlier here

        by_owner : (t : Bool) → (e.backend == b) ≡ t → (has_written h b c || ((e.backend == b) && (e.command == c) && is_write e.event)) ≡ true
        by_owner true own = by_event e.event refl own (sym (ap (λ (s : Standing). is_last_write s.wrote c) (standing_of-own h e b own)) ∙ is)
        by_owner false other = earlier (sym (ap (λ (s : Standing). is_last_write s.wrote c) (standing_of-other h e b other)) ∙ is)

-- so where it hasn't written in a command, its last write wasn't in it
pub unwritten_last : (history : List Entry) (b c : ℕ) → has_written history b c ≡ false → is_last_write (standing_of history b).wrote c ≡ false
unwritten_last history b c none = false_from_ne_true _ (λ is. both_ways _ none (last_written history b c is))

pub by_same : {a b : Bool} → a ≡ b → Decides a (b ≡ true)
by_same same = (λ is. sym same ∙ is, λ is. same ∙ is)

pub not_decides : (t : Bool) → Decides (not t) (t ≡ false)
not_decides true = (λ is. absurd (cc), λ is. absurd (cc))
not_decides false = (λ is. refl, λ is. refl)

pub number_decides : (a b : ℕ) → Decides (a == b) (a ≡ b)
number_decides a b = (eqb-true a b, eq-eqb a b)

pub low_decides : (a b : ℕ) → Decides (nat_le a b) (a ≤ b)
low_decides a b = (leb-true a b, le-leb a b)

pub none_decides : {X : Type 0} (o : Option X) → Decides (is_none o) (o ≡ None)
none_decides None = always refl
none_decides (Some x) = never (λ is. absurd (cc))

-- a list is empty
pub empty_decides : {X : Type 0} (xs : List X) → Decides (length xs == 0) (xs ≡ [])
empty_decides [] = always refl
empty_decides (x ∷ xs) = (λ is. let none : length (x ∷ xs) ≡ 0 = eqb-true (length (x ∷ xs)) 0 is in absurd (omega (arith, none)), λ is. absurd (cc))

pub is_empty_decides : {X : Type 0} (xs : List X) → Decides (is_empty xs) (xs ≡ [])
is_empty_decides [] = always refl
is_empty_decides (x ∷ xs) = never (λ is. absurd (cc))

-- the life
life_decides : (life : Life) (c : ℕ) (event : Event) → Decides (follows_life life c event) (FollowsLife life c event)
life_decides Unstarted c Start = number_decides c 0
life_decides Unstarted c event = never (λ is. is)
life_decides (Alive last) c Start = never (λ is. is)
life_decides (Alive last) c event = low_decides last c
life_decides Stopped c event = never (λ is. is)

-- the ends of transactions
visible_decides : (visible : Bool) (event : Event) → Decides (follows_visible visible event) (FollowsVisible visible event)
visible_decides false event = always tt
visible_decides true (Publish count) = always tt
visible_decides true (Release from) = always tt
visible_decides true event = never (λ is. is)

gone_from : (from : ℕ) (event : Event) → Decides (follows_gone (TookBack from) event) (FollowsGone (Some (Gone from)) event)
gone_from from (Release to) = number_decides to from
gone_from from event = never (λ is. is)

gone_decides : (last : Option Event) (event : Event) → Decides (follows_gone (asks_of last) event) (FollowsGone last event)
gone_decides None event = always tt
gone_decides (Some (Gone from)) event = gone_from from event
gone_decides (Some (Look true)) event = always tt
gone_decides (Some (Look false)) event = always tt
gone_decides (Some other) event = always tt

-- the last event was a look that said yes
looked_decides : (last : Option Event) → Decides (has_looked (asks_of last)) (last ≡ Some (Look true))
looked_decides None = never (λ is. absurd (cc))
looked_decides (Some (Look true)) = always refl
looked_decides (Some (Look false)) = never (λ is. absurd (cc))
looked_decides (Some (Gone from)) = never (λ is. absurd (cc))
looked_decides (Some event) = never (λ is. absurd (cc))

-- the queue
pub queue_decides : (size : ℕ) (history : List Entry) (b : ℕ) (event : Event) → Decides (fetches_from size (length (segment_of history).log) (standing_of history b) event) (FetchesFrom size history b event)
queue_decides size history b (Fetch count) = not_decides (is_lapped_at size (length (segment_of history).log) (standing_of history b))
queue_decides size history b FetchReset = by_same refl
queue_decides size history b event = always tt

abbrev pair : ℕ → Mode → ℕ × Mode
pair n m = (n, m)

-- the first holder in the way
holder_decides : (holder : ℕ) (mode : Mode) (first : Option Grant) → Decides (is_holder holder mode first) (option_map {U = ℕ × Mode} (λ g. (g.backend, g.mode)) first ≡ Some (holder, mode))
holder_decides holder mode None = never (λ is. absurd (cc))
holder_decides holder mode (Some g) = decided_by ((g.backend == holder) && same_mode g.mode mode) (both_decide (g.backend == holder) (same_mode g.mode mode) (number_decides g.backend holder) (mode_decides g.mode mode))
    (λ is. λ i. Some (pair (is.0 i) (is.1 i))) (λ is. (ap (λ (o : Option (ℕ × Mode)). elim o [ None ↦ holder | Some p ↦ p.0 ]) is, ap (λ (o : Option (ℕ × Mode)). elim o [ None ↦ mode | Some p ↦ p.1 ]) is))

-- the first command of the running transaction
first_decides : (from : ℕ) (r : Option Running) → Decides (ends_transaction from r) (option_map (λ t. t.first) r ≡ Some from)
first_decides from None = never (λ is. absurd (cc))
first_decides from (Some t) = decided_by (t.first == from) (number_decides t.first from) (λ is. ap Some is) (λ is. ap (λ (o : Option ℕ). elim o [ None ↦ from | Some n ↦ n ]) is)

-- the oids
from_decides : (next : ℕ) (ns : List ℕ) → Decides (are_from next ns) (ns ≡ range_with_len next (length ns))
from_decides next [] = always refl
from_decides next (n ∷ ns) = decided_by ((n == next) && are_from (next + 1) ns) (both_decide (n == next) (are_from (next + 1) ns) (number_decides n next) (from_decides (next + 1) ns))
    (λ is. λ i. is.0 i ∷ is.1 i) (λ is. (ap (first n) is, ap rest is))
  where
    first : ℕ → List ℕ → ℕ
    first d [] = d
    first d (x ∷ xs) = x

    rest : List ℕ → List ℕ
    rest [] = []
    rest (x ∷ xs) = xs

-- all of two tests
all_both : {X : Type 0} (p q : X → Bool) (xs : List X) → list_all (λ x. p x && q x) xs ≡ (list_all p xs && list_all q xs)
all_both p q [] = refl
all_both p q (x ∷ xs) = ap (λ t. (p x && q x) && t) (all_both p q xs) ∙ turn (p x) (q x) (list_all p xs) (list_all q xs)
  where
    turn : (a d e f : Bool) → ((a && d) && (e && f)) ≡ ((a && e) && (d && f))
    turn true true e f = refl
    turn true false true f = refl
    turn true false false f = refl
    turn false d e f = refl

pub all_same : {X : Type 0} (p q : X → Bool) → ((x : X) → p x ≡ q x) → (xs : List X) → list_all p xs ≡ list_all q xs
all_same p q same [] = refl
all_same p q same (x ∷ xs) = λ i. same x i && all_same p q same xs i

pub all_flat : {X Y : Type 0} (p : Y → Bool) (f : X → List Y) (xs : List X) → list_all p (flat_map f xs) ≡ list_all (λ x. list_all p (f x)) xs
all_flat p f [] = refl
all_flat p f (x ∷ xs) = list_all-append p (f x) (flat_map f xs) ∙ ap (λ t. list_all p (f x) && t) (all_flat p f xs)

module _ (before : List Entry) (b : ℕ) where
  there_of : (key : RowKey) → is_some (row_at (segment_of before) b key) ≡ has_row before b key
  there_of key = by (row_at (segment_of before) b key)
    where
      by : (o : Option Row) → is_some o ≡ option_map_or (λ row. true) o false
      by None = refl
      by (Some row) = refl

  there_is : (list : List Item) → list_all (λ item. is_there item (old_at (segment_of before) b item)) list ≡ list_all (has_row before b) (filter_map ended_key list)
  there_is [] = refl
  there_is (Add row ∷ list) = there_is list
  there_is (Put row ∷ list) = λ i. there_of (key_of row) i && there_is list i
  there_is (Remove key ∷ list) = λ i. there_of key i && there_is list i
  there_is (Force rel ∷ list) = there_is list

  kind_is : (item : Item) → leaves_kind item (old_at (segment_of before) b item) ≡ keeps_kind before b item
  kind_is (Put row) = refl
  kind_is item = refl

  -- what is asked of each change
  changes_decide : (made : List Oid) (list : List Item) → list_all (λ item. may_change (segment_of before) b made item (old_at (segment_of before) b item)) list
      ≡ (((list_all (has_row before b) (filter_map ended_key list) && list_all (keeps_kind before b) list) && list_all (free_at (segment_of before) b) (names_at (segment_of before) b list)) && list_all (λ item. guarded_at (segment_of before) b made item (old_at (segment_of before) b item)) list)
  changes_decide made list =
      all_both (λ item. there item && kind item && frees item) guards list
      ∙ (λ i. (all_both (λ item. there item && kind item) frees list
      ∙ (λ j. (all_both there kind list ∙ (λ l. there_is list l && all_same kind (keeps_kind before b) kind_is list l)) j && sym (all_flat (free_at (segment_of before) b) (λ item. new_name (old item) (added_row item)) list) j)) i && list_all guards list)
    where
      old : Item → Option Row
      old item = old_at (segment_of before) b item

      there : Item → Bool
      there item = is_there item (old item)

      kind : Item → Bool
      kind item = leaves_kind item (old item)

      frees : Item → Bool
      frees item = list_all (free_at (segment_of before) b) (new_name (old item) (added_row item))

      guards : Item → Bool
      guards item = guarded_at (segment_of before) b made item (old item)

  covers_is : (c : ℕ) (xid : Xid) (list : List Item) → covers_at (segment_of before) b c xid list ≡ covers_changes before b c xid list
  covers_is c xid list = ap (λ after. list_all (λ scan. is_covered (messages_at (segment_of before) b list) scan || same_rows (map (counted_for scan) (answer_at (segment_of before) b scan)) (map (counted_for scan) (answer_at after b scan)))
      (flat_map (λ item. flat_map scans_of (changed_at (segment_of before) b item)) list)) (sym (segment_of-more before (record { backend = b; command = c; event = Write xid list })))

  -- a write
  write_decides : (c : ℕ) (xid : Xid) (list : List Item) → Decides (may_write (segment_of before) b c xid list) (IsWriteAllowed before b c xid list)
  write_decides c xid list =
      decided_by (may_write (segment_of before) b c xid list)
      (both_decide _ _ (both_decide _ _ (both_decide _ _ (both_decide _ _ (both_decide _ _ (number_decides xid.0 (xid_at (segment_of before) b)) (from_decides _ (flat_map drawn_by list)))
      (not_decides (is_last_write (standing_of before b).wrote c))) (by_same refl)) (decided_by _ (by_same (changes_decide (flat_map made_by list) list)) (λ is. is) (λ is. is))) (by_same (covers_is c xid list)))
      (λ is. let p = parts is.0.1 in record { xid_is = is.0.0.0.0.0; oids = is.0.0.0.0.1; only = is.0.0.0.1; keys = is.0.0.1; there = p.0.0.0; kinds = p.0.0.1; free = p.0.1; guarded = p.1; covered = is.1 })
      (λ w. (((((w.xid_is, w.oids), w.only), w.keys), and_from _ _ (and_from _ _ (and_from _ _ w.there w.kinds) w.free) w.guarded), w.covered))
    where
      parts : {p q r s : Bool} → (((p && q) && r) && s) ≡ true → (((p ≡ true) × (q ≡ true)) × (r ≡ true)) × (s ≡ true)
      parts is = let one = and_parts _ _ is in let two = and_parts _ _ one.0 in let three = and_parts _ _ two.0 in (((three.0, three.1), two.1), one.1)

  look_decides : (some_wait : Bool) → Decides (may_look (length (segment_of before).log) (standing_of before b) some_wait) (AllowsLook before b some_wait)
  look_decides true = by_same refl
  look_decides false = not_decides _

  reset_decides : Decides (has_looked (standing_of before b).asked) (last_event_of before b ≡ Some (Look true))
  reset_decides = subst (λ asked. Decides (has_looked asked) (last_event_of before b ≡ Some (Look true))) (sym (last_asks before b)) (looked_decides (last_event_of before b))

  release_decides : (visible : Bool) (from : ℕ) → Decides (may_release visible (standing_of before b) from) (MayRelease visible before b from)
  release_decides true from = both_decide _ _ (first_decides from (standing_of before b).running) (empty_decides _)
  release_decides false from = not_decides _

  event_decides : (c : ℕ) (event : Event) → Decides (allows_event (segment_of before) b c event) (AllowsEvent before b c event)
  event_decides c Start = always tt
  event_decides c (Look some_wait) = look_decides some_wait
  event_decides c (Fetch count) = both_decide _ _ reset_decides (number_decides count _)
  event_decides c FetchReset = reset_decides
  event_decides c (Scan purpose rows) = number_decides rows _
  event_decides c (LockOk rel mode) = both_decide _ _ (not_decides _) (none_decides _)
  event_decides c (LockHeld rel mode holder held) = both_decide _ _ (not_decides _) (holder_decides holder held _)
  event_decides c (Unlock rel mode) = both_decide _ _ (by_same refl) (not_decides _)
  event_decides c (Write xid items) = write_decides c xid items
  event_decides c (ClashRunning name xid) = by_same refl
  event_decides c (ClashRow name rel) = both_decide _ _ (is_empty_decides (users_at (segment_of before) b name)) (by_same refl)
  event_decides c (Visible xid) = both_decide _ _ (by_same refl) (by_same refl)
  event_decides c (Publish count) = decided_by _ (both_decide _ _ (both_decide _ _ (by_same refl) (low_decides 1 count)) (number_decides count _)) (λ is. (is.0.0, is.0.1, is.1)) (λ is. ((is.0, is.1), is.2))
  event_decides c (Gone from) = by_same refl
  event_decides c (Release from) = both_decide _ _ (low_decides from c) (release_decides (is_visible (standing_of before b).running) from)
  event_decides c Stop = none_decides (standing_of before b).running
  event_decides c event = never (λ is. is)

-- the rule of the segment decides whether an entry may follow
pub allows_decides : (before : List Entry) (e : Entry) → Decides (allows (segment_of before) e) (MayFollow before e)
allows_decides before e =
    decided_by (allows (segment_of before) e)
    (both_decide _ _ (both_decide _ _ (both_decide _ _ (life_decides (standing_of before e.backend).life e.command e.event) (visible_decides (is_visible (standing_of before e.backend).running) e.event))
    (subst (λ asked. Decides (follows_gone asked e.event) (FollowsGone (last_event_of before e.backend) e.event)) (sym (last_asks before e.backend)) (gone_decides (last_event_of before e.backend) e.event)))
    (event_decides before e.backend e.command e.event))
    (λ is. record { life = is.0.0.0; visible = is.0.0.1; gone = is.0.1; event = is.1 })
    (λ is. (((is.life, is.visible), is.gone), is.event))

-- of each entry of a history
pub legal_follows : (history : List Entry) → IsLegal history → EachEntry MayFollow history
legal_follows history legal = EachEntry-weaker IsAllowed MayFollow (λ before e is. (allows_decides before e).0 is) history legal

pub follows_legal : (history : List Entry) → EachEntry MayFollow history → IsLegal history
follows_legal history each = EachEntry-weaker MayFollow IsAllowed (λ before e follows. (allows_decides before e).1 follows) history each

-- whether the entries are allowed from a segment on, in one pass
abbrev pub legal_from : Segment → List Entry → Bool
legal_from seg [] = true
legal_from seg (e ∷ rest) = allows seg e && legal_from (after_entry seg e) rest

legal_rest : (before rest : List Entry) → legal_from (segment_of before) rest ≡ true → EachFrom IsAllowed before rest
legal_rest before [] is = tt
legal_rest before (e ∷ rest) is =
    let parts = and_parts _ _ is in
    (parts.0, legal_rest (before ++ e ∷ []) rest (ap (λ seg. legal_from seg rest) (segment_of-more before e) ∙ parts.1))

-- so a worked history is legal by computation
pub legal_by : (history : List Entry) → legal_from no_entries history ≡ true → IsLegal history
legal_by history is = legal_rest [] history is
