-- What is asked of what is held is the rule of the segment, and decides what the history asks.
use Rattle.std.proofs.Common.{◌≡◌, ◌≤◌, ◌<◌, ◌+◌, ◌∙◌, ◌&&◌, ◌||◌, ◌==◌, ℕ, Bool, true, false, not, Option, Some, None, Result, Ok, Err, IfOk, List, [], ◌∷◌, ◌++◌, length, take, get_or, is_none, refl, sym, ap, subst, arith}
use Rattle.std.specs.Bool.{Decides}
use Rattle.std.specs.List.{flat_map, filter_map, list_any, list_all}
use Rattle.std.specs.Option.{option_map_or}
use Rattle.std.proofs.lemmas.Bool.{and_parts, and_from, eqb-true}
use Rattle.std.proofs.lemmas.List.{take_all}
use Rattle.base_types.specs.RowKeys.{are_distinct_keys}
use Rattle.base_types.specs.Scans.{same_oid}
use Rattle.base_types.specs.declared.memory.NoMemory.{NoMemory}
use Rattle.catalog_rows.specs.Store.{clash_of}
use Rattle.lock_modes.specs.Grants.{holds}
use Rattle.history_model.specs.Segment.{Standing, Segment, xid_at}
use Rattle.history_model.specs.Rows.{added_row, old_at as seg_old}
use Rattle.history_model.specs.Oids.{drawn_by, made_by}
use Rattle.history_model.specs.InUse.{new_name, is_row_of, users_at}
use Rattle.history_model.specs.Coverage.{covers_at}
use Rattle.history_model.specs.Changing.{is_empty, changed_key, free_at, guarded_at, is_there, leaves_kind, relations_changed, is_validation, modes_enough, may_change as may_change_in, are_from, is_last_write, may_write}
use Rattle.history_model.specs.Allows.{follows_own, fetches_from, allows_event}
use Rattle.history_model.specs.After.{segment_of}
use Rattle.history_model.specs.Lapped.{FetchesFrom, FollowsQueue}
use Rattle.history_model.specs.MayFollow.{MayFollow}
use Rattle.history_model.specs.Legal.{IsAllowed, IsLegal}
use Rattle.history_model.proofs.Allows.{by_same, all_same, all_flat, allows_decides, queue_decides}
use Rattle.history_model.proofs.Decided.{both_decide, decided_by}
use Rattle.history_model.proofs.ListSteps.{prefix_more}
use Rattle.history_model.proofs.Prefixes.{EachEntry-more, EachEntry-rest}
use Rattle.history_ledger.specs.Types.{Oid, Xid, Row, Entry, Event, Item, Scan, Write, ClashRow, ClashRunning, RelName}
use Rattle.segment_rows.specs.Kept.{xid_in, reader_at}
use Rattle.history_ledger.specs.Held.{Keeps, Reads}
use Rattle.segment_rows.specs.Words.{messages_at, is_unused, old_at, covers_item}
use Rattle.history_ledger.specs.Words.{is_next_xid, guards_row, guards_rows, may_change, may_write_at, may_do_at, may_follow_at, may_come, MayEnter}
use Rattle.history_ledger.specs.Longest.{IsLongest}
use Rattle.history_ledger.specs.declared.ledger.Ledger.{Ledger}
use Rattle.segment_rows.proofs.CoverTests.{covers_is}
use Rattle.segment_rows.proofs.Kept.{mirrors, old_same}
use Rattle.segment_rows.proofs.FreeNames.{free_is}
use Rattle.segment_rows.proofs.Mirrors.{scan_is_answer, user_is, unused_is, is_not_used}

-- what is asked after a test that said yes
and_when : (t a b : Bool) → (t ≡ true → a ≡ b) → (t && a) ≡ (t && b)
and_when true a b same = same refl
and_when false a b same = refl

and_right : (t : Bool) → (t && true) ≡ t
and_right true = refl
and_right false = refl

same_by : {P : Type 0} (a b : Bool) → Decides a P → Decides b P → a ≡ b
same_by true true p q = refl
same_by true false p q = sym (q.1 (p.0 refl))
same_by false true p q = p.1 (q.0 refl)
same_by false false p q = refl

empty_is : {X : Type 0} (xs : List X) → Decides (is_empty xs) (xs ≡ [])
empty_is [] = (λ is. refl, λ is. refl)
empty_is (x ∷ xs) = (λ is. absurd (cc), λ is. absurd (cc))

module _ (seg : Segment) (ledger : Ledger) (b : ℕ) (k : Keeps seg ledger) where
  abbrev own : Standing
  own = seg.standing b

  next_is : (xid : Xid) → is_next_xid (xid_in own.running) seg.last_xid xid ≡ (xid.0 == xid_at seg b)
  next_is xid = by own.running
    where
      of : (o : Option Xid) → is_next_xid o seg.last_xid xid ≡ (xid.0 == option_map_or (λ x. x.0) o (seg.last_xid + 1))
      of None = refl
      of (Some x) = refl

      by : (r : Option _) → is_next_xid (xid_in r) seg.last_xid xid ≡ (xid.0 == option_map_or (λ t. option_map_or (λ x. x.0) t.xid (seg.last_xid + 1)) r (seg.last_xid + 1))
      by None = refl
      by (Some t) = of t.xid

  guard_is : (made : List Oid) (item : Item) (old : Option Row) → guards_rows seg.held b made item old ≡ guarded_at seg b made item old
  guard_is made item old = by old (added_row item)
    where
      guards : Oid → Bool
      guards rel = list_any (same_oid rel) made || list_any (holds seg.held b rel) (modes_enough old item rel)

      relations : Row → List Oid
      relations = relations_changed (is_validation old item)

      by : (had added : Option Row) → (option_map_or (guards_row seg.held b made old item) had true && option_map_or (guards_row seg.held b made old item) added true) ≡ list_all guards (flat_map relations (filter_map (λ row. row) (had ∷ added ∷ [])))
      by None None = refl
      by None (Some row) = sym (all_flat guards relations (row ∷ []) ∙ and_right (list_all guards (relations row)))
      by (Some had) None = and_right (list_all guards (relations had)) ∙ sym (all_flat guards relations (had ∷ []) ∙ and_right (list_all guards (relations had)))
      by (Some had) (Some row) = sym (all_flat guards relations (had ∷ row ∷ []) ∙ ap (λ t. list_all guards (relations had) && t) (and_right (list_all guards (relations row))))

  change_is : (made : List Oid) (item : Item) → may_change ledger.rows.store seg.held (xid_in own.running) b made item (old_at ledger.rows.store (reader_at own) item) ≡ may_change_in seg b made item (seg_old seg b item)
  change_is made item = ap (may_change ledger.rows.store seg.held (xid_in own.running) b made item) (old_same seg ledger.rows b k.rows item)
      ∙ (λ i. is_there item (seg_old seg b item) && leaves_kind item (seg_old seg b item)
      && all_same (λ name. is_none (clash_of ledger.rows.store (xid_in own.running) name)) (free_at seg b) (free_is seg b ledger.rows.store (xid_in own.running) (mirrors seg ledger.rows b k.rows)) (new_name (seg_old seg b item) (added_row item)) i
      && guard_is made item (seg_old seg b item) i)

  write_is : (c : ℕ) (xid : Xid) (list : List Item) → may_write_at ledger.rows.store seg.held seg.next_oid seg.last_xid b c own xid list ≡ may_write seg b c xid list
  write_is c xid list =
      (λ i. next_is xid i && are_from seg.next_oid (flat_map drawn_by list) && not (is_last_write own.wrote c) && are_distinct_keys (flat_map changed_key list)
      && all_same (λ item. may_change ledger.rows.store seg.held (xid_in own.running) b (flat_map made_by list) item (old_at ledger.rows.store (reader_at own) item)) (λ item. may_change_in seg b (flat_map made_by list) item (seg_old seg b item)) (change_is (flat_map made_by list)) list i
      && list_all (covers_item ledger.rows.store (reader_at own) (flat_map (messages_at ledger.rows.store (reader_at own)) list) list) list)
      ∙ and_when _ _ (covers_at seg b c xid list) (λ is.
      let keys = and_parts _ _ (and_parts _ _ is).0 in
      covers_is seg b ledger.rows.store own (mirrors seg ledger.rows b k.rows) k.rows.drawn c xid list (eqb-true xid.0 (xid_at seg b) (and_parts _ _ (and_parts _ _ keys.0).0).0) keys.1)

  do_is : (c : ℕ) (event : Event) → may_do_at ledger.rows.store seg.held (length seg.log) seg.next_oid seg.last_xid b c own event ≡ allows_event seg b c event
  do_is c (Scan purpose rows) = ap (λ given. rows == length given) (scan_is_answer seg b seg.last_xid ledger.rows.store own purpose (mirrors seg ledger.rows b k.rows) k.rows.drawn)
  do_is c (Write xid items) = write_is c xid items
  do_is c (ClashRunning name xid) = user_is seg b ledger.rows.store (xid_in own.running) (mirrors seg ledger.rows b k.rows) name xid
  do_is c (ClashRow name rel) = λ i.
      same_by (is_unused (clash_of ledger.rows.store (xid_in own.running) name)) (is_empty (users_at seg b name))
      (unused_is seg b ledger.rows.store (xid_in own.running) (mirrors seg ledger.rows b k.rows) name, is_not_used seg b ledger.rows.store (xid_in own.running) (mirrors seg ledger.rows b k.rows) name) (empty_is (users_at seg b name)) i
      && list_any (is_row_of rel) (scan_is_answer seg b seg.last_xid ledger.rows.store own (RelName name) (mirrors seg ledger.rows b k.rows) k.rows.drawn i)
  do_is c event = refl

-- what is asked of an entry is what the segment asks
pub follow_is : (seg : Segment) (ledger : Ledger) (size : ℕ) (e : Entry) → Keeps seg ledger → may_follow_at ledger size e ≡ may_come size seg e
follow_is seg ledger size e k =
    (λ i. follows_own e.command (k.stands e.backend i) e.event && fetches_from size (length (k.log i)) (k.stands e.backend i) e.event
    && may_do_at ledger.rows.store (k.locks i) (length (k.log i)) (k.rows.next_oid_is i) (k.rows.last_xid_is i) e.backend e.command (k.stands e.backend i) e.event)
    ∙ ap (λ t. follows_own e.command (seg.standing e.backend) e.event && fetches_from size (length seg.log) (seg.standing e.backend) e.event && t) (do_is seg ledger e.backend k e.command e.event)

-- which decides what a history asks
pub come_decides : (seen : List Entry) (size : ℕ) (e : Entry) → Decides (may_come size (segment_of seen) e) (MayFollow seen e × FetchesFrom size seen e.backend e.event)
come_decides seen size e =
    decided_by (may_come size (segment_of seen) e)
    (both_decide _ _ (both_decide _ _ (by_same refl) (queue_decides size seen e.backend e.event)) (by_same refl))
    (λ is. ((allows_decides seen e).0 (and_from _ _ is.0.0 is.1), is.0.1))
    (λ is. let parts = and_parts _ _ ((allows_decides seen e).1 is.0) in ((parts.0, is.1), parts.1))

-- an entry that may follow may be entered
pub may_enter : (seen : List Entry) (ledger : Ledger) (e : Entry) → Reads seen ledger → MayFollow seen e → MayEnter ledger e
may_enter seen ledger e k follows = record { segment = segment_of seen; keeps = k; allowed = (allows_decides seen e).1 follows }

-- of an answer
pub answer_is : (result : Result Bool NoMemory) (seg : Segment) (ledger : Ledger) (size : ℕ) (e : Entry) → IfOk result (λ yes. yes ≡ may_follow_at ledger size e) → Keeps seg ledger → IfOk result (λ yes. yes ≡ may_come size seg e)
answer_is (Ok answer) seg ledger size e is k = is ∙ follow_is seg ledger size e k
answer_is (Err error) seg ledger size e is k = tt

pub answer_decides : (result : Result Bool NoMemory) (seen : List Entry) (ledger : Ledger) (size : ℕ) (e : Entry) → IfOk result (λ yes. yes ≡ may_follow_at ledger size e) → Reads seen ledger → IfOk result (λ yes. Decides yes (MayFollow seen e × FetchesFrom size seen e.backend e.event))
answer_decides (Ok answer) seen ledger size e is k = subst (λ t. Decides t (MayFollow seen e × FetchesFrom size seen e.backend e.event)) (sym (is ∙ follow_is (segment_of seen) ledger size e k)) (come_decides seen size e)
answer_decides (Err error) seen ledger size e is k = tt

-- the prefix that ends before an entry which may not follow, and the whole list
abbrev pub IsQueued : ℕ → List Entry → Type 0
IsQueued size history = IsLegal history × FollowsQueue size history

pub queued_more : (size : ℕ) (entries : List Entry) (at : ℕ) (e d : Entry) → at < length entries → e ≡ get_or entries at d → IsQueued size (take at entries) → MayFollow (take at entries) e × FetchesFrom size (take at entries) e.backend e.event → IsQueued size (take (at + 1) entries)
queued_more size entries at e d within is was follows = subst (IsQueued size) (sym (prefix_more entries at e d within is))
    (EachEntry-more IsAllowed (take at entries) e was.0 ((allows_decides (take at entries) e).1 follows.0), EachEntry-more (λ before x. FetchesFrom size before x.backend x.event) (take at entries) e was.1 follows.1)

pub ends_here : (size : ℕ) (entries : List Entry) (at : ℕ) (e d : Entry) → at < length entries → e ≡ get_or entries at d → IsQueued size (take at entries) → Decides false (MayFollow (take at entries) e × FetchesFrom size (take at entries) e.backend e.event) → IsLongest (IsQueued size) entries at
ends_here size entries at e d within is was decides = record {
  within = omega (arith, within);
  holds = was;
  most = λ less more.
      let parts : IsQueued size (take at entries ++ e ∷ []) = subst (IsQueued size) (prefix_more entries at e d within is) more in
      let never : false ≡ true = decides.1 ((allows_decides (take at entries) e).0 (EachEntry-rest IsAllowed (take at entries) (e ∷ []) parts.0).0, (EachEntry-rest (λ before x. FetchesFrom size before x.backend x.event) (take at entries) (e ∷ []) parts.1).0) in absurd (cc);
}

pub all_of_it : (size : ℕ) (entries : List Entry) (at : ℕ) → length entries ≤ at → IsQueued size (take at entries) → IsLongest (IsQueued size) entries (length entries)
all_of_it size entries at past was = record {
  within = omega arith;
  holds = subst (IsQueued size) (take_all at entries past ∙ sym (take_all (length entries) entries (omega arith))) was;
  most = λ less more. absurd (omega (arith, less));
}

-- what is held after the next entry
pub reads_next : (entries : List Entry) (at : ℕ) (e d : Entry) (ledger : Ledger) → at < length entries → e ≡ get_or entries at d → Reads (take at entries ++ e ∷ []) ledger → Reads (take (at + 1) entries) ledger
reads_next entries at e d ledger within is k = subst (λ history. Reads history ledger) (sym (prefix_more entries at e d within is)) k
