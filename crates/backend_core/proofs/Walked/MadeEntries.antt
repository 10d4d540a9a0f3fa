-- The entry that comes of what comes next.
use Rattle.std.proofs.Common.{◌≡◌, ◌∙◌, ℕ, Bool, true, false, Option, Some, None, List, refl, sym, ap, subst, length}
use Rattle.std.specs.List.{list_all}
use Rattle.std.specs.Option.{option_map}
use Rattle.event_kinds.specs.declared.entry.Event.TheVariants as events
use Rattle.ddl_effect.specs.Plans.{Plan, Do, Write}
use Rattle.lock_modes.specs.Grants.{first_conflict}
use Rattle.history_model.specs.Drawn.{next_oid}
use Rattle.history_model.specs.Held.{held_of}
use Rattle.history_model.specs.Lapped.{FetchesFrom}
use Rattle.history_model.specs.Log.{is_waiting}
use Rattle.history_model.specs.MayFollow.{AllowsLook, AllowsEvent}
use Rattle.history_model.specs.Names.{new_names}
use Rattle.history_model.specs.Transactions.{xid_for}
use Rattle.history_model.specs.Types.{Grant}
use Rattle.history_model.specs.Versions.{answer_of}
use Rattle.history_model.specs.Writes.{is_free, IsWriteAllowed}
use Rattle.seg_calls.specs.Calls.{due_to}
use Rattle.seg_calls.proofs.Refused.{none_refused}
use Rattle.cacheless.specs.Facts.{Facts}
use Rattle.cacheless.specs.Plays.{IsWrite, MayPlayIn}
use Rattle.cacheless.specs.Schedule.{LooksTruly}
use Rattle.cacheless.specs.Session.{Session}
use Rattle.backend_core.specs.Types.{Oid, Xid, Mode, Item, Command, Entry, Event, Next}
use Rattle.backend_core.specs.declared.next.Next.TheVariants as nexts
use Rattle.backend_core.specs.Noted.{ComesAs, items_left, refusal_left}
use Rattle.backend_core.specs.Walked.{lock_made, fetch_made, write_made, event_made}

-- a true look says whether messages wait
looks_so : (before : List Entry) (b : ℕ) (some_wait : Bool) → AllowsLook before b some_wait → LooksTruly before b (events.Look some_wait) → some_wait ≡ is_waiting before b
looks_so before b true allows truly = sym allows
looks_so before b false allows truly = sym truly

-- a refused lock names the first grant that conflicts
held_alike : (rel : Oid) (mode : Mode) (x y : ℕ × Mode) → x ≡ y → events.LockHeld rel mode y.0 y.1 ≡ events.LockHeld rel mode x.0 x.1
held_alike rel mode x y same = ap (λ (p : ℕ × Mode). events.LockHeld rel mode p.0 p.1) (sym same)

held_so : (rel : Oid) (mode : Mode) (holder : ℕ) (held : Mode) (o : Option Grant) → option_map {U = ℕ × Mode} (λ g. (g.backend, g.mode)) o ≡ Some (holder, held) → events.LockHeld rel mode holder held ≡ lock_made rel mode o
held_so rel mode holder held None is = absurd (cc is)
held_so rel mode holder held (Some g) is = held_alike rel mode (g.backend, g.mode) (holder, held) (cc is)

-- what is written is what is left of the plan
written_so : (next : ℕ) (plan : Plan) (items : List Item) → IsWrite next plan items → items ≡ items_left next plan
written_so next (Do (Write draft) rest) items is = is
written_so next plan items is = absurd is

-- none of its names is taken
made_so : (before : List Entry) (b c : ℕ) (xid : Xid) (items : List Item) (left : Plan) → IsWriteAllowed before b c xid items → items ≡ items_left (next_oid before) left → events.Write xid items ≡ write_made (xid_for before b) (items_left (next_oid before) left) (refusal_left before b left)
made_so before b c xid items left allows same = (λ i. events.Write (record { 0 = allows.xid_is i }) (same i)) ∙ sym (ap (write_made (xid_for before b) (items_left (next_oid before) left)) none)
  where
    none : refusal_left before b left ≡ None
    none = none_refused before b (new_names before b (items_left (next_oid before) left)) (subst (λ l. list_all (is_free before b) (new_names before b l) ≡ true) same allows.free)

pub comes_so : (size : ℕ) (before : List Entry) (b c : ℕ) (facts : Facts) (o : Option Command) (s : Session) (next : Next) (event : Event) → ComesAs (refusal_left before b s.left) next event → AllowsEvent before b c event → LooksTruly before b event → FetchesFrom size before b event → MayPlayIn (next_oid before) facts o s event
    → event ≡ event_made size before b s.left next
comes_so size before b c facts o s nexts.Look (events.Look some_wait) comes allows truly queue plays = ap events.Look (looks_so before b some_wait allows truly)
comes_so size before b c facts o s (nexts.LookBeforeScan rebuilds) (events.Look some_wait) comes allows truly queue plays = ap events.Look (looks_so before b some_wait allows truly)
comes_so size before b c facts o s nexts.LookBeforeAbsent (events.Look some_wait) comes allows truly queue plays = ap events.Look (looks_so before b some_wait allows truly)
comes_so size before b c facts o s nexts.Fetch (events.Fetch count) comes allows truly queue plays = ap events.Fetch allows.1 ∙ sym (ap (λ t. fetch_made t (due_to before b)) queue)
comes_so size before b c facts o s nexts.Fetch events.FetchReset comes allows truly queue plays = sym (ap (λ t. fetch_made t (due_to before b)) queue)
comes_so size before b c facts o s (nexts.Scan scan rebuilds) (events.Scan made rows) comes allows truly queue plays = λ i. events.Scan (comes i) ((allows ∙ ap (λ d. length (answer_of before b d)) comes) i)
comes_so size before b c facts o s (nexts.Lock rel mode) (events.LockOk granted in_mode) comes allows truly queue plays =
    (λ i. events.LockOk (comes.0 i) (comes.1 i)) ∙ sym (ap (lock_made rel mode) (sym (λ i. first_conflict (held_of before) b (comes.0 i) (comes.1 i)) ∙ allows.1))
comes_so size before b c facts o s (nexts.Lock rel mode) (events.LockHeld refused in_mode holder held) comes allows truly queue plays =
    (λ i. events.LockHeld (comes.0 i) (comes.1 i) holder held) ∙ held_so rel mode holder held (first_conflict (held_of before) b rel mode)
    (sym (λ i. option_map {U = ℕ × Mode} (λ g. (g.backend, g.mode)) (first_conflict (held_of before) b (comes.0 i) (comes.1 i))) ∙ allows.1)
comes_so size before b c facts o s (nexts.Unlock rel mode) (events.Unlock unlocked in_mode) comes allows truly queue plays = λ i. events.Unlock (comes.0 i) (comes.1 i)
comes_so size before b c facts (Some command) s nexts.Write (events.Write xid items) comes allows truly queue plays = made_so before b c xid items s.left allows (written_so (next_oid before) s.left items plays.1)
comes_so size before b c facts None s nexts.Write (events.Write xid items) comes allows truly queue plays = absurd plays
comes_so size before b c facts o s nexts.Write (events.ClashRow name rel) comes allows truly queue plays = sym (ap (write_made (xid_for before b) (items_left (next_oid before) s.left)) comes)
comes_so size before b c facts o s nexts.Write (events.ClashRunning name xid) comes allows truly queue plays = sym (ap (write_made (xid_for before b) (items_left (next_oid before) s.left)) comes)
comes_so size before b c facts o s (nexts.Commit xid) (events.Visible shown) comes allows truly queue plays = ap events.Visible comes
comes_so size before b c facts o s nexts.Publish (events.Publish count) comes allows truly queue plays = ap events.Publish allows.2
comes_so size before b c facts o s (nexts.TakeBack from) (events.Gone first) comes allows truly queue plays = ap events.Gone comes
comes_so size before b c facts o s (nexts.Release from) (events.Release first) comes allows truly queue plays = ap events.Release comes
comes_so size before b c facts o s nexts.Leave events.Stop comes allows truly queue plays = refl
comes_so size before b c facts o s next event comes allows truly queue plays = absurd comes
