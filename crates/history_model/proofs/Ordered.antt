-- What holds of each sound history: its locks exclude each other, what a running transaction has touched is guarded, and a backend sees one version of a key.
use Rattle.std.proofs.Common.{◌≡◌, ◌≤◌, ◌∙◌, ◌⊎◌, inl, inr, ℕ, Bool, true, false, not, Option, Some, None, List, [], ◌∷◌, ◌++◌, ◌==◌, ◌||◌, ◌&&◌, cond, refl, sym, ap, subst, map, filter, arith, length}
use Rattle.std.specs.Prelude.{nat_le}
use Rattle.std.specs.List.{AllByRecursion, list_any, list_all, flat_map, find, filter_map, cons_option, range_with_len}
use Rattle.std.specs.Option.{option_map, option_map_or, IfSome}
use Rattle.std.proofs.lemmas.List.Folds.{list_any-append, list_all-append}
use Rattle.std.proofs.lemmas.Bool.{eqb-true, eq-eqb, both_ways, or_cases, or_left, or_right, or_parts, and_parts, and_from, le-leb, false_from_ne_true}
use Rattle.base_types.specs.declared.ids.Oid.{Oid}
use Rattle.base_types.specs.declared.ids.Xid.{Xid}
use Rattle.base_types.specs.declared.mode.Mode.{Mode}
use Rattle.base_types.specs.declared.row.Row.{Row}
use Rattle.base_types.specs.declared.row.ConKind.{ConKind}
use Rattle.base_types.specs.declared.row.ConKind.TheVariants as demands
use Rattle.base_types.specs.declared.row.Row.TheVariants as rows
use Rattle.base_types.specs.declared.scan.Purpose.{Purpose}
use Rattle.base_types.specs.declared.scan.Purpose.TheVariants as scans
use Rattle.base_types.specs.declared.row_key.RowKey.{RowKey}
use Rattle.base_types.specs.RowKeys.{key_of, same_key, are_distinct_keys}
use Rattle.base_types.specs.Modes.{same_mode}
use Rattle.base_types.specs.Scans.{same_oid, refers_to, selects}
use Rattle.row_visibility.specs.declared.version.Version.{Version}
use Rattle.row_visibility.specs.declared.version.Stamp.{Stamp}
use Rattle.row_visibility.specs.Seen.{seen_by}
use Rattle.event_kinds.specs.declared.entry.Entry.{Entry}
use Rattle.event_kinds.specs.declared.entry.Event.{Event}
use Rattle.event_kinds.specs.declared.entry.Event.TheVariants as events
use Rattle.event_kinds.specs.declared.entry.Item.{Item}
use Rattle.event_kinds.specs.declared.entry.Item.TheVariants as forms
use Rattle.lock_modes.specs.declared.grant.Grant.{Grant}
use Rattle.lock_modes.specs.Grants.{is_lock, holds, stays}
use Rattle.history_model.specs.Lives.{Life, Unstarted, Alive, Stopped, life_of}
use Rattle.history_model.specs.MayFollow.{FollowsLife}
use Rattle.history_model.specs.Transactions.{Running, running_transaction_of, is_visible, runs_as, is_committed, xid_for}
use Rattle.history_model.specs.Versions.{versions_of, rows_of, row_with, ends, ended_key, added_row, old_row, counts, sees}
use Rattle.inval_messages.specs.declared.message.Message.{Message}
use Rattle.inval_messages.specs.Lists.{Written, has_write_from}
use Rattle.history_model.specs.Sent.{lists_of, messages_written, ends_transaction as ends_at}
use Rattle.history_model.specs.Held.{granted_by, held_by, held_of}
use Rattle.history_model.specs.Drawn.{made_by, drawn_by, next_oid}
use Rattle.history_model.specs.Covered.{is_covered}
use Rattle.history_model.specs.Changing.{changed_key, relations_changed, is_validation, rows_named, modes_enough}
use Rattle.history_model.specs.Writes.{has_row, is_guarded}
use Rattle.history_model.specs.MayFollow.{FollowsVisible, MayRelease, AllowsEvent}
use Rattle.history_model.specs.Orderly.{has_key, is_fresh, main_rel, keeps_relation, scans_told, covers_told, IsOrderlyWrite, IsOrderlyEvent}
use Rattle.history_model.specs.Sound.{MayComeNext, IsSound}
use Rattle.history_model.proofs.Prefixes.{each-keeps}
use Rattle.history_model.proofs.Reading.{held_of-more as held-more}
use Rattle.history_model.proofs.Every.{every-weaker, every, every-append, every-kept, every-both, any-left, any-right}
use Rattle.history_model.proofs.Lawful.{EndsOnce, asks_own, CoversRow, CoversItem, CoversLawfully, IsLawfulEvent, IsLawful}
use Rattle.history_model.proofs.Asking.{oid_eq, scan_in}
use Rattle.history_model.proofs.Runs.{Runs, Runs-start, Runs-more}
use Rattle.history_model.proofs.Exclude.{AllAgree, LocksWell, LocksWell-more, LocksLawfully, granted_here, lock_command}
use Rattle.history_model.proofs.Touched.{entry_of, OfStamps, Touched, Touched-more}
use Rattle.history_model.proofs.Guards.{key_eq, key_refl, is_exclusive, guards_in, IsHeldIn, held_in-weaker, IsGuarded, IsGuardedItem, Guard, Guards, Guards-more, GuardsLawfully, one_guard}
use Rattle.history_model.proofs.EnoughModes.{is_enough, exclusive_enough, IsNamed, IsHeldFor, held_kept, kept_guarded}
use Rattle.history_model.proofs.Seen.{counts_at, every_command, seen-same, Apart, Pairwise, OneVersion}
use Rattle.history_model.proofs.OneVersion.{SameRel, OneRel, OneRel-more, IsOther, KeepsRel, KeysLawfully, OneVersion-more}
use Rattle.history_model.proofs.Lives.{Lives, Lives-start, Lives-more, Begun, begun_at, rises, command_of, command-own, command-other}

-- no grant is of a later command than its backend's last entry
abbrev pub Early : List Entry → Type 0
Early history = AllByRecursion (λ g. g.command ≤ command_of history g.backend) (held_of history)

-- all that is carried along a sound history
pub record Ordered (history : List Entry) : Type 0 where
  pub runs : Runs history
  pub lives : Lives history
  pub early : Early history
  pub locks : LocksWell history
  pub touched : Touched history
  pub guards : Guards history
  pub rels : OneRel history
  pub one : OneVersion history

pub all_each : {X : Type 0} (p : X → Bool) (xs : List X) → list_all p xs ≡ true → AllByRecursion (λ x. p x ≡ true) xs
all_each p [] all = tt
all_each p (x ∷ xs) all = let parts = and_parts (p x) (list_all p xs) all in (parts.0, all_each p xs parts.1)

pub all_flat : {X Y : Type 0} (p : Y → Bool) (f : X → List Y) (xs : List X) → list_all p (flat_map f xs) ≡ true → AllByRecursion (λ x. list_all p (f x) ≡ true) xs
all_flat p f [] all = tt
all_flat p f (x ∷ xs) all = let parts = and_parts (list_all p (f x)) (list_all p (flat_map f xs)) (sym (list_all-append p (f x) (flat_map f xs)) ∙ all) in (parts.0, all_flat p f xs parts.1)

pub all_kept : {X Y : Type 0} (p : Y → Bool) (f : X → Option Y) (xs : List X) → list_all p (filter_map f xs) ≡ true → AllByRecursion (λ x. IfSome (f x) (λ y. p y ≡ true)) xs
all_kept p f [] all = tt
all_kept p f (x ∷ xs) all = by_option (f x) all (all_kept p f xs)
  where
    by_option : (o : Option _) → list_all p (cons_option o (filter_map f xs)) ≡ true → (list_all p (filter_map f xs) ≡ true → AllByRecursion (λ z. IfSome (f z) (λ y. p y ≡ true)) xs)
        → IfSome o (λ y. p y ≡ true) × AllByRecursion (λ z. IfSome (f z) (λ y. p y ≡ true)) xs
    by_option None held rest = (tt, rest held)
    by_option (Some y) held rest = let parts = and_parts (p y) (list_all p (filter_map f xs)) held in (parts.0, rest parts.1)

pub if_some : {X : Type 0} (P Q : X → Type 0) → ((x : X) → P x → Q x) → (o : Option X) → IfSome o P → IfSome o Q
if_some P Q weaker None held = tt
if_some P Q weaker (Some x) held = weaker x held

pub both_some : {X : Type 0} (P Q R : X → Type 0) → ((x : X) → P x → Q x → R x) → (o : Option X) → IfSome o P → IfSome o Q → IfSome o R
both_some P Q R join None p q = tt
both_some P Q R join (Some x) p q = join x p q

-- the rows that a change names
pub both_rows : {Y : Type 0} (p : Y → Bool) (f : Row → List Y) (old new : Option Row) → list_all p (flat_map f (filter_map (λ r. r) (old ∷ new ∷ []))) ≡ true → IfSome new (λ row. list_all p (f row) ≡ true) × IfSome old (λ row. list_all p (f row) ≡ true)
both_rows p f None None all = (tt, tt)
both_rows p f None (Some new) all = ((all_flat p f (new ∷ []) all).0, tt)
both_rows p f (Some old) None all = (tt, (all_flat p f (old ∷ []) all).0)
both_rows p f (Some old) (Some new) all = let held = all_flat p f (old ∷ new ∷ []) all in (held.1.0, held.0)

-- a mode that is held is held by a grant of this command or below
held_guards : (test : Mode → Bool) (enough : Mode) → ((mode : Mode) → same_mode mode enough ≡ true → test mode ≡ true) → (b c : ℕ) (key : Oid) (gs : List Grant) → AllByRecursion (λ g. g.backend ≡ b → g.command ≤ c) gs → holds gs b key enough ≡ true → IsHeldIn test gs b c key
held_guards test enough alone b c key [] early is = absurd (cc)
held_guards test enough alone b c key (g ∷ gs) early is = by_place (or_cases _ (holds gs b key enough) is) (held_guards test enough alone b c key gs early.1)
  where
    here : ((g.backend == b) && same_oid g.rel key && same_mode g.mode enough) ≡ true → guards_in test b c key g ≡ true
    here all = of (g.backend == b) refl (same_oid g.rel key) refl (same_mode g.mode enough) refl all
      where
        of : (x : Bool) → (g.backend == b) ≡ x → (y : Bool) → same_oid g.rel key ≡ y → (z : Bool) → same_mode g.mode enough ≡ z → (x && y && z) ≡ true → guards_in test b c key g ≡ true
        of true own true rel true same done = and_from ((g.backend == b) && nat_le g.command c) (same_oid g.rel key && test g.mode)
            (and_from (g.backend == b) (nat_le g.command c) own (le-leb g.command c (early.0 (eqb-true g.backend b own)))) (and_from (same_oid g.rel key) (test g.mode) rel (alone g.mode same))
        of false own y rel z same done = absurd (cc)
        of true own false rel z same done = absurd (cc)
        of true own true rel false same done = absurd (cc)

    by_place : (((g.backend == b) && same_oid g.rel key && same_mode g.mode enough) ≡ true) ⊎ (holds gs b key enough ≡ true) → (holds gs b key enough ≡ true → IsHeldIn test gs b c key) → IsHeldIn test (g ∷ gs) b c key
    by_place (inl one) rest = ap (λ t. t || list_any (guards_in test b c key) gs) (here one)
    by_place (inr there) rest = any-right (guards_in test b c key) (g ∷ []) gs (rest there)

-- AccessExclusive is held on a relation that the write makes
made_guards : (b c : ℕ) (key : Oid) (items : List Item) → list_any (same_oid key) (flat_map made_by items) ≡ true → IsHeldIn is_exclusive (flat_map (granted_by b c) items) b c key
made_guards b c key [] some = absurd (cc)
made_guards b c key (item ∷ items) some = by_place (or_cases (list_any (same_oid key) (made_by item)) (list_any (same_oid key) (flat_map made_by items)) (sym (list_any-append (same_oid key) (made_by item) (flat_map made_by items)) ∙ some)) (made_guards b c key items)
  where
    only : (t : Bool) → (t || false) ≡ true → t ≡ true
    only true h = refl
    only false h = h

    one : (item : Item) → list_any (same_oid key) (made_by item) ≡ true → IsHeldIn is_exclusive (granted_by b c item) b c key
    one (forms.Add (rows.Class oid own kind fill)) is = ap (λ t. t || false) (and_from ((b == b) && nat_le c c) (same_oid oid key && true) (and_from (b == b) (nat_le c c) (eq-eqb b b refl) (le-leb c c (omega arith)))
        (and_from (same_oid oid key) true (eq-eqb oid.0 key.0 (sym (eqb-true key.0 oid.0 (only (same_oid key oid) is)))) refl))
    one item is = absurd (cc)

    by_place : (list_any (same_oid key) (made_by item) ≡ true) ⊎ (list_any (same_oid key) (flat_map made_by items) ≡ true) → (list_any (same_oid key) (flat_map made_by items) ≡ true → IsHeldIn is_exclusive (flat_map (granted_by b c) items) b c key)
        → IsHeldIn is_exclusive (granted_by b c item ++ flat_map (granted_by b c) items) b c key
    by_place (inl is) rest = any-left (guards_in is_exclusive b c key) (granted_by b c item) (flat_map (granted_by b c) items) (one item is)
    by_place (inr is) rest = any-right (guards_in is_exclusive b c key) (granted_by b c item) (flat_map (granted_by b c) items) (rest is)

-- a mode that is held of some is held by such a grant
some_guards : (b c : ℕ) (key : Oid) (gs : List Grant) → AllByRecursion (λ g. g.backend ≡ b → g.command ≤ c) gs → (modes : List Mode) → list_any (holds gs b key) modes ≡ true → IsHeldIn (λ mode. list_any (same_mode mode) modes) gs b c key
some_guards b c key gs early [] some = absurd (cc)
some_guards b c key gs early (mode ∷ modes) some = by_place (or_cases (holds gs b key mode) (list_any (holds gs b key) modes) some) (some_guards b c key gs early modes)
  where
    among : Mode → Bool
    among m = list_any (same_mode m) (mode ∷ modes)

    by_place : (holds gs b key mode ≡ true) ⊎ (list_any (holds gs b key) modes ≡ true) → (list_any (holds gs b key) modes ≡ true → IsHeldIn (λ m. list_any (same_mode m) modes) gs b c key) → IsHeldIn among gs b c key
    by_place (inl here) rest = held_guards among mode (λ m same. or_left (same_mode m mode) (list_any (same_mode m) modes) same) b c key gs early here
    by_place (inr there) rest = held_in-weaker (λ m. list_any (same_mode m) modes) among (λ m is. or_right (same_mode m mode) (list_any (same_mode m) modes) is) gs b c key (rest there)

-- the test that a write is guarded: for each row that its changes name a mode is held that is enough
pub guarded_rows : (before : List Entry) (b c : ℕ) (xid : Xid) (items : List Item) → list_all (is_guarded before b (flat_map made_by items)) items ≡ true → list_all (keeps_relation before b) items ≡ true → AllByRecursion (λ g. g.backend ≡ b → g.command ≤ c) (held_of before)
    → AllByRecursion (λ item. IfSome (added_row item) (IsHeldFor (held_by b c (events.Write xid items) (held_of before)) b c (old_row before b item) item) × IfSome (old_row before b item) (IsHeldFor (held_by b c (events.Write xid items) (held_of before)) b c (old_row before b item) item)) items
guarded_rows before b c xid items guarded keeps early =
    every-weaker (λ item. (is_guarded before b made item ≡ true) × (keeps_relation before b item ≡ true)) (λ item. IfSome (added_row item) (IsHeldFor held b c (old_row before b item) item) × IfSome (old_row before b item) (IsHeldFor held b c (old_row before b item) item)) of items
    (every-both (λ item. is_guarded before b made item ≡ true) (λ item. keeps_relation before b item ≡ true) items (all_each (is_guarded before b made) items guarded) (all_each (keeps_relation before b) items keeps))
  where
    made : List Oid
    made = flat_map made_by items

    held : List Grant
    held = held_by b c (events.Write xid items) (held_of before)

    old_held : (test : Mode → Bool) (rel : Oid) → IsHeldIn test (held_of before) b c rel → IsHeldIn test held b c rel
    old_held test rel is = any-left (guards_in test b c rel) (held_of before) (flat_map (granted_by b c) items) is

    guard : (old : Option Row) (item : Item) (rel : Oid) → (list_any (same_oid rel) made || list_any (holds (held_of before) b rel) (modes_enough old item rel)) ≡ true → IsHeldIn (is_enough old item rel) held b c rel
    guard old item rel here = by_side (or_cases (list_any (same_oid rel) made) (list_any (holds (held_of before) b rel) (modes_enough old item rel)) here)
      where
        by_side : (list_any (same_oid rel) made ≡ true) ⊎ (list_any (holds (held_of before) b rel) (modes_enough old item rel) ≡ true) → IsHeldIn (is_enough old item rel) held b c rel
        by_side (inl new) = held_in-weaker is_exclusive (is_enough old item rel) (exclusive_enough old item rel) held b c rel (any-right (guards_in is_exclusive b c rel) (held_of before) (flat_map (granted_by b c) items) (made_guards b c rel items new))
        by_side (inr some) = old_held (is_enough old item rel) rel (some_guards b c rel (held_of before) early (modes_enough old item rel) some)

    on : (old : Option Row) (item : Item) (row : Row) → IsNamed old item row → list_all (λ rel. list_any (same_oid rel) made || list_any (holds (held_of before) b rel) (modes_enough old item rel)) (relations_changed (is_validation old item) row) ≡ true → IsHeldFor held b c old item row
    on old item row named all = (named, every-weaker (λ rel. P rel ≡ true) (λ rel. IsHeldIn (is_enough old item rel) held b c rel) (guard old item) (relations_changed (is_validation old item) row) (all_each P (relations_changed (is_validation old item) row) all))
      where
        P : Oid → Bool
        P rel = list_any (same_oid rel) made || list_any (holds (held_of before) b rel) (modes_enough old item rel)

    -- the row that a change adds and the one that it replaces or takes away
    added_named : (item : Item) → keeps_relation before b item ≡ true → IfSome (added_row item) (IsNamed (old_row before b item) item)
    added_named (forms.Add row) kept = (refl, kept)
    added_named (forms.Put row) kept = inl refl
    added_named (forms.Remove key) kept = tt
    added_named (forms.Force rel) kept = tt

    old_named : (item : Item) → IfSome (old_row before b item) (IsNamed (old_row before b item) item)
    old_named (forms.Add row) = tt
    old_named (forms.Put row) = by (row_with before b (key_of row))
      where
        by : (o : Option Row) → IfSome o (IsNamed o (forms.Put row))
        by None = tt
        by (Some old) = inr refl
    old_named (forms.Remove key) = by (row_with before b key)
      where
        by : (o : Option Row) → IfSome o (IsNamed o (forms.Remove key))
        by None = tt
        by (Some old) = refl
    old_named (forms.Force rel) = tt

    of : (item : Item) → (is_guarded before b made item ≡ true) × (keeps_relation before b item ≡ true) → IfSome (added_row item) (IsHeldFor held b c (old_row before b item) item) × IfSome (old_row before b item) (IsHeldFor held b c (old_row before b item) item)
    of item is =
        let both = both_rows P (relations_changed (is_validation old item)) old (added_row item) is.0 in
        (both_some (IsNamed old item) All (IsHeldFor held b c old item) (on old item) (added_row item) (added_named item is.1) both.0, both_some (IsNamed old item) All (IsHeldFor held b c old item) (on old item) old (old_named item) both.1)
      where
        old : Option Row
        old = old_row before b item

        P : Oid → Bool
        P rel = list_any (same_oid rel) made || list_any (holds (held_of before) b rel) (modes_enough old item rel)

        All : Row → Type 0
        All row = list_all P (relations_changed (is_validation old item) row) ≡ true

-- so a mode that no two backends may hold is held on the row's own relation
pub main_guarded : (held : List Grant) (b c : ℕ) (old : Option Row) (item : Item) (row : Row) → IsHeldFor held b c old item row → IsGuarded held b c (main_rel row)
main_guarded held b c old item row held_for = kept_guarded held b c row (held_kept held b c old item row held_for)

-- the row that a change replaces is that of the one version which it ends
found : (g : Version → Bool) (key : RowKey) (vs : List Version) → Pairwise (λ v w. key_of v.row ≡ key_of w.row → g v ≡ true → g w ≡ true → ⊥) vs
    → AllByRecursion (λ v. g v ≡ true → same_key (key_of v.row) key ≡ true → find (λ row. same_key (key_of row) key) (map (λ v. v.row) (filter g vs)) ≡ Some v.row) vs
found g key [] pairs = tt
found g key (v ∷ vs) pairs = (λ sight is. first (g v) sight is, every-weaker Later Found (λ w later sight is. rest w later sight is (g v) refl (same_key (key_of v.row) key) refl) vs (every-both _ _ vs pairs.0 (found g key vs pairs.1)))
  where
    looked : List Version → Option Row
    looked ws = find (λ row. same_key (key_of row) key) (map (λ x. x.row) ws)

    Later : Version → Type 0
    Later w = (key_of v.row ≡ key_of w.row → g v ≡ true → g w ≡ true → ⊥) × (g w ≡ true → same_key (key_of w.row) key ≡ true → looked (filter g vs) ≡ Some w.row)

    Found : Version → Type 0
    Found w = g w ≡ true → same_key (key_of w.row) key ≡ true → looked (filter g (v ∷ vs)) ≡ Some w.row

    first : (s : Bool) → s ≡ true → same_key (key_of v.row) key ≡ true → looked (cond s (v ∷ filter g vs) (filter g vs)) ≡ Some v.row
    first true sight is = ap (λ t. cond t (Some v.row) (looked (filter g vs))) is
    first false sight is = absurd (cc)

    rest : (w : Version) → Later w → g w ≡ true → same_key (key_of w.row) key ≡ true → (s : Bool) → g v ≡ s → (t : Bool) → same_key (key_of v.row) key ≡ t → looked (cond s (v ∷ filter g vs) (filter g vs)) ≡ Some w.row
    rest w later sight is false unseen t other = later.1 sight is
    rest w later sight is true seen true same = absurd (later.0 (key_eq (key_of v.row) key same ∙ sym (key_eq (key_of w.row) key is)) seen sight)
    rest w later sight is true seen false other = ap (λ t. cond t (Some v.row) (looked (filter g vs))) other ∙ later.1 sight is

all_of_it : (history : List Entry) (b : ℕ) (v : Version) → seen_by (counts_at history b every_command) v ≡ sees history b v
all_of_it history b v = seen-same (counts_at history b every_command) (counts history b) v (same v.by, of v.ended)
  where
    and_true : (t : Bool) → (t && true) ≡ t
    and_true true = refl
    and_true false = refl

    same : (s : Stamp) → counts_at history b every_command s ≡ counts history b s
    same s = ap (λ t. is_committed history s.xid.0 || t) (and_true (runs_as history b s.xid.0))

    of : (o : Option Stamp) → IfSome o (λ s. counts_at history b every_command s ≡ counts history b s)
    of None = tt
    of (Some s) = same s

-- of two versions with one key a backend doesn't see both
pub one_seen : (history : List Entry) (b : ℕ) (vs : List Version) → Pairwise (Apart history) vs → Pairwise (λ v w. key_of v.row ≡ key_of w.row → sees history b v ≡ true → sees history b w ≡ true → ⊥) vs
one_seen history b [] pairs = tt
one_seen history b (v ∷ vs) pairs = (
  every-weaker (Apart history v) (λ w. key_of v.row ≡ key_of w.row → sees history b v ≡ true → sees history b w ≡ true → ⊥)
      (λ w apart key seen also. apart key b every_command (λ i j low is. refl) (all_of_it history b v ∙ seen) (all_of_it history b w ∙ also)) vs pairs.0,
  one_seen history b vs pairs.1,
)

-- each version that a change ends has a named row
pub ended_named : (history : List Entry) (b : ℕ) (N : Row → Type 0) (item : Item) → OneVersion history → IfSome (old_row history b item) N → AllByRecursion (λ v. ends history b item v ≡ true → N v.row) (versions_of history)
ended_named history b N item one named = of (ended_key item) named
  where
    of : (o : Option RowKey) → IfSome (option_map_or (row_with history b) o None) N
        → AllByRecursion (λ v. (option_map_or (same_key (key_of v.row)) o false && sees history b v) ≡ true → N v.row) (versions_of history)
    of None named' = every (λ v. (false && sees history b v) ≡ true → N v.row) (λ v is. absurd (cc)) (versions_of history)
    of (Some key) named' = every-weaker (λ v. sees history b v ≡ true → same_key (key_of v.row) key ≡ true → row_with history b key ≡ Some v.row) (λ v. (same_key (key_of v.row) key && sees history b v) ≡ true → N v.row)
        (λ v is both. let parts = and_parts (same_key (key_of v.row) key) (sees history b v) both in subst (λ o. IfSome o N) (is parts.1 parts.0) named') (versions_of history)
        (found (sees history b) key (versions_of history) (one_seen history b (versions_of history) one))

guarded_items : (history : List Entry) (b c : ℕ) (xid : Xid) (items : List Item) → Ordered history → list_all (is_guarded history b (flat_map made_by items)) items ≡ true → IsOrderlyWrite history b items → AllByRecursion (λ g. g.backend ≡ b → g.command ≤ c) (held_of history)
    → AllByRecursion (IsGuardedItem history b (IsGuarded (held_by b c (events.Write xid items) (held_of history)) b c)) items
guarded_items history b c xid items k guarded orderly early =
    every-weaker (λ item. IfSome (added_row item) (For item) × IfSome (old_row history b item) (For item)) (IsGuardedItem history b (IsGuarded held b c))
    (λ item h. (
      if_some (For item) On (main_guarded held b c (old_row history b item) item) (added_row item) h.0,
      ended_named history b On item k.one (if_some (For item) On (main_guarded held b c (old_row history b item) item) (old_row history b item) h.1),
    )) items
    (guarded_rows history b c xid items guarded orderly.keeps early)
  where
    held : List Grant
    held = held_by b c (events.Write xid items) (held_of history)

    For : Item → Row → Type 0
    For item = IsHeldFor held b c (old_row history b item) item

    On : Row → Type 0
    On row = IsGuarded held b c (main_rel row)

-- a change ends no version that another has ended and that runs
ends_once : (history : List Entry) (b c : ℕ) (xid : Xid) (items : List Item) (item : Item) → LocksWell (history ++ entry_of b c (events.Write xid items) ∷ []) → Guards history
    → IsGuardedItem history b (IsGuarded (held_by b c (events.Write xid items) (held_of history)) b c) item → EndsOnce history b item
ends_once history b c xid items item locks guards' guarded =
    every-weaker (λ v. OfStamps (Guard history) v × (ends history b item v ≡ true → IsGuarded held b c (main_rel v.row))) (λ v. ends history b item v ≡ true → IfSome v.ended (λ s. (someone : ℕ) → runs_as history someone s.xid.0 ≡ false))
    (λ v h is. of v v.ended h.0.1 (h.1 is) (and_parts _ (sees history b v) is).1) (versions_of history) (every-both (OfStamps (Guard history)) (λ v. ends history b item v ≡ true → IsGuarded held b c (main_rel v.row)) (versions_of history) guards' guarded.1)
  where
    held : List Grant
    held = held_by b c (events.Write xid items) (held_of history)

    of : (v : Version) (o : Option Stamp) → IfSome o (λ s. Guard history s v.row) → IsGuarded held b c (main_rel v.row) → (counts history b v.by && not (option_map_or (counts history b) o false)) ≡ true
        → IfSome o (λ s. (someone : ℕ) → runs_as history someone s.xid.0 ≡ false)
    of v None guard mine is = tt
    of v (Some s) guard mine is = λ someone. false_from_ne_true (runs_as history someone s.xid.0) (λ runs.
        let theirs : IsGuarded held someone s.command (main_rel v.row) = any-left _ (held_of history) (flat_map (granted_by b c) items) (guard someone runs) in
        let same : b ≡ someone = one_guard held b someone c s.command (main_rel v.row) (subst (λ gs. AllAgree gs gs) (held-more history (entry_of b c (events.Write xid items))) locks.agree) mine theirs in
        both_ways _ (counts_not (is_committed history s.xid.0) (runs_as history b s.xid.0) (and_parts (counts history b v.by) (not (counts history b s)) is).1) (subst (λ o. runs_as history o s.xid.0 ≡ true) (sym same) runs))
      where
        counts_not : (x y : Bool) → not (x || y) ≡ true → y ≡ false
        counts_not true y none = absurd (cc)
        counts_not false true none = absurd (cc)
        counts_not false false none = refl

asks_it : (d : Purpose) (row : Row) → asks_own d row ≡ true → selects d row ≡ true
asks_it (scans.Constraint rel) (rows.Con oid of name valid what) is = or_left (same_oid of rel) (refers_to what rel) is
asks_it (scans.Constraint rel) row is = is
asks_it d row is = is

-- what each scan passes of which a message must tell, each passes that asks for the row
pub told_in : (P : Purpose → Bool) (validated : Bool) (row : Row) → list_all P (scans_told validated row) ≡ true → (d : Purpose) → asks_own d row ≡ true → P d ≡ true
told_in P validated (rows.Con oid of name valid what) all (scans.Constraint rel) is = subst (λ o. P (scans.Constraint o) ≡ true) (oid_eq of rel is) (first validated what all)
  where
    first : (v : Bool) (w : ConKind) → list_all P (scans_told v (rows.Con oid of name valid w)) ≡ true → P (scans.Constraint of) ≡ true
    first true (demands.Foreign num refrel refnum) told = (and_parts (P (scans.Constraint of)) true told).0
    first false (demands.Foreign num refrel refnum) told = (and_parts (P (scans.Constraint of)) (P (scans.Constraint refrel) && true) told).0
    first v (demands.Check text) told = (and_parts (P (scans.Constraint of)) true told).0
told_in P validated (rows.Con oid of name valid what) all d is = absurd (cc)
told_in P validated (rows.Class oid own kind fill) all d is = scan_in P d (rows.Class oid own kind fill) (asks_it d (rows.Class oid own kind fill) is) all
told_in P validated (rows.Att of num own col_type stat live) all d is = scan_in P d (rows.Att of num own col_type stat live) (asks_it d (rows.Att of num own col_type stat live) is) all
told_in P validated (rows.Def oid of num word) all d is = scan_in P d (rows.Def oid of num word) (asks_it d (rows.Def oid of num word) is) all
told_in P validated (rows.Ind index table state nums) all d is = scan_in P d (rows.Ind index table state nums) (asks_it d (rows.Ind index table state nums) is) all
told_in P validated (rows.Trg oid of own on) all d is = scan_in P d (rows.Trg oid of own on) (asks_it d (rows.Trg oid of own on) is) all

-- the messages of an orderly write cover what gives the rows that it adds and ends
pub covers_items : (history : List Entry) (b : ℕ) (items : List Item) → OneVersion history → covers_told history b items ≡ true → AllByRecursion (CoversItem history b (messages_written history b items)) items
covers_items history b items one named =
    every-weaker (λ item. list_all (is_covered messages) (flat_map (told item) (rows_named item (old_row history b item))) ≡ true) (CoversItem history b messages) of items (all_flat (is_covered messages) (λ item. flat_map (told item) (rows_named item (old_row history b item))) items named)
  where
    messages : List Message
    messages = messages_written history b items

    told : Item → Row → List Purpose
    told item = scans_told (is_validation (old_row history b item) item)

    of : (item : Item) → list_all (is_covered messages) (flat_map (told item) (rows_named item (old_row history b item))) ≡ true → CoversItem history b messages item
    of item all =
        let both = both_rows (is_covered messages) (told item) (old_row history b item) (added_row item) all in
        (if_some All (CoversRow messages) on (added_row item) both.0, ended_named history b (CoversRow messages) item one (if_some All (CoversRow messages) on (old_row history b item) both.1))
      where
        All : Row → Type 0
        All row = list_all (is_covered messages) (told item row) ≡ true

        on : (row : Row) → All row → CoversRow messages row
        on row covered = told_in (is_covered messages) (is_validation (old_row history b item) item) row covered

covers_lawful : (history : List Entry) (b : ℕ) (event : Event) → IsOrderlyEvent history b event → OneVersion history → CoversLawfully history b event
covers_lawful history b (events.Write xid items) orderly one = covers_items history b items one orderly.told
covers_lawful history b event orderly one = tt

-- a row that is added has a key of its own
others : (key : RowKey) (vs : List Version) → list_any (λ v. same_key (key_of v.row) key) vs ≡ false → AllByRecursion (λ v. key_of v.row ≡ key → ⊥) vs
others key [] none = tt
others key (v ∷ vs) none =
    let parts = or_parts (same_key (key_of v.row) key) (list_any (λ w. same_key (key_of w.row) key) vs) none in
    (λ is. both_ways _ parts.0 (subst (λ k. same_key (key_of v.row) k ≡ true) is (key_refl (key_of v.row))), others key vs parts.1)

fresh_others : (before : List Entry) (item : Item) → is_fresh before item ≡ true → AllByRecursion (IsOther item) (versions_of before)
fresh_others before (forms.Add row) fresh = others (key_of row) (versions_of before) (none (has_key before (key_of row)) fresh)
  where
    none : (t : Bool) → elim t [ true ↦ false | false ↦ true ] ≡ true → t ≡ false
    none true is = absurd (cc)
    none false is = refl
fresh_others before (forms.Put row) fresh = every (IsOther (forms.Put row)) (λ v. tt) (versions_of before)
fresh_others before (forms.Remove key) fresh = every (IsOther (forms.Remove key)) (λ v. tt) (versions_of before)
fresh_others before (forms.Force rel) fresh = every (IsOther (forms.Force rel)) (λ v. tt) (versions_of before)

find_holds : (Q : Row → Type 0) (p : Row → Bool) (g : Version → Bool) (o : Row) (vs : List Version) → AllByRecursion (λ w. Q w.row) vs → find p (map (λ w. w.row) (filter g vs)) ≡ Some o → Q o
find_holds Q p g o [] all is = absurd (cc)
find_holds Q p g o (v ∷ vs) all is = by_tests (g v) is (find_holds Q p g o vs all.1)
  where
    in_row : (t : Bool) → cond t (Some v.row) (find p (map (λ w. w.row) (filter g vs))) ≡ Some o → (find p (map (λ w. w.row) (filter g vs)) ≡ Some o → Q o) → Q o
    in_row true here rest = let same : v.row ≡ o = cc in subst Q same all.0
    in_row false here rest = rest here

    by_tests : (s : Bool) → find p (map (λ w. w.row) (cond s (v ∷ filter g vs) (filter g vs))) ≡ Some o → (find p (map (λ w. w.row) (filter g vs)) ≡ Some o → Q o) → Q o
    by_tests true here rest = in_row (p v.row) here rest
    by_tests false here rest = rest here

pub find_passes : (p : Row → Bool) (o : Row) (seen : List Row) → find p seen ≡ Some o → p o ≡ true
find_passes p o [] is = absurd (cc)
find_passes p o (row ∷ seen) is = by_test (p row) refl is (find_passes p o seen)
  where
    by_test : (t : Bool) → p row ≡ t → cond t (Some row) (find p seen) ≡ Some o → (find p seen ≡ Some o → p o ≡ true) → p o ≡ true
    by_test true passes here rest = let same : row ≡ o = cc in subst (λ r. p r ≡ true) same passes
    by_test false passes here rest = rest here

-- all versions of the found row's key are of its relation
all_like : (p : Row → Bool) (g : Version → Bool) (o : Row) (vs : List Version) → Pairwise SameRel vs → find p (map (λ w. w.row) (filter g vs)) ≡ Some o → AllByRecursion (λ v. key_of v.row ≡ key_of o → main_rel v.row ≡ main_rel o) vs
all_like p g o [] pairs is = tt
all_like p g o (v ∷ vs) pairs is = by_tests (g v) is (all_like p g o vs pairs.1)
  where
    Like : Version → Type 0
    Like w = key_of w.row ≡ key_of o → main_rel w.row ≡ main_rel o

    later : find p (map (λ w. w.row) (filter g vs)) ≡ Some o → (find p (map (λ w. w.row) (filter g vs)) ≡ Some o → AllByRecursion Like vs) → Like v × AllByRecursion Like vs
    later here rest = (find_holds (λ row. key_of v.row ≡ key_of row → main_rel v.row ≡ main_rel row) p g o vs pairs.0 here, rest here)

    in_row : (t : Bool) → cond t (Some v.row) (find p (map (λ w. w.row) (filter g vs))) ≡ Some o → (find p (map (λ w. w.row) (filter g vs)) ≡ Some o → AllByRecursion Like vs) → Like v × AllByRecursion Like vs
    in_row true here rest = let same : v.row ≡ o = cc in (λ key. ap main_rel same, every-weaker (SameRel v) Like (λ w alike key. sym (alike (ap key_of same ∙ sym key)) ∙ ap main_rel same) vs pairs.0)
    in_row false here rest = later here rest

    by_tests : (s : Bool) → find p (map (λ w. w.row) (cond s (v ∷ filter g vs) (filter g vs))) ≡ Some o → (find p (map (λ w. w.row) (filter g vs)) ≡ Some o → AllByRecursion Like vs) → Like v × AllByRecursion Like vs
    by_tests true here rest = in_row (p v.row) here rest
    by_tests false here rest = later here rest

keeps_by : (history : List Entry) (b : ℕ) (item : Item) → OneRel history → IfSome (ended_key item) (λ key. has_row history b key ≡ true) → AllByRecursion (IsOther item) (versions_of history) → keeps_relation history b item ≡ true → AllByRecursion (KeepsRel item) (versions_of history)
keeps_by history b (forms.Add row) rels there other keeps = every-weaker (IsOther (forms.Add row)) (KeepsRel (forms.Add row)) (λ v o key. absurd (o key)) (versions_of history) other
keeps_by history b (forms.Put row) rels there other keeps = of (row_with history b (key_of row)) refl there keeps
  where
    of : (o : Option Row) → row_with history b (key_of row) ≡ o → option_map_or (λ r. true) o false ≡ true → option_map_or (λ old. same_oid (main_rel old) (main_rel row)) o true ≡ true → AllByRecursion (KeepsRel (forms.Put row)) (versions_of history)
    of None is some same = absurd (cc)
    of (Some old) is some same =
        let one_key : key_of old ≡ key_of row = key_eq (key_of old) (key_of row) (find_passes (λ r. same_key (key_of r) (key_of row)) old (rows_of history b) is) in
        every-weaker (λ v. key_of v.row ≡ key_of old → main_rel v.row ≡ main_rel old) (KeepsRel (forms.Put row)) (λ v like key. like (key ∙ sym one_key) ∙ oid_eq (main_rel old) (main_rel row) same) (versions_of history)
        (all_like (λ r. same_key (key_of r) (key_of row)) (sees history b) old (versions_of history) rels is)
keeps_by history b (forms.Remove key) rels there other keeps = every (KeepsRel (forms.Remove key)) (λ v. tt) (versions_of history)
keeps_by history b (forms.Force rel) rels there other keeps = every (KeepsRel (forms.Force rel)) (λ v. tt) (versions_of history)

-- what a write needs of the keys of its rows
pub write_keyed : (history : List Entry) (b c : ℕ) (xid : Xid) (items : List Item) → are_distinct_keys (flat_map changed_key items) ≡ true → list_all (has_row history b) (filter_map ended_key items) ≡ true → IsOrderlyWrite history b items → OneRel history → Begun c (running_transaction_of history b) (lists_of history b)
    → KeysLawfully history b c (events.Write xid items)
write_keyed history b c xid items distinct there orderly rels k = (
  k.low,
  distinct,
  fresh,
  every-weaker (λ item. IfSome (ended_key item) (λ key. has_row history b key ≡ true) × (AllByRecursion (IsOther item) (versions_of history) × (keeps_relation history b item ≡ true))) (λ item. AllByRecursion (KeepsRel item) (versions_of history))
      (λ item h. keeps_by history b item rels h.0 h.1.0 h.1.1) items
      (every-both (λ item. IfSome (ended_key item) (λ key. has_row history b key ≡ true)) (λ item. AllByRecursion (IsOther item) (versions_of history) × (keeps_relation history b item ≡ true)) items (all_kept (has_row history b) ended_key items there)
      (every-both (λ item. AllByRecursion (IsOther item) (versions_of history)) (λ item. keeps_relation history b item ≡ true) items fresh (all_each (keeps_relation history b) items orderly.keeps))),
)
  where
    fresh : AllByRecursion (λ item. AllByRecursion (IsOther item) (versions_of history)) items
    fresh = every-weaker (λ item. is_fresh history item ≡ true) (λ item. AllByRecursion (IsOther item) (versions_of history)) (fresh_others history) items (all_each (is_fresh history) items orderly.fresh)

keys_lawful : (history : List Entry) (b c : ℕ) (event : Event) → AllowsEvent history b c event → IsOrderlyEvent history b event → OneRel history → Begun c (running_transaction_of history b) (lists_of history b) → KeysLawfully history b c event
keys_lawful history b c (events.Write xid items) allows orderly rels k = write_keyed history b c xid items allows.keys allows.there orderly rels k
keys_lawful history b c event allows orderly rels k = tt

locks_lawful : (history : List Entry) (b c : ℕ) (event : Event) → AllowsEvent history b c event → IsOrderlyEvent history b event → LocksLawfully history b event
locks_lawful history b c (events.LockOk rel mode) allows orderly = (allows.0, (allows.1, orderly))
locks_lawful history b c (events.Write xid items) allows orderly = allows.oids
locks_lawful history b c event allows orderly = tt

no_writes : (from : ℕ) (lists : List Written) → AllByRecursion (λ w. from ≤ w.command) lists → has_write_from from lists ≡ false → lists ≡ []
no_writes from [] high none = refl
no_writes from (w ∷ lists) high none = absurd (both_ways _ none (ap (λ t. t || has_write_from from lists) (le-leb from w.command high.0)))

released : (history : List Entry) (b from : ℕ) (v : Bool) → is_visible (running_transaction_of history b) ≡ v → MayRelease v history b from → Lives history → (r : Option Running) → running_transaction_of history b ≡ r → ends_at from r ≡ true
    → (lists_of history b ≡ []) ⊎ (is_visible (running_transaction_of history b) ≡ true)
released history b from true shown may lives r is ends' = inr shown
released history b from false hidden may lives None is ends' = absurd (cc)
released history b from false hidden may lives (Some t) is ends' =
    inl (no_writes from (lists_of history b) (every-weaker (λ w. t.first ≤ w.command) (λ w. from ≤ w.command) (λ w high. omega (arith, high, eqb-true t.first from ends')) (lists_of history b) ((lives.timely b).high t is)) may)

release_guards : (history : List Entry) (b from : ℕ) (v : Bool) → MayRelease v history b from → ends_at from (running_transaction_of history b) ≡ false → has_write_from from (lists_of history b) ≡ false
release_guards history b from true may not' = absurd (of (running_transaction_of history b) may.0 not')
  where
    of : (r : Option Running) → option_map (λ t. t.first) r ≡ Some from → ends_at from r ≡ false → ⊥
    of None is none = absurd (cc)
    of (Some t) is none = let same : t.first ≡ from = cc in both_ways _ none (eq-eqb t.first from same)
release_guards history b from false may not' = may

pub guards_lawful : (history : List Entry) (b c : ℕ) (event : Event) → AllowsEvent history b c event → IsOrderlyEvent history b event → Ordered history → AllByRecursion (λ g. g.backend ≡ b → g.command ≤ c) (held_of history) → GuardsLawfully history b c event
guards_lawful history b c (events.Write xid items) allows orderly k early = guarded_items history b c xid items k allows.guarded orderly early
guards_lawful history b c (events.Release from) allows orderly k early = release_guards history b from (is_visible (running_transaction_of history b)) allows.1
guards_lawful history b c (events.Unlock rel mode) allows orderly k early = (lock_command history b c rel mode k.locks allows.0, allows.1)
guards_lawful history b c event allows orderly k early = tt

hidden_by : (v : Bool) (event : Event) → FollowsVisible v event → (FollowsVisible true event → ⊥) → v ≡ false
hidden_by false event follows not' = refl
hidden_by true event follows not' = absurd (not' follows)

-- a write, by its Xid, its new oids and its locks
pub write_lawful : (history : List Entry) (b c : ℕ) (xid : Xid) (items : List Item) → is_visible (running_transaction_of history b) ≡ false → xid.0 ≡ xid_for history b → flat_map drawn_by items ≡ range_with_len (next_oid history) (length (flat_map drawn_by items))
    → list_all (is_guarded history b (flat_map made_by items)) items ≡ true → IsOrderlyWrite history b items → Ordered history → AllByRecursion (λ g. g.backend ≡ b → g.command ≤ c) (held_of history) → IsLawfulEvent history b c (events.Write xid items)
write_lawful history b c xid items hidden is oids guarded orderly k early = (
  hidden,
  is,
  every-weaker (IsGuardedItem history b (IsGuarded (held_by b c (events.Write xid items) (held_of history)) b c)) (EndsOnce history b)
      (λ item held. ends_once history b c xid items item (LocksWell-more history (entry_of b c (events.Write xid items)) oids k.locks) k.guards held) items (guarded_items history b c xid items k guarded orderly early),
)

lawful_event : (history : List Entry) (b c : ℕ) (event : Event) → FollowsLife (life_of history b) c event → FollowsVisible (is_visible (running_transaction_of history b)) event → AllowsEvent history b c event → IsOrderlyEvent history b event → Ordered history
    → AllByRecursion (λ g. g.backend ≡ b → g.command ≤ c) (held_of history) → IsLawfulEvent history b c event
lawful_event history b c events.Start life visible allows orderly k early = of (life_of history b) refl life
  where
    of : (l : Life) → life_of history b ≡ l → FollowsLife l c events.Start → (running_transaction_of history b ≡ None) × (lists_of history b ≡ [])
    of Unstarted is follows = let none = (k.lives.timely b).unstarted is in (none, (k.lives.timely b).none none)
    of (Alive last) is follows = absurd follows
    of Stopped is follows = absurd follows
lawful_event history b c (events.Write xid items) life visible allows orderly k early =
    write_lawful history b c xid items (hidden_by (is_visible (running_transaction_of history b)) (events.Write xid items) visible (λ f. f)) allows.xid_is allows.oids allows.guarded orderly k early
lawful_event history b c (events.Visible xid) life visible allows orderly k early = (hidden_by (is_visible (running_transaction_of history b)) (events.Visible xid) visible (λ f. f), allows.0)
lawful_event history b c (events.Gone from) life visible allows orderly k early = hidden_by (is_visible (running_transaction_of history b)) (events.Gone from) visible (λ f. f)
lawful_event history b c (events.Release from) life visible allows orderly k early = λ ends'. released history b from (is_visible (running_transaction_of history b)) refl allows.1 k.lives (running_transaction_of history b) refl ends'
lawful_event history b c event life visible allows orderly k early = tt

rises_at : (history : List Entry) (e : Entry) → FollowsLife (life_of history e.backend) e.command e.event → Lives history → command_of history e.backend ≤ e.command
rises_at history e follows lives = rises (life_of history e.backend) e.command (command_of history e.backend) e.event (running_transaction_of history e.backend) (lists_of history e.backend) follows (lives.timely e.backend)

Early-more : (history : List Entry) (e : Entry) → FollowsLife (life_of history e.backend) e.command e.event → Lives history → Early history → Early (history ++ e ∷ [])
Early-more history e follows lives early = subst (AllByRecursion On) (sym (held-more history e)) (of e.event)
  where
    On : Grant → Type 0
    On g = g.command ≤ command_of (history ++ e ∷ []) g.backend

    kept : (g : Grant) → g.command ≤ command_of history g.backend → On g
    kept g low = by_owner (e.backend == g.backend) refl
      where
        by_owner : (t : Bool) → (e.backend == g.backend) ≡ t → On g
        by_owner true own =
            let now : command_of (history ++ e ∷ []) g.backend ≡ e.command = command-own history e g.backend own in
            let before : command_of history e.backend ≡ command_of history g.backend = ap (command_of history) (eqb-true e.backend g.backend own) in
            omega (arith, low, now, before, rises_at history e follows lives)
        by_owner false other = omega (arith, low, command-other history e g.backend other)

    new : (g : Grant) → (g.backend ≡ e.backend) × (g.command ≡ e.command) → On g
    new g is = omega (arith, is.1, command-own history e g.backend (eq-eqb e.backend g.backend (sym is.0)))

    old : AllByRecursion On (held_of history)
    old = every-weaker (λ g. g.command ≤ command_of history g.backend) On kept (held_of history) early

    of : (event : Event) → AllByRecursion On (held_by e.backend e.command event (held_of history))
    of (events.LockOk rel mode) = every-append On (held_of history) (record { backend = e.backend; command = e.command; rel = rel; mode = mode } ∷ []) old (new (record { backend = e.backend; command = e.command; rel = rel; mode = mode }) (refl, refl), tt)
    of (events.Write xid items) = every-append On (held_of history) (flat_map (granted_by e.backend e.command) items) old (every-weaker (λ g. (g.backend ≡ e.backend) × (g.command ≡ e.command)) On new (flat_map (granted_by e.backend e.command) items) (granted_here e.backend e.command items))
    of (events.Unlock rel mode) = every-kept On (λ g. not (is_lock e.backend rel mode g)) (held_of history) old
    of (events.Release from) = every-kept On (stays e.backend from) (held_of history) old
    of event = old

pub early_at : (history : List Entry) (e : Entry) → Ordered history → FollowsLife (life_of history e.backend) e.command e.event → AllByRecursion (λ g. g.backend ≡ e.backend → g.command ≤ e.command) (held_of history)
early_at history e k follows = every-weaker (λ g. g.command ≤ command_of history g.backend) (λ g. g.backend ≡ e.backend → g.command ≤ e.command)
    (λ g low is. let same : command_of history g.backend ≡ command_of history e.backend = ap (command_of history) is in omega (arith, low, same, rises_at history e follows k.lives)) (held_of history) k.early

-- an entry that may come is lawful
pub lawful_of : (history : List Entry) (e : Entry) → Ordered history → MayComeNext history e → IsLawful history e
lawful_of history e k comes = lawful_event history e.backend e.command e.event comes.follows.life comes.follows.visible comes.follows.event comes.orderly k (early_at history e k comes.follows.life)

-- and so are the messages of a write
pub covers_of : (history : List Entry) (e : Entry) → Ordered history → MayComeNext history e → CoversLawfully history e.backend e.event
covers_of history e k comes = covers_lawful history e.backend e.event comes.orderly k.one

-- after one more entry that may come
pub Ordered-more : (history : List Entry) (e : Entry) → Ordered history → MayComeNext history e → Ordered (history ++ e ∷ [])
Ordered-more history e k comes =
    let early = early_at history e k comes.follows.life in
    let lawful = lawful_of history e k comes in
    let guarding = guards_lawful history e.backend e.command e.event comes.follows.event comes.orderly k early in
    let keyed = keys_lawful history e.backend e.command e.event comes.follows.event comes.orderly k.rels (begun_at history e comes.follows.life k.lives) in
    record {
      runs = Runs-more history e k.runs lawful;
      lives = Lives-more history e comes.follows.life k.lives;
      early = Early-more history e comes.follows.life k.lives k.early;
      locks = LocksWell-more history e (locks_lawful history e.backend e.command e.event comes.follows.event comes.orderly) k.locks;
      touched = Touched-more history e k.runs k.touched lawful (covers_of history e k comes);
      guards = Guards-more history e lawful guarding k.runs k.touched k.guards;
      rels = OneRel-more history e keyed k.rels;
      one = OneVersion-more history e lawful keyed k.runs k.locks k.touched k.guards k.rels k.one;
    }

pub Ordered-start : Ordered []
Ordered-start = record { runs = Runs-start; lives = Lives-start; early = tt; locks = record { agree = tt; once = tt; drawn = tt }; touched = tt; guards = tt; rels = tt; one = tt }

-- all of it holds of each sound history
pub sound_ordered : (history : List Entry) → IsSound history → Ordered history
sound_ordered history sound = each-keeps MayComeNext Ordered Ordered-start Ordered-more history sound

-- of two grants on one relation to two backends the modes don't conflict, and each is of a drawn relation
pub locks_exclude : (history : List Entry) → IsSound history → LocksWell history
locks_exclude history sound = (sound_ordered history sound).locks

-- what a running transaction has added or ended it guards, by a grant of that command or before
pub touched_guarded : (history : List Entry) → IsSound history → Guards history
touched_guarded history sound = (sound_ordered history sound).guards

-- of two versions with one key no backend sees both
pub one_version : (history : List Entry) → IsSound history → OneVersion history
one_version history sound = (sound_ordered history sound).one
