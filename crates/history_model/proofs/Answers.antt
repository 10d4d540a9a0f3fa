-- What an entry leaves of the answers of scans: what becomes visible changes only those that its messages cover.
use Rattle.std.proofs.Common.{◌≡◌, ◌+◌, ◌∙◌, ◌⊎◌, inl, inr, ℕ, Bool, true, false, not, Option, Some, None, List, [], ◌∷◌, ◌++◌, ◌==◌, ◌||◌, ◌&&◌, cond, refl, sym, ap, subst, map, filter, fold, arith, append-nil}
use Rattle.std.specs.Prelude.{nat_le, ⊤}
use Rattle.std.specs.List.{AllByRecursion, list_any}
use Rattle.std.specs.Option.{option_map_or, IfSome}
use Rattle.std.proofs.Math.Bool.{or-false}
use Rattle.std.proofs.lemmas.List.{map-append}
use Rattle.std.proofs.lemmas.List.Elements.{filter-append}
use Rattle.std.proofs.lemmas.Bool.{eqb-true, eq-eqb, both_ways, and_parts, false_from_ne_true}
use Rattle.base_types.specs.declared.ids.Xid.{Xid}
use Rattle.base_types.specs.declared.row.Row.{Row}
use Rattle.base_types.specs.declared.scan.Purpose.{Purpose}
use Rattle.base_types.specs.Scans.{selects, put_in_order}
use Rattle.event_kinds.specs.declared.entry.Entry.{Entry}
use Rattle.event_kinds.specs.declared.entry.Event.{Event}
use Rattle.event_kinds.specs.declared.entry.Event.TheVariants as events
use Rattle.event_kinds.specs.declared.entry.Item.{Item}
use Rattle.row_visibility.specs.declared.version.Version.{Version}
use Rattle.row_visibility.specs.declared.version.Stamp.{Stamp}
use Rattle.inval_messages.specs.declared.message.Message.{Message}
use Rattle.inval_messages.specs.Messages.{covers}
use Rattle.inval_messages.specs.Lists.{Written, lists_from, sent_in}
use Rattle.history_model.specs.Transactions.{running_transaction_of, has_xid, is_visible, runs_as, is_committed, makes_visible, last_xid}
use Rattle.history_model.specs.Versions.{versions_of, change_by, end_by, ends, version_of, added_row, is_back, end_back, counts, sees, answer_of}
use Rattle.history_model.specs.Sent.{messages_written, lists_of, sent_of}
use Rattle.history_model.specs.Covered.{is_covered}
use Rattle.history_model.specs.Sound.{MayComeNext, IsSound}
use Rattle.history_model.proofs.Reading.{versions_of-more as versions-more, running_transaction_of-own as running-own, running_transaction_of-other as running-other, is_committed-more as committed-more}
use Rattle.history_model.proofs.Every.{every-weaker, every, every-append, every-map, every-filter, every-swap, any-filter, any-flat, any-split}
use Rattle.history_model.proofs.Asking.{asked, asked_first, asked-more, first_same, asked-same}
use Rattle.history_model.proofs.Lawful.{EndsOnce, CoversRow, CoversItem, CoversLawfully, IsLawful, asks_own, IsPlain}
use Rattle.history_model.proofs.Runs.{Runs, xid-begun, xid-of_write}
use Rattle.history_model.proofs.Touched.{entry_of, OfStamps, stamps-weaker, is_of, of_write, covers_at, Touch, Touched}
use Rattle.history_model.proofs.Seen.{seen-same, runs-after}
use Rattle.history_model.proofs.Ordered.{lawful_of, covers_of, sound_ordered}

asked-append : (d : Purpose) (g : Version → Bool) (vs ws : List Version) → asked d g (vs ++ ws) ≡ asked d g vs ++ asked d g ws
asked-append d g vs ws = simp (filter-append, map-append)

asked-none : (d : Purpose) (g : Version → Bool) (vs : List Version) → AllByRecursion (λ v. selects d v.row ≡ true → g v ≡ false) vs → asked d g vs ≡ []
asked-none d g [] none = refl
asked-none d g (v ∷ vs) none = asked-more d g v vs ∙ by_tests (g v) (selects d v.row) none.0 ∙ asked-none d g vs none.1
  where
    by_tests : (s w : Bool) → (w ≡ true → s ≡ false) → asked_first s w v.row (asked d g vs) ≡ asked d g vs
    by_tests true true of = absurd (let e : true ≡ false = of refl in cc)
    by_tests true false of = refl
    by_tests false w of = refl

-- a version in the place of another: it has the same row, and is seen just where that is, if the scan asks for the row
record Alike (d : Purpose) (f g : Version → Bool) (w v : Version) : Type 0 where
  row : w.row ≡ v.row
  seen_as : selects d v.row ≡ true → f w ≡ g v

asked-map : (d : Purpose) (f g : Version → Bool) (change : Version → Version) (vs : List Version) → AllByRecursion (λ v. Alike d f g (change v) v) vs → asked d f (map change vs) ≡ asked d g vs
asked-map d f g change [] alike = refl
asked-map d f g change (v ∷ vs) alike =
    asked-more d f (change v) (map change vs) ∙ ap (λ row. asked_first (f (change v)) (selects d row) row (asked d f (map change vs))) alike.0.row
    ∙ first_same (f (change v)) (g v) (selects d v.row) v.row (asked d f (map change vs)) (asked d g vs) alike.0.seen_as (asked-map d f g change vs alike.1) ∙ sym (asked-more d g v vs)

asked-filter : (d : Purpose) (g keep : Version → Bool) (vs : List Version) → AllByRecursion (λ v. keep v ≡ false → selects d v.row ≡ true → g v ≡ false) vs → asked d g (filter keep vs) ≡ asked d g vs
asked-filter d g keep [] out = refl
asked-filter d g keep (v ∷ vs) out = by_test (keep v) refl (asked-filter d g keep vs out.1)
  where
    skips : (s w : Bool) → (w ≡ true → s ≡ false) → asked d g vs ≡ asked_first s w v.row (asked d g vs)
    skips true true of = absurd (let e : true ≡ false = of refl in cc)
    skips true false of = refl
    skips false w of = refl

    by_test : (t : Bool) → keep v ≡ t → asked d g (filter keep vs) ≡ asked d g vs → asked d g (cond t (v ∷ filter keep vs) (filter keep vs)) ≡ asked d g (v ∷ vs)
    by_test true is rest = asked-more d g v (filter keep vs) ∙ ap (asked_first (g v) (selects d v.row) v.row) rest ∙ sym (asked-more d g v vs)
    by_test false is rest = rest ∙ skips (g v) (selects d v.row) (out.0 is) ∙ sym (asked-more d g v vs)

-- the changes of a write, each of which leaves what is asked
record LeavesAsked (d : Purpose) (g : Version → Bool) (before : List Entry) (b : ℕ) (stamp : Stamp) (Q : List Item → Version → Type 0) (R : Item → Type 0) : Type 0 where
  ended : (item : Item) (items : List Item) (v : Version) → Q (item ∷ items) v → Q items (end_by (ends before b item) stamp v) × Alike d g g (end_by (ends before b item) stamp v) v
  added : (item : Item) (items : List Item) → R item → AllByRecursion (λ v. Q items v × (selects d v.row ≡ true → g v ≡ false)) (version_of stamp (added_row item))

asked-write : (d : Purpose) (g : Version → Bool) (before : List Entry) (b : ℕ) (stamp : Stamp) (Q : List Item → Version → Type 0) (R : Item → Type 0) → LeavesAsked d g before b stamp Q R
    → (items : List Item) (vs : List Version) → AllByRecursion R items → AllByRecursion (Q items) vs → asked d g (fold (change_by before b stamp) vs items) ≡ asked d g vs
asked-write d g before b stamp Q R leaves [] vs lawful held = refl
asked-write d g before b stamp Q R leaves (item ∷ items) vs lawful held =
    asked-write d g before b stamp Q R leaves items (change_by before b stamp vs item) lawful.1
    (every-append (Q items) (map change vs) (version_of stamp (added_row item)) (every-map (Q items) change vs (every-weaker (Q (item ∷ items)) (λ v. Q items (change v)) (λ v q. (leaves.ended item items v q).0) vs held))
    (every-weaker (λ v. Q items v × (selects d v.row ≡ true → g v ≡ false)) (Q items) (λ v q. q.0) (version_of stamp (added_row item)) (leaves.added item items lawful.0)))
    ∙ asked-append d g (map change vs) (version_of stamp (added_row item))
    ∙ ap (λ rest. asked d g (map change vs) ++ rest) (asked-none d g (version_of stamp (added_row item)) (every-weaker (λ v. Q items v × (selects d v.row ≡ true → g v ≡ false)) (λ v. selects d v.row ≡ true → g v ≡ false) (λ v q. q.1) (version_of stamp (added_row item)) (leaves.added item items lawful.0)))
    ∙ append-nil (asked d g (map change vs))
    ∙ asked-map d g g change vs (every-weaker (Q (item ∷ items)) (λ v. Alike d g g (change v) v) (λ v q. (leaves.ended item items v q).1) vs held)
  where
    change : Version → Version
    change = end_by (ends before b item) stamp

-- a version is seen as before where its stamps count as before
sees-same : (history after : List Entry) (b : ℕ) (v : Version) → OfStamps (λ s row. counts after b s ≡ counts history b s) v → sees after b v ≡ sees history b v
sees-same history after b v same = seen-same (counts after b) (counts history b) v same

-- the stamps of the versions that a scan asks for count as before
abbrev pub SameWhereAsked : List Entry → List Entry → ℕ → Purpose → Type 0
SameWhereAsked history after b d = AllByRecursion (OfStamps (λ s row. selects d row ≡ true → counts after b s ≡ counts history b s)) (versions_of history)

seen_alike : (history after : List Entry) (b : ℕ) (d : Purpose) → SameWhereAsked history after b d → AllByRecursion (λ v. selects d v.row ≡ true → sees after b v ≡ sees history b v) (versions_of history)
seen_alike history after b d same = every-weaker (OfStamps (λ s row. selects d row ≡ true → counts after b s ≡ counts history b s)) (λ v. selects d v.row ≡ true → sees after b v ≡ sees history b v) (λ v held is. sees-same history after b v (at_row v is held)) (versions_of history) same
  where
    of_ended : (row : Row) (o : Option Stamp) → selects d row ≡ true → IfSome o (λ s. selects d row ≡ true → counts after b s ≡ counts history b s) → IfSome o (λ s. counts after b s ≡ counts history b s)
    of_ended row None is held = tt
    of_ended row (Some s) is held = held is

    at_row : (v : Version) → selects d v.row ≡ true → OfStamps (λ s row. selects d row ≡ true → counts after b s ≡ counts history b s) v → OfStamps (λ s row. counts after b s ≡ counts history b s) v
    at_row v is held = (held.0 is, of_ended v.row v.ended is held.1)

-- where the versions stay
pub answer-kept : (history after : List Entry) (b : ℕ) (d : Purpose) → versions_of after ≡ versions_of history → SameWhereAsked history after b d → answer_of after b d ≡ answer_of history b d
answer-kept history after b d stay same = ap (λ vs. fold (put_in_order d) [] (asked d (sees after b) vs)) stay ∙ ap (fold (put_in_order d) []) (asked-same d (sees after b) (sees history b) (versions_of history) (seen_alike history after b d same))

-- another's entry leaves what counts, but where it makes it visible
pub counts-other : (history : List Entry) (a c : ℕ) (event : Event) (b : ℕ) (s : Stamp) → (a == b) ≡ false → makes_visible s.xid.0 event ≡ false → counts (history ++ entry_of a c event ∷ []) b s ≡ counts history b s
counts-other history a c event b s other hidden =
    ap (λ t. t || runs_as (history ++ entry_of a c event ∷ []) b s.xid.0) (committed-more history (entry_of a c event) s.xid.0 ∙ ap (λ t. is_committed history s.xid.0 || t) hidden ∙ or-false (is_committed history s.xid.0))
    ∙ ap (λ r. is_committed history s.xid.0 || has_xid s.xid.0 r) (running-other history (entry_of a c event) b other)

-- and so does any entry that makes nothing visible, of a stamp that is there
counts-own : (history : List Entry) (a c : ℕ) (event : Event) (b : ℕ) (s : Stamp) (row : Row) → IsLawful history (entry_of a c event) → Runs history → makes_visible s.xid.0 event ≡ false → Touch history s row
    → counts (history ++ entry_of a c event ∷ []) b s ≡ counts history b s
counts-own history a c event b s row lawful r hidden touch =
    ap (λ t. t || runs_as (history ++ entry_of a c event ∷ []) b s.xid.0) (committed-more history (entry_of a c event) s.xid.0 ∙ ap (λ t. is_committed history s.xid.0 || t) hidden ∙ or-false (is_committed history s.xid.0))
    ∙ of (runs-after history a c event b s row lawful r touch)
  where
    of : (is_committed history s.xid.0 ≡ true) ⊎ (runs_as (history ++ entry_of a c event ∷ []) b s.xid.0 ≡ runs_as history b s.xid.0)
        → (is_committed history s.xid.0 || runs_as (history ++ entry_of a c event ∷ []) b s.xid.0) ≡ counts history b s
    of (inl was) = ap (λ t. t || runs_as (history ++ entry_of a c event ∷ []) b s.xid.0) was ∙ sym (ap (λ t. t || runs_as history b s.xid.0) was)
    of (inr same) = ap (λ t. is_committed history s.xid.0 || t) same

-- what a write of the command covers is covered by all that is sent
pub sent-covered : (d : Purpose) (c : ℕ) (lists : List Written) → list_any (covers_at c d) lists ≡ true → is_covered (sent_in lists) d ≡ true
sent-covered d c lists has = any-split (covers d) (λ w. w.cats) (λ w. w.rels) lists (any-flat (covers d) of_write (covers_at c d) (λ w here. (and_parts (is_of c w) (is_covered (of_write w) d) here).1) lists has)

-- a stamp of a running transaction, on a row that a scan asks for, is covered
stamp-covered : (history : List Entry) (a : ℕ) (d : Purpose) (s : Stamp) (row : Row) → Touch history s row → runs_as history a s.xid.0 ≡ true → asks_own d row ≡ true → is_covered (sent_of history a) d ≡ true
stamp-covered history a d s row touch runs is = sent-covered d s.command (lists_of history a) (touch.covered a runs d is)

-- what becomes visible leaves the answers that none of its messages covers
visible-other : (history : List Entry) (a c : ℕ) (xid : Xid) (b : ℕ) (d : Purpose) → IsPlain d → (a == b) ≡ false → IsLawful history (entry_of a c (events.Visible xid)) → Touched history
    → is_covered (sent_of history a) d ≡ false → answer_of (history ++ entry_of a c (events.Visible xid) ∷ []) b d ≡ answer_of history b d
visible-other history a c xid b d plain other lawful touched none =
    answer-kept history (history ++ entry_of a c (events.Visible xid) ∷ []) b d (versions-more history (entry_of a c (events.Visible xid)))
    (every-weaker (OfStamps (Touch history)) (OfStamps (λ s row. selects d row ≡ true → counts (history ++ entry_of a c (events.Visible xid) ∷ []) b s ≡ counts history b s))
    (stamps-weaker (Touch history) (λ s row. selects d row ≡ true → counts (history ++ entry_of a c (events.Visible xid) ∷ []) b s ≡ counts history b s) same) (versions_of history) touched)
  where
    same : (s : Stamp) (row : Row) → Touch history s row → selects d row ≡ true → counts (history ++ entry_of a c (events.Visible xid) ∷ []) b s ≡ counts history b s
    same s row touch is = by_xid (xid.0 == s.xid.0) refl
      where
        by_xid : (t : Bool) → (xid.0 == s.xid.0) ≡ t → counts (history ++ entry_of a c (events.Visible xid) ∷ []) b s ≡ counts history b s
        by_xid true one = absurd (both_ways _ none (stamp-covered history a d s row touch (subst (λ x. runs_as history a x ≡ true) (eqb-true xid.0 s.xid.0 one) lawful.1) (plain row is)))
        by_xid false differs = counts-other history a c (events.Visible xid) b s other differs

-- what another writes and hasn't made visible doesn't count
foreign : (history : List Entry) (a b : ℕ) (s : Stamp) → (a == b) ≡ false → Runs history → is_visible (running_transaction_of history a) ≡ false → (runs_as history a s.xid.0 ≡ true) ⊎ (s.xid.0 ≡ last_xid history + 1)
    → counts history b s ≡ false
foreign history a b s other r unseen (inl runs) = ap (λ t. t || runs_as history b s.xid.0) (r.hidden a s.xid.0 runs unseen) ∙ false_from_ne_true (runs_as history b s.xid.0) (λ also. both_ways _ other (eq-eqb a b (r.one a b s.xid.0 runs also)))
foreign history a b s other r unseen (inr new) =
    ap (λ t. t || runs_as history b s.xid.0) (false_from_ne_true (is_committed history s.xid.0) (λ was. omega (arith, r.committed s.xid.0 was, new))) ∙ false_from_ne_true (runs_as history b s.xid.0) (λ also. omega (arith, r.bound b s.xid.0 also, new))

-- a write of another leaves all answers
write-other : (history : List Entry) (a c : ℕ) (xid : Xid) (changes : List Item) (b : ℕ) (d : Purpose) → (a == b) ≡ false → IsLawful history (entry_of a c (events.Write xid changes)) → Runs history
    → answer_of (history ++ entry_of a c (events.Write xid changes) ∷ []) b d ≡ answer_of history b d
write-other history a c xid changes b d other lawful r =
    ap (λ vs. fold (put_in_order d) [] (asked d (sees after b) vs)) (versions-more history (entry_of a c (events.Write xid changes)))
    ∙ ap (fold (put_in_order d) []) (asked-same d (sees after b) (sees history b) written (every (λ v. selects d v.row ≡ true → sees after b v ≡ sees history b v) (λ v is. sees-same history after b v (same v)) written)
    ∙ asked-write d (sees history b) history a stamp Q (EndsOnce history a) leaves changes (versions_of history) lawful.2
    (every-swap (λ item v. ends history a item v ≡ true → IfSome v.ended (λ s. counts history b s ≡ false)) changes (versions_of history)
    (every-weaker (EndsOnce history a) (λ item. AllByRecursion (λ v. ends history a item v ≡ true → IfSome v.ended (λ s. counts history b s ≡ false)) (versions_of history)) uncounted changes lawful.2)))
  where
    after : List Entry
    after = history ++ entry_of a c (events.Write xid changes) ∷ []

    stamp : Stamp
    stamp = record { xid = xid; command = c }

    written : List Version
    written = fold (change_by history a stamp) (versions_of history) changes

    unstamped : counts history b stamp ≡ false
    unstamped = foreign history a b stamp other r lawful.0 (xid-of_write history a xid.0 lawful.1)

    Q : List Item → Version → Type 0
    Q items v = AllByRecursion (λ item. ends history a item v ≡ true → IfSome v.ended (λ s. counts history b s ≡ false)) items

    same : (v : Version) → OfStamps (λ s row. counts after b s ≡ counts history b s) v
    same v = (counts-other history a c (events.Write xid changes) b v.by other refl, of_ended v.ended)
      where
        of_ended : (o : Option Stamp) → IfSome o (λ s. counts after b s ≡ counts history b s)
        of_ended None = tt
        of_ended (Some s) = counts-other history a c (events.Write xid changes) b s other refl

    -- a version that a change ends has no end that counts
    no_end : (v : Version) (o : Option Stamp) → (counts history a v.by && not (option_map_or (counts history a) o false)) ≡ true → IfSome o (λ s. (someone : ℕ) → runs_as history someone s.xid.0 ≡ false) → IfSome o (λ s. counts history b s ≡ false)
    no_end v None seen none = tt
    no_end v (Some s) seen none = ap (λ t. is_committed history s.xid.0 || t) (none b) ∙ or-false (is_committed history s.xid.0) ∙ uncommitted (is_committed history s.xid.0) refl
      where
        uncommitted : (t : Bool) → is_committed history s.xid.0 ≡ t → t ≡ false
        uncommitted false was = refl
        uncommitted true was = absurd (both_ways _ (ap (λ t. not (t || runs_as history a s.xid.0)) was) (and_parts (counts history a v.by) (not (counts history a s)) seen).1)

    uncounted : (item : Item) → EndsOnce history a item → AllByRecursion (λ v. ends history a item v ≡ true → IfSome v.ended (λ s. counts history b s ≡ false)) (versions_of history)
    uncounted item l = every-weaker (λ v. ends history a item v ≡ true → IfSome v.ended (λ s. (someone : ℕ) → runs_as history someone s.xid.0 ≡ false)) (λ v. ends history a item v ≡ true → IfSome v.ended (λ s. counts history b s ≡ false))
        (λ v none is. no_end v v.ended (and_parts _ (sees history a v) is).1 (none is)) (versions_of history) l

    end_one : (item : Item) (items : List Item) (v : Version) → Q (item ∷ items) v → Q items (end_by (ends history a item) stamp v) × Alike d (sees history b) (sees history b) (end_by (ends history a item) stamp v) v
    end_one item items v q = by_test (ends history a item v) refl
      where
        seen_as : (o : Option Stamp) → IfSome o (λ s. counts history b s ≡ false) → (counts history b v.by && not (counts history b stamp)) ≡ (counts history b v.by && not (option_map_or (counts history b) o false))
        seen_as None none = ap (λ t. counts history b v.by && not t) unstamped
        seen_as (Some s) none = ap (λ t. counts history b v.by && not t) (unstamped ∙ sym none)

        by_test : (t : Bool) → ends history a item v ≡ t → Q items (elim t [ true ↦ record { row = v.row; by = v.by; ended = Some stamp } | false ↦ v ])
            × Alike d (sees history b) (sees history b) (elim t [ true ↦ record { row = v.row; by = v.by; ended = Some stamp } | false ↦ v ]) v
        by_test true is = (every (λ item'. ends history a item' (record { row = v.row; by = v.by; ended = Some stamp }) ≡ true → counts history b stamp ≡ false) (λ item' ends'. unstamped) items, record { row = refl; seen_as = λ asks. seen_as v.ended (q.0 is) })
        by_test false is = (q.1, record { row = refl; seen_as = λ asks. refl })

    add_one : (items : List Item) (o : Option Row) → AllByRecursion (λ v. Q items v × (selects d v.row ≡ true → sees history b v ≡ false)) (version_of stamp o)
    add_one items None = tt
    add_one items (Some row) = ((every (λ item'. ends history a item' (record { row = row; by = stamp; ended = None }) ≡ true → ⊤) (λ item' ends'. tt) items, λ asks. ap (λ t. t && not false) unstamped), tt)

    leaves : LeavesAsked d (sees history b) history a stamp Q (EndsOnce history a)
    leaves = record { ended = end_one; added = λ item items l. add_one items (added_row item) }

-- an own write leaves the answers that its messages don't cover
write-own : (history : List Entry) (b c : ℕ) (xid : Xid) (changes : List Item) (d : Purpose) → IsPlain d → IsLawful history (entry_of b c (events.Write xid changes)) → CoversLawfully history b (events.Write xid changes) → Runs history → Touched history
    → is_covered (messages_written history b changes) d ≡ false → answer_of (history ++ entry_of b c (events.Write xid changes) ∷ []) b d ≡ answer_of history b d
write-own history b c xid changes d plain lawful covering r touched none =
    ap (λ vs. fold (put_in_order d) [] (asked d (sees after b) vs)) (versions-more history (entry_of b c (events.Write xid changes)))
    ∙ ap (fold (put_in_order d) []) (asked-write d (sees after b) history b stamp Q (CoversItem history b messages) leaves changes (versions_of history) covering
    (every-swap (λ item v. ends history b item v ≡ true → CoversRow messages v.row) changes (versions_of history) (every-weaker (CoversItem history b messages) (λ item. AllByRecursion (λ v. ends history b item v ≡ true → CoversRow messages v.row) (versions_of history)) (λ item l. l.1) changes covering))
    ∙ asked-same d (sees after b) (sees history b) (versions_of history) (seen_alike history after b d (every-weaker (OfStamps (Touch history)) (OfStamps (λ s row. selects d row ≡ true → counts after b s ≡ counts history b s))
    (stamps-weaker (Touch history) (λ s row. selects d row ≡ true → counts after b s ≡ counts history b s) (λ s row touch is. counts-own history b c (events.Write xid changes) b s row lawful r refl touch)) (versions_of history) touched)))
  where
    after : List Entry
    after = history ++ entry_of b c (events.Write xid changes) ∷ []

    messages : List Message
    messages = messages_written history b changes

    stamp : Stamp
    stamp = record { xid = xid; command = c }

    Q : List Item → Version → Type 0
    Q items v = AllByRecursion (λ item. ends history b item v ≡ true → CoversRow messages v.row) items

    unasked : (row : Row) → CoversRow messages row → selects d row ≡ true → ⊥
    unasked row covers_row is = both_ways _ none (covers_row d (plain row is))

    end_one : (item : Item) (items : List Item) (v : Version) → Q (item ∷ items) v → Q items (end_by (ends history b item) stamp v) × Alike d (sees after b) (sees after b) (end_by (ends history b item) stamp v) v
    end_one item items v q = by_test (ends history b item v) refl
      where
        by_test : (t : Bool) → ends history b item v ≡ t → Q items (elim t [ true ↦ record { row = v.row; by = v.by; ended = Some stamp } | false ↦ v ])
            × Alike d (sees after b) (sees after b) (elim t [ true ↦ record { row = v.row; by = v.by; ended = Some stamp } | false ↦ v ]) v
        by_test true is = (every (λ item'. ends history b item' (record { row = v.row; by = v.by; ended = Some stamp }) ≡ true → CoversRow messages v.row) (λ item' ends'. q.0 is) items, record { row = refl; seen_as = λ asks. absurd (unasked v.row (q.0 is) asks) })
        by_test false is = (q.1, record { row = refl; seen_as = λ asks. refl })

    add_one : (items : List Item) (o : Option Row) → IfSome o (λ row. CoversRow messages row) → AllByRecursion (λ v. Q items v × (selects d v.row ≡ true → sees after b v ≡ false)) (version_of stamp o)
    add_one items None covered = tt
    add_one items (Some row) covered = ((every (λ item'. ends history b item' (record { row = row; by = stamp; ended = None }) ≡ true → CoversRow messages row) (λ item' ends'. covered) items, λ asks. absurd (unasked row covered asks)), tt)

    leaves : LeavesAsked d (sees after b) history b stamp Q (CoversItem history b messages)
    leaves = record { ended = end_one; added = λ item items l. add_one items (added_row item) l.0 }

-- what is taken back leaves what is asked, where no stamp that goes is on a row that the scan asks for
asked-gone : (d : Purpose) (g : Version → Bool) (back : Stamp → Bool) (vs : List Version)
    → AllByRecursion (OfStamps (λ s row. back s ≡ true → selects d row ≡ true → ⊥)) vs → asked d g (map (end_back back) (filter (λ v. not (back v.by)) vs)) ≡ asked d g vs
asked-gone d g back vs untouched =
    asked-map d g g (end_back back) (filter keep vs) (every-filter (λ v. Alike d g g (end_back back v) v) keep vs (every-weaker Untouched (λ v. keep v ≡ true → Alike d g g (end_back back v) v) (λ v u is. record { row = refl; seen_as = λ asks. ap (λ o. g (record { row = v.row; by = v.by; ended = o })) (kept v.row v.ended u.1 asks) }) vs untouched))
    ∙ asked-filter d g keep vs (every-weaker Untouched (λ v. keep v ≡ false → selects d v.row ≡ true → g v ≡ false) (λ v u is asks. absurd (u.0 (taken (back v.by) is) asks)) vs untouched)
  where
    Untouched : Version → Type 0
    Untouched = OfStamps (λ s row. back s ≡ true → selects d row ≡ true → ⊥)

    keep : Version → Bool
    keep v = not (back v.by)

    taken : (t : Bool) → not t ≡ false → t ≡ true
    taken true is = refl
    taken false is = absurd (cc)

    by_test : (row : Row) (s : Stamp) (t : Bool) → back s ≡ t → (back s ≡ true → selects d row ≡ true → ⊥) → selects d row ≡ true → elim t [ true ↦ None | false ↦ Some s ] ≡ Some s
    by_test row s true is none asks = absurd (none is asks)
    by_test row s false is none asks = refl

    kept : (row : Row) (o : Option Stamp) → IfSome o (λ s. back s ≡ true → selects d row ≡ true → ⊥) → selects d row ≡ true → elim (option_map_or back o false) [ true ↦ None | false ↦ o ] ≡ o
    kept row None none asks = refl
    kept row (Some s) none asks = by_test row s (back s) refl none asks

-- what another takes back wasn't seen
asked-unseen : (d : Purpose) (history : List Entry) (b : ℕ) (back : Stamp → Bool) → ((s : Stamp) → back s ≡ true → counts history b s ≡ false) → (vs : List Version)
    → asked d (sees history b) (map (end_back back) (filter (λ v. not (back v.by)) vs)) ≡ asked d (sees history b) vs
asked-unseen d history b back hidden vs =
    asked-map d (sees history b) (sees history b) (end_back back) (filter keep vs) (every (λ v. Alike d (sees history b) (sees history b) (end_back back v) v) (λ v. record { row = refl; seen_as = λ asks. ap (λ t. counts history b v.by && not t) (unended v.ended) }) (filter keep vs))
    ∙ asked-filter d (sees history b) keep vs (every (λ v. keep v ≡ false → selects d v.row ≡ true → sees history b v ≡ false) (λ v is asks. ap (λ t. t && not (option_map_or (counts history b) v.ended false)) (hidden v.by (taken (back v.by) is))) vs)
  where
    keep : Version → Bool
    keep v = not (back v.by)

    taken : (t : Bool) → not t ≡ false → t ≡ true
    taken true is = refl
    taken false is = absurd (cc)

    by_test : (s : Stamp) (t : Bool) → back s ≡ t → option_map_or (counts history b) (elim t [ true ↦ None | false ↦ Some s ]) false ≡ counts history b s
    by_test s true is = sym (hidden s is)
    by_test s false is = refl

    unended : (o : Option Stamp) → option_map_or (counts history b) (elim (option_map_or back o false) [ true ↦ None | false ↦ o ]) false ≡ option_map_or (counts history b) o false
    unended None = refl
    unended (Some s) = by_test s (back s) refl

gone-other : (history : List Entry) (a c from : ℕ) (b : ℕ) (d : Purpose) → (a == b) ≡ false → IsLawful history (entry_of a c (events.Gone from)) → Runs history
    → answer_of (history ++ entry_of a c (events.Gone from) ∷ []) b d ≡ answer_of history b d
gone-other history a c from b d other lawful r =
    ap (λ vs. fold (put_in_order d) [] (asked d (sees after b) vs)) (versions-more history (entry_of a c (events.Gone from)))
    ∙ ap (fold (put_in_order d) []) (asked-same d (sees after b) (sees history b) left (every (λ v. selects d v.row ≡ true → sees after b v ≡ sees history b v) (λ v is. sees-same history after b v (same v)) left)
    ∙ asked-unseen d history b (is_back history a from) hidden (versions_of history))
  where
    after : List Entry
    after = history ++ entry_of a c (events.Gone from) ∷ []

    left : List Version
    left = map (end_back (is_back history a from)) (filter (λ v. not (is_back history a from v.by)) (versions_of history))

    same : (v : Version) → OfStamps (λ s row. counts after b s ≡ counts history b s) v
    same v = (counts-other history a c (events.Gone from) b v.by other refl, of_ended v.ended)
      where
        of_ended : (o : Option Stamp) → IfSome o (λ s. counts after b s ≡ counts history b s)
        of_ended None = tt
        of_ended (Some s) = counts-other history a c (events.Gone from) b s other refl

    hidden : (s : Stamp) → is_back history a from s ≡ true → counts history b s ≡ false
    hidden s back = foreign history a b s other r lawful (inl (and_parts (runs_as history a s.xid.0) (nat_le from s.command) back).0)

-- the messages that a backend takes back
abbrev pub taken_back : List Entry → ℕ → ℕ → List Message
taken_back history b from = sent_in (lists_from from (lists_of history b))

gone-own : (history : List Entry) (b c from : ℕ) (d : Purpose) → IsPlain d → IsLawful history (entry_of b c (events.Gone from)) → Touched history
    → is_covered (taken_back history b from) d ≡ false → answer_of (history ++ entry_of b c (events.Gone from) ∷ []) b d ≡ answer_of history b d
gone-own history b c from d plain lawful touched none =
    ap (λ vs. fold (put_in_order d) [] (asked d (sees after b) vs)) (versions-more history (entry_of b c (events.Gone from)))
    ∙ ap (fold (put_in_order d) []) (asked-same d (sees after b) (sees history b) left (every (λ v. selects d v.row ≡ true → sees after b v ≡ sees history b v) (λ v is. sees-same history after b v (same v)) left)
    ∙ asked-gone d (sees history b) (is_back history b from) (versions_of history) (every-weaker (OfStamps (Touch history)) (OfStamps (λ s row. is_back history b from s ≡ true → selects d row ≡ true → ⊥))
    (stamps-weaker (Touch history) (λ s row. is_back history b from s ≡ true → selects d row ≡ true → ⊥) untouched) (versions_of history) touched))
  where
    after : List Entry
    after = history ++ entry_of b c (events.Gone from) ∷ []

    left : List Version
    left = map (end_back (is_back history b from)) (filter (λ v. not (is_back history b from v.by)) (versions_of history))

    counts_same : (s : Stamp) → counts after b s ≡ counts history b s
    counts_same s =
        ap (λ t. t || runs_as after b s.xid.0) (committed-more history (entry_of b c (events.Gone from)) s.xid.0 ∙ or-false (is_committed history s.xid.0))
        ∙ ap (λ t. is_committed history s.xid.0 || t) (ap (has_xid s.xid.0) (running-own history (entry_of b c (events.Gone from)) b (eq-eqb b b refl)) ∙ xid-begun s.xid.0 c (running_transaction_of history b))

    same : (v : Version) → OfStamps (λ s row. counts after b s ≡ counts history b s) v
    same v = (counts_same v.by, of_ended v.ended)
      where
        of_ended : (o : Option Stamp) → IfSome o (λ s. counts after b s ≡ counts history b s)
        of_ended None = tt
        of_ended (Some s) = counts_same s

    untouched : (s : Stamp) (row : Row) → Touch history s row → is_back history b from s ≡ true → selects d row ≡ true → ⊥
    untouched s row touch back is =
        let parts = and_parts (runs_as history b s.xid.0) (nat_le from s.command) back in
        both_ways _ none (sent-covered d s.command (lists_from from (lists_of history b))
        (any-filter (covers_at s.command d) (λ w. nat_le from w.command) (λ w here. ap (nat_le from) (eqb-true w.command s.command (and_parts (is_of s.command w) (is_covered (of_write w) d) here).0) ∙ parts.1) (lists_of history b) (touch.covered b parts.0 d (plain row is))))

-- the event of another spares the scan: where it makes a transaction visible, none of that one's messages covers it, and it isn't one of constraints
abbrev pub IsSparedByOther : List Entry → ℕ → Event → Purpose → Type 0
IsSparedByOther history a (events.Visible xid) d = (is_covered (sent_of history a) d ≡ false) × IsPlain d
IsSparedByOther history a event d = ⊤

-- what another's entry leaves
pub answer-other : (history : List Entry) (a c : ℕ) (event : Event) (b : ℕ) (d : Purpose) → (a == b) ≡ false → IsLawful history (entry_of a c event) → Runs history → Touched history
    → IsSparedByOther history a event d → answer_of (history ++ entry_of a c event ∷ []) b d ≡ answer_of history b d
answer-other history a c (events.Visible xid) b d other lawful r touched spared = visible-other history a c xid b d spared.1 other lawful touched spared.0
answer-other history a c (events.Write xid changes) b d other lawful r touched spared = write-other history a c xid changes b d other lawful r
answer-other history a c (events.Gone from) b d other lawful r touched spared = gone-other history a c from b d other lawful r
answer-other history a c event b d other lawful r touched spared =
    answer-kept history (history ++ entry_of a c event ∷ []) b d (versions-more history (entry_of a c event)) (every-weaker (OfStamps (Touch history)) (OfStamps (λ s row. selects d row ≡ true → counts (history ++ entry_of a c event ∷ []) b s ≡ counts history b s))
    (stamps-weaker (Touch history) (λ s row. selects d row ≡ true → counts (history ++ entry_of a c event ∷ []) b s ≡ counts history b s) (λ s row touch is. counts-other history a c event b s other refl)) (versions_of history) touched)

-- an event of the backend's own spares the scan: none of the messages that it registers or takes back covers it, and where it does either, it isn't one of constraints
abbrev pub IsSparedByOwn : List Entry → ℕ → ℕ → Event → Purpose → Type 0
IsSparedByOwn history b c (events.Write xid changes) d = (is_covered (messages_written history b changes) d ≡ false) × IsPlain d
IsSparedByOwn history b c (events.Gone from) d = (is_covered (taken_back history b from) d ≡ false) × IsPlain d
IsSparedByOwn history b c event d = ⊤

-- what the backend makes visible itself it saw before
visible-own : (history : List Entry) (b c : ℕ) (xid : Xid) (d : Purpose) → IsLawful history (entry_of b c (events.Visible xid)) → Touched history
    → answer_of (history ++ entry_of b c (events.Visible xid) ∷ []) b d ≡ answer_of history b d
visible-own history b c xid d lawful touched =
    answer-kept history after b d (versions-more history (entry_of b c (events.Visible xid))) (every-weaker (OfStamps (Touch history)) (OfStamps (λ s row. selects d row ≡ true → counts after b s ≡ counts history b s))
    (stamps-weaker (Touch history) (λ s row. selects d row ≡ true → counts after b s ≡ counts history b s) (λ s row touch is. same s)) (versions_of history) touched)
  where
    after : List Entry
    after = history ++ entry_of b c (events.Visible xid) ∷ []

    both : (x y : Bool) → y ≡ true → ((x || true) || y) ≡ (x || y)
    both true y is = refl
    both false true is = refl
    both false false is = absurd (cc)

    by_xid : (s : Stamp) (t : Bool) → (xid.0 == s.xid.0) ≡ t → ((is_committed history s.xid.0 || t) || runs_as history b s.xid.0) ≡ (is_committed history s.xid.0 || runs_as history b s.xid.0)
    by_xid s false is = ap (λ t. t || runs_as history b s.xid.0) (or-false (is_committed history s.xid.0))
    by_xid s true is = both (is_committed history s.xid.0) (runs_as history b s.xid.0) (subst (λ x. runs_as history b x ≡ true) (eqb-true xid.0 s.xid.0 is) lawful.1)

    same : (s : Stamp) → counts after b s ≡ counts history b s
    same s =
        ap (λ t. t || runs_as after b s.xid.0) (committed-more history (entry_of b c (events.Visible xid)) s.xid.0)
        ∙ ap (λ t. (is_committed history s.xid.0 || (xid.0 == s.xid.0)) || has_xid s.xid.0 t) (running-own history (entry_of b c (events.Visible xid)) b (eq-eqb b b refl))
        ∙ ap (λ t. (is_committed history s.xid.0 || (xid.0 == s.xid.0)) || t) (xid-begun s.xid.0 c (running_transaction_of history b)) ∙ by_xid s (xid.0 == s.xid.0) refl

-- what an own entry leaves
pub answer-own : (history : List Entry) (b c : ℕ) (event : Event) (d : Purpose) → IsLawful history (entry_of b c event) → CoversLawfully history b event → Runs history → Touched history
    → IsSparedByOwn history b c event d → answer_of (history ++ entry_of b c event ∷ []) b d ≡ answer_of history b d
answer-own history b c (events.Write xid changes) d lawful covering r touched spared = write-own history b c xid changes d spared.1 lawful covering r touched spared.0
answer-own history b c (events.Gone from) d lawful covering r touched spared = gone-own history b c from d spared.1 lawful touched spared.0
answer-own history b c (events.Visible xid) d lawful covering r touched spared = visible-own history b c xid d lawful touched
answer-own history b c event d lawful covering r touched spared =
    answer-kept history (history ++ entry_of b c event ∷ []) b d (versions-more history (entry_of b c event)) (every-weaker (OfStamps (Touch history)) (OfStamps (λ s row. selects d row ≡ true → counts (history ++ entry_of b c event ∷ []) b s ≡ counts history b s))
    (stamps-weaker (Touch history) (λ s row. selects d row ≡ true → counts (history ++ entry_of b c event ∷ []) b s ≡ counts history b s) (λ s row touch is. counts-own history b c event b s row lawful r refl touch)) (versions_of history) touched)

-- Of each entry that a sound history may go on with.

-- any entry of another leaves an answer that it spares
pub other_answers : (history : List Entry) (e : Entry) (b : ℕ) (d : Purpose) → IsSound history → MayComeNext history e → (e.backend == b) ≡ false
    → IsSparedByOther history e.backend e.event d → answer_of (history ++ e ∷ []) b d ≡ answer_of history b d
other_answers history e b d sound comes other spared =
    let k = sound_ordered history sound in
    answer-other history e.backend e.command e.event b d other (lawful_of history e k comes) k.runs k.touched spared

-- and so does any entry of its own
pub own_answers : (history : List Entry) (e : Entry) (d : Purpose) → IsSound history → MayComeNext history e
    → IsSparedByOwn history e.backend e.command e.event d → answer_of (history ++ e ∷ []) e.backend d ≡ answer_of history e.backend d
own_answers history e d sound comes spared =
    let k = sound_ordered history sound in
    answer-own history e.backend e.command e.event d (lawful_of history e k comes) (covers_of history e k comes) k.runs k.touched spared
