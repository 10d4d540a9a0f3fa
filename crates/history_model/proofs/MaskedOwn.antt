-- What an own entry leaves of a scan's masked rows: a write each change of which leaves the masked row, and taking back commands none of which is marked.
use Rattle.std.proofs.Common.{◌≡◌, ◌≤◌, ◌∙◌, ℕ, Bool, true, false, not, Option, Some, None, List, [], ◌∷◌, ◌++◌, ◌==◌, ◌||◌, ◌&&◌, refl, sym, ap, subst, map}
use Rattle.std.specs.Prelude.{nat_le}
use Rattle.std.specs.List.{AllByRecursion, flat_map}
use Rattle.std.specs.Option.{IfSome}
use Rattle.std.proofs.lemmas.Bool.{eq-eqb, or_right}
use Rattle.base_types.specs.declared.ids.Xid.{Xid}
use Rattle.base_types.specs.declared.row.Row.{Row}
use Rattle.base_types.specs.declared.scan.Purpose.{Purpose}
use Rattle.base_types.specs.RowKeys.{are_distinct_keys}
use Rattle.event_kinds.specs.declared.entry.Entry.{Entry}
use Rattle.event_kinds.specs.declared.entry.Event.TheVariants as events
use Rattle.event_kinds.specs.declared.entry.Item.{Item}
use Rattle.row_visibility.specs.declared.version.Stamp.{Stamp}
use Rattle.row_visibility.specs.declared.version.Version.{Version}
use Rattle.history_model.specs.Lives.{life_of}
use Rattle.history_model.specs.MayFollow.{FollowsLife}
use Rattle.history_model.specs.Transactions.{running_transaction_of, runs_as, is_committed, has_xid}
use Rattle.history_model.specs.Versions.{versions_of, versions_by, added_row, old_row, counts, answer_of}
use Rattle.history_model.specs.Sent.{lists_of}
use Rattle.history_model.specs.Changing.{changed_key}
use Rattle.history_model.specs.Sound.{MayComeNext, IsSound}
use Rattle.history_model.proofs.Every.{every}
use Rattle.history_model.proofs.Lawful.{IsLawful}
use Rattle.history_model.proofs.Lives.{Begun, begun_at}
use Rattle.history_model.proofs.MaskedRows.{Masking, Marking, Masks, ShowSame, LeavesMask, passing, passing_down, show-trans, show-sym, counted_all, write_leaves, gone_leaves, sound_steady}
use Rattle.history_model.proofs.MaskedScans.{AsksMasked, masked_answer}
use Rattle.history_model.proofs.Ordered.{Ordered, Ordered-more, lawful_of, sound_ordered}
use Rattle.history_model.proofs.Reading.{running_transaction_of-own as running-own, versions_of-more as versions-more}
use Rattle.history_model.proofs.Seen.{counts_at, every_command, OneVersion}
use Rattle.history_model.proofs.Touched.{entry_of, OfStamps}

-- all that a backend did counts for it
all_counts : (m : Masking) (history : List Entry) (b : ℕ) (x : Row) (vs : List Version) → ShowSame m x (counts history b) vs (counts_at history b every_command) vs
all_counts m history b x vs = counted_all m x (counts history b) (counts_at history b every_command) vs (every (OfStamps (λ s row. counts history b s ≡ counts_at history b every_command s)) (λ v. (same v.by, of v.ended)) vs)
  where
    and_true : (t : Bool) → t ≡ (t && true)
    and_true true = refl
    and_true false = refl

    same : (s : Stamp) → counts history b s ≡ counts_at history b every_command s
    same s = ap (λ t. is_committed history s.xid.0 || t) (and_true (runs_as history b s.xid.0))

    of : (o : Option Stamp) → IfSome o (λ s. counts history b s ≡ counts_at history b every_command s)
    of None = tt
    of (Some s) = same s

-- an own entry leaves the masked answer, where with all that it did the backend sees the same masked rows
own_masked : (m : Masking) (d : Purpose) → AsksMasked m d → (history : List Entry) (e : Entry) → OneVersion history → OneVersion (history ++ e ∷ [])
    → ((x : Row) → m.concerns x → ShowSame m x (counts_at (history ++ e ∷ []) e.backend every_command) (versions_by history e.backend e.command e.event (versions_of history)) (counts_at history e.backend every_command) (versions_of history))
    → map m.mask (answer_of (history ++ e ∷ []) e.backend d) ≡ map m.mask (answer_of history e.backend d)
own_masked m d apart history e one one' shows = masked_answer m d apart history e b one one'
    (λ x cx. subst (λ vs. ShowSame m x (counts after b) vs (counts history b) (versions_of history)) (sym (versions-more history e))
    (show-trans m x (counts after b) (counts_at after b every_command) (counts history b) now now (versions_of history) (all_counts m after b x now)
    (show-trans m x (counts_at after b every_command) (counts_at history b every_command) (counts history b) now (versions_of history) (versions_of history) (shows x cx)
    (show-sym m x (counts history b) (counts_at history b every_command) (versions_of history) (versions_of history) (all_counts m history b x (versions_of history))))))
  where
    b : ℕ
    b = e.backend

    after : List Entry
    after = history ++ e ∷ []

    now : List Version
    now = versions_by history e.backend e.command e.event (versions_of history)

-- so does a write each change of which leaves the masked row
pub write_masked : (m : Masking) (d : Purpose) → AsksMasked m d → (history : List Entry) (b c : ℕ) (xid : Xid) (items : List Item) → Ordered history → IsLawful history (entry_of b c (events.Write xid items)) → OneVersion (history ++ entry_of b c (events.Write xid items) ∷ [])
    → FollowsLife (life_of history b) c (events.Write xid items) → are_distinct_keys (flat_map changed_key items) ≡ true → AllByRecursion (λ item. IfSome (added_row item) (LeavesMask m history b item) × IfSome (old_row history b item) (LeavesMask m history b item)) items
    → map m.mask (answer_of (history ++ entry_of b c (events.Write xid items) ∷ []) b d) ≡ map m.mask (answer_of history b d)
write_masked m d apart history b c xid items k lawful one life keys leaves = own_masked m d apart history e k.one one
    (λ x cx. write_leaves m history b c xid items lawful k keys leaves begun.low every_command x cx (λ i j low is. refl) refl
    (or_right (is_committed (history ++ e ∷ []) xid.0) (runs_as (history ++ e ∷ []) b xid.0 && true) (ap (λ t. t && true) (ap (has_xid xid.0) (running-own history e b (eq-eqb b b refl)) ∙ eq-eqb xid.0 xid.0 refl))))
  where
    e : Entry
    e = entry_of b c (events.Write xid items)

    begun : Begun c (running_transaction_of history b) (lists_of history b)
    begun = begun_at history e life k.lives

-- and taking back commands none of which is marked
pub gone_masked : (m : Masking) (n : Marking) → Masks m n → (d : Purpose) → AsksMasked m d → (history : List Entry) (b c from : ℕ) → IsSound history → MayComeNext history (entry_of b c (events.Gone from)) → ((i : ℕ) → nat_le from i ≡ true → n.has history b i → ⊥)
    → map m.mask (answer_of (history ++ entry_of b c (events.Gone from) ∷ []) b d) ≡ map m.mask (answer_of history b d)
gone_masked m n masks d apart history b c from sound comes none = own_masked m d apart history e k.one (Ordered-more history e k comes).one
    (λ x cx. show-trans m x (counts_at (history ++ e ∷ []) b every_command) (counts_at history b left) (counts_at history b every_command) (versions_by history b c (events.Gone from) vs) vs vs
    (gone_leaves m history b c from (lawful_of history e k comes) k b every_command x (λ i j low is. refl))
    (show-sym m x (counts_at history b every_command) (counts_at history b left) vs vs
    (sound_steady m n masks history sound b every_command left x cx (λ i j low is. refl) left_down (λ i is. refl) (λ i is not'. none i (taken (b == b) i (eq-eqb b b refl) not')))))
  where
    e : Entry
    e = entry_of b c (events.Gone from)

    k : Ordered history
    k = sound_ordered history sound

    vs : List Version
    vs = versions_of history

    left : ℕ → Bool
    left = passing (b == b) every_command from

    left_down : (i j : ℕ) → i ≤ j → left j ≡ true → left i ≡ true
    left_down = passing_down (b == b) every_command from (λ i j low is. refl)

    taken : (t : Bool) (i : ℕ) → t ≡ true → passing t every_command from i ≡ false → nat_le from i ≡ true
    taken true i own not' = not_false (nat_le from i) not'
      where
        not_false : (u : Bool) → not u ≡ false → u ≡ true
        not_false true is = refl
        not_false false is = absurd (cc)
    taken false i own not' = absurd (cc)
