-- What an entry leaves of the answers of scans as their rows count: a message covers each that it changes. For the relation that a foreign key refers to it doesn't count whether the key is known to hold.
use Rattle.std.proofs.Common.{◌≡◌, ◌∙◌, ◌⊎◌, inl, inr, ℕ, true, false, List, [], ◌∷◌, ◌++◌, ◌==◌, refl, sym, ap, subst, map, length}
use Rattle.std.specs.Prelude.{nat_le, ⊤}
use Rattle.std.specs.List.{list_all, flat_map, filter_map, range_with_len}
use Rattle.std.specs.Option.{IfSome}
use Rattle.std.proofs.lemmas.Bool.{eqb-true, both_ways, and_parts}
use Rattle.base_types.specs.declared.ids.Oid.{Oid}
use Rattle.base_types.specs.declared.ids.Xid.{Xid}
use Rattle.base_types.specs.declared.row.Row.{Row}
use Rattle.base_types.specs.declared.scan.Purpose.{Purpose}
use Rattle.base_types.specs.declared.scan.Purpose.TheVariants as scans
use Rattle.base_types.specs.RowKeys.{are_distinct_keys}
use Rattle.event_kinds.specs.declared.entry.Entry.{Entry}
use Rattle.event_kinds.specs.declared.entry.Event.{Event}
use Rattle.event_kinds.specs.declared.entry.Event.TheVariants as events
use Rattle.event_kinds.specs.declared.entry.Item.{Item}
use Rattle.inval_messages.specs.Lists.{lists_from}
use Rattle.history_model.specs.Lives.{life_of}
use Rattle.history_model.specs.MayFollow.{FollowsLife}
use Rattle.history_model.specs.Transactions.{running_transaction_of, is_visible, xid_for}
use Rattle.history_model.specs.Versions.{ended_key, added_row, old_row, answer_of}
use Rattle.history_model.specs.Sent.{messages_written, lists_of, sent_of}
use Rattle.history_model.specs.Covered.{is_covered, counted_for}
use Rattle.history_model.specs.Drawn.{drawn_by, made_by, next_oid}
use Rattle.history_model.specs.Changing.{changed_key}
use Rattle.history_model.specs.Writes.{has_row, is_guarded}
use Rattle.history_model.specs.Orderly.{IsOrderlyWrite}
use Rattle.history_model.specs.Sound.{MayComeNext, IsSound}
use Rattle.history_model.proofs.Every.{every-weaker, any-filter}
use Rattle.history_model.proofs.Lawful.{IsPlain, IsLawful}
use Rattle.history_model.proofs.Lives.{begun_at}
use Rattle.history_model.proofs.Markings.{TellsIn, told_marks}
use Rattle.history_model.proofs.MaskedRows.{Masking, LeavesMask, KeepsMask}
use Rattle.history_model.proofs.MaskedOwn.{write_masked, gone_masked}
use Rattle.history_model.proofs.MaskedScans.{masked_visible}
use Rattle.history_model.proofs.Ordered.{Ordered, if_some, lawful_of, early_at, covers_items, write_lawful, write_keyed, sound_ordered}
use Rattle.history_model.proofs.RowMasks.{counted_mask, counted_apart, ToldOf, told_changes, told_masks}
use Rattle.history_model.proofs.OneVersion.{OneVersion-more}
use Rattle.history_model.proofs.Touched.{entry_of, is_of, of_write, covers_at}
use Rattle.history_model.proofs.Answers.{sent-covered, taken_back, answer-own, other_answers, own_answers}

-- another's event has no message that covers the scan, where it makes a transaction visible
abbrev pub IsUntoldByOther : List Entry → ℕ → Event → Purpose → Type 0
IsUntoldByOther history a (events.Visible xid) d = is_covered (sent_of history a) d ≡ false
IsUntoldByOther history a event d = ⊤

-- an own event neither registers nor takes back a message that covers it
abbrev pub IsUntoldByOwn : List Entry → ℕ → Event → Purpose → Type 0
IsUntoldByOwn history b (events.Write xid items) d = is_covered (messages_written history b items) d ≡ false
IsUntoldByOwn history b (events.Gone from) d = is_covered (taken_back history b from) d ≡ false
IsUntoldByOwn history b event d = ⊤

-- the rows of a scan's answer as they count for it
abbrev pub counted : Purpose → List Row → List Row
counted d given = map (counted_for d) given

abbrev IsOfConstraints : Purpose → Type 0
IsOfConstraints d = (rel : Oid) × (d ≡ scans.Constraint rel)

plain_or : (d : Purpose) → IsPlain d ⊎ IsOfConstraints d
plain_or (scans.Constraint rel) = inr (rel, refl)
plain_or d = inl (λ row is. is)

-- what a write needs but that it covers what it changes, and that its new names are free
pub record IsAllowedWrite (history : List Entry) (b c : ℕ) (xid : Xid) (items : List Item) : Type 0 where
  pub hidden : is_visible (running_transaction_of history b) ≡ false
  pub xid_is : xid.0 ≡ xid_for history b
  pub oids : flat_map drawn_by items ≡ range_with_len (next_oid history) (length (flat_map drawn_by items))
  pub keys : are_distinct_keys (flat_map changed_key items) ≡ true
  pub there : list_all (has_row history b) (filter_map ended_key items) ≡ true
  pub guarded : list_all (is_guarded history b (flat_map made_by items)) items ≡ true
  pub orderly : IsOrderlyWrite history b items
  pub life : FollowsLife (life_of history b) c (events.Write xid items)

-- one that may come is so
allowed_comes : (history : List Entry) (b c : ℕ) (xid : Xid) (items : List Item) → Ordered history → MayComeNext history (entry_of b c (events.Write xid items)) → IsAllowedWrite history b c xid items
allowed_comes history b c xid items k comes = record {
  hidden = (lawful_of history (entry_of b c (events.Write xid items)) k comes).0;
  xid_is = comes.follows.event.xid_is;
  oids = comes.follows.event.oids;
  keys = comes.follows.event.keys;
  there = comes.follows.event.there;
  guarded = comes.follows.event.guarded;
  orderly = comes.orderly;
  life = comes.follows.life;
}

lawful_write : (history : List Entry) (b c : ℕ) (xid : Xid) (items : List Item) → Ordered history → IsAllowedWrite history b c xid items → IsLawful history (entry_of b c (events.Write xid items))
lawful_write history b c xid items k may = write_lawful history b c xid items may.hidden may.xid_is may.oids may.guarded may.orderly k (early_at history (entry_of b c (events.Write xid items)) k may.life)

write_counted : (rel : Oid) (history : List Entry) (b c : ℕ) (xid : Xid) (items : List Item) → Ordered history → IsAllowedWrite history b c xid items → is_covered (messages_written history b items) (scans.Constraint rel) ≡ false
    → counted (scans.Constraint rel) (answer_of (history ++ entry_of b c (events.Write xid items) ∷ []) b (scans.Constraint rel)) ≡ counted (scans.Constraint rel) (answer_of history b (scans.Constraint rel))
write_counted rel history b c xid items k may none = write_masked m (scans.Constraint rel) (counted_apart rel) history b c xid items k lawful
    (OneVersion-more history e lawful (write_keyed history b c xid items may.keys may.there may.orderly k.rels (begun_at history e may.life k.lives)) k.runs k.locks k.touched k.guards k.rels k.one) may.life may.keys
    (every-weaker (λ item. IfSome (added_row item) (ToldOf rel history b items item) × IfSome (old_row history b item) (ToldOf rel history b items item)) (λ item. IfSome (added_row item) (LeavesMask m history b item) × IfSome (old_row history b item) (LeavesMask m history b item))
    (λ item h. (if_some (ToldOf rel history b items item) (LeavesMask m history b item) (on item) (added_row item) h.0, if_some (ToldOf rel history b items item) (LeavesMask m history b item) (on item) (old_row history b item) h.1)) items (told_changes rel history b c xid items may.guarded may.orderly (early_at history e k may.life)))
  where
    m : Masking
    m = counted_mask rel

    e : Entry
    e = entry_of b c (events.Write xid items)

    lawful : IsLawful history e
    lawful = lawful_write history b c xid items k may

    on : (item : Item) (row : Row) → ToldOf rel history b items item row → LeavesMask m history b item row
    on item row told concerned = of (told concerned)
      where
        of : (is_covered (messages_written history b items) (scans.Constraint rel) ≡ true) ⊎ KeepsMask m (old_row history b item) item → KeepsMask m (old_row history b item) item
        of (inl is) = absurd (both_ways _ none is)
        of (inr keeps) = keeps

write_by : (history : List Entry) (b c : ℕ) (xid : Xid) (items : List Item) (d : Purpose) → Ordered history → IsAllowedWrite history b c xid items → is_covered (messages_written history b items) d ≡ false → IsPlain d ⊎ IsOfConstraints d
    → counted d (answer_of (history ++ entry_of b c (events.Write xid items) ∷ []) b d) ≡ counted d (answer_of history b d)
write_by history b c xid items d k may none (inl plain) = ap (counted d) (answer-own history b c (events.Write xid items) d (lawful_write history b c xid items k may) (covers_items history b items k.one may.orderly.told) k.runs k.touched (none, plain))
write_by history b c xid items d k may none (inr (rel, is)) = subst (λ x. counted x (answer_of (history ++ entry_of b c (events.Write xid items) ∷ []) b x) ≡ counted x (answer_of history b x)) (sym is)
    (write_counted rel history b c xid items k may (ap (is_covered (messages_written history b items)) (sym is) ∙ none))

-- what its messages don't cover such a write leaves
pub counted_write : (history : List Entry) (b c : ℕ) (xid : Xid) (items : List Item) (d : Purpose) → Ordered history → IsAllowedWrite history b c xid items → is_covered (messages_written history b items) d ≡ false
    → counted d (answer_of (history ++ entry_of b c (events.Write xid items) ∷ []) b d) ≡ counted d (answer_of history b d)
counted_write history b c xid items d k may none = write_by history b c xid items d k may none (plain_or d)

gone_counted : (rel : Oid) (history : List Entry) (b c from : ℕ) → IsSound history → MayComeNext history (entry_of b c (events.Gone from)) → is_covered (taken_back history b from) (scans.Constraint rel) ≡ false
    → counted (scans.Constraint rel) (answer_of (history ++ entry_of b c (events.Gone from) ∷ []) b (scans.Constraint rel)) ≡ counted (scans.Constraint rel) (answer_of history b (scans.Constraint rel))
gone_counted rel history b c from sound comes none = gone_masked (counted_mask rel) (told_marks d) (told_masks rel) d (counted_apart rel) history b c from sound comes unmarked
  where
    d : Purpose
    d = scans.Constraint rel

    unmarked : (i : ℕ) → nat_le from i ≡ true → TellsIn d history b i → ⊥
    unmarked i above told = both_ways _ none (sent-covered d i (lists_from from (lists_of history b))
        (any-filter (covers_at i d) (λ w. nat_le from w.command) (λ w here. ap (nat_le from) (eqb-true w.command i (and_parts (is_of i w) (is_covered (of_write w) d) here).0) ∙ above) (lists_of history b) told))

-- what becomes visible
visible_counted : (rel : Oid) (history : List Entry) (a c : ℕ) (xid : Xid) (b : ℕ) → (a == b) ≡ false → IsSound history → MayComeNext history (entry_of a c (events.Visible xid)) → is_covered (sent_of history a) (scans.Constraint rel) ≡ false
    → counted (scans.Constraint rel) (answer_of (history ++ entry_of a c (events.Visible xid) ∷ []) b (scans.Constraint rel)) ≡ counted (scans.Constraint rel) (answer_of history b (scans.Constraint rel))
visible_counted rel history a c xid b other sound comes none = masked_visible (counted_mask rel) (told_marks (scans.Constraint rel)) (told_masks rel) (scans.Constraint rel) (counted_apart rel) history a c xid b sound comes other
    (λ i told. both_ways _ none (sent-covered (scans.Constraint rel) i (lists_of history a) told))

other_by : (history : List Entry) (a c : ℕ) (event : Event) (b : ℕ) (d : Purpose) → (a == b) ≡ false → IsSound history → MayComeNext history (entry_of a c event) → IsUntoldByOther history a event d → IsPlain d ⊎ IsOfConstraints d
    → counted d (answer_of (history ++ entry_of a c event ∷ []) b d) ≡ counted d (answer_of history b d)
other_by history a c (events.Visible xid) b d other sound comes untold (inl plain) = ap (counted d) (other_answers history (entry_of a c (events.Visible xid)) b d sound comes other (untold, plain))
other_by history a c (events.Visible xid) b d other sound comes untold (inr (rel, is)) = subst (λ x. counted x (answer_of (history ++ entry_of a c (events.Visible xid) ∷ []) b x) ≡ counted x (answer_of history b x)) (sym is)
    (visible_counted rel history a c xid b other sound comes (ap (is_covered (sent_of history a)) (sym is) ∙ untold))
other_by history a c event b d other sound comes untold of = ap (counted d) (other_answers history (entry_of a c event) b d sound comes other tt)

-- what another's entry leaves of an answer that its messages don't cover
pub counted-other : (history : List Entry) (a c : ℕ) (event : Event) (b : ℕ) (d : Purpose) → (a == b) ≡ false → IsSound history → MayComeNext history (entry_of a c event) → IsUntoldByOther history a event d
    → counted d (answer_of (history ++ entry_of a c event ∷ []) b d) ≡ counted d (answer_of history b d)
counted-other history a c event b d other sound comes untold = other_by history a c event b d other sound comes untold (plain_or d)

own_by : (history : List Entry) (b c : ℕ) (event : Event) (d : Purpose) → IsSound history → MayComeNext history (entry_of b c event) → IsUntoldByOwn history b event d → IsPlain d ⊎ IsOfConstraints d
    → counted d (answer_of (history ++ entry_of b c event ∷ []) b d) ≡ counted d (answer_of history b d)
own_by history b c (events.Write xid items) d sound comes untold of = let k = sound_ordered history sound in counted_write history b c xid items d k (allowed_comes history b c xid items k comes) untold
own_by history b c (events.Gone from) d sound comes untold (inl plain) = ap (counted d) (own_answers history (entry_of b c (events.Gone from)) d sound comes (untold, plain))
own_by history b c (events.Gone from) d sound comes untold (inr (rel, is)) = subst (λ x. counted x (answer_of (history ++ entry_of b c (events.Gone from) ∷ []) b x) ≡ counted x (answer_of history b x)) (sym is)
    (gone_counted rel history b c from sound comes (ap (is_covered (taken_back history b from)) (sym is) ∙ untold))
own_by history b c event d sound comes untold of = ap (counted d) (own_answers history (entry_of b c event) d sound comes tt)

-- and what an own entry leaves
pub counted-own : (history : List Entry) (b c : ℕ) (event : Event) (d : Purpose) → IsSound history → MayComeNext history (entry_of b c event) → IsUntoldByOwn history b event d
    → counted d (answer_of (history ++ entry_of b c event ∷ []) b d) ≡ counted d (answer_of history b d)
counted-own history b c event d sound comes untold = own_by history b c event d sound comes untold (plain_or d)
