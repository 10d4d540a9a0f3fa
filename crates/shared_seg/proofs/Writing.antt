-- What is shared after a write, or after a clash in its place.
use Rattle.std.proofs.Common.{◌≡◌, ◌+◌, ◌∙◌, ◌++◌, ◌∷◌, [], ℕ, true, Option, Some, None, Err, List, length, slice_set, refl, sym, ap, subst}
use Rattle.std.specs.List.{flat_map, list_any, list_all, range_with_len}
use Rattle.std.specs.Option.{option_map_or}
use Rattle.std.specs.Str.{bytes_eq}
use Rattle.std.proofs.lemmas.List.FromFn.{length-range_with_len}
use Rattle.base_types.specs.Scenario.{Scenario}
use Rattle.base_types.specs.declared.ids.Xid.{Xid}
use Rattle.event_kinds.specs.declared.entry.Entry.{Entry}
use Rattle.event_kinds.specs.declared.entry.Event.{Event}
use Rattle.event_kinds.specs.declared.entry.Event.TheVariants.{Write, ClashRow, ClashRunning}
use Rattle.row_visibility.specs.declared.clash.Clash.{Clash}
use Rattle.row_visibility.specs.declared.clash.Clash.TheVariants.{Row, Running}
use Rattle.lock_modes.specs.declared.grant.Grant.{Grant}
use Rattle.lock_modes.specs.Excluding.{AreFree}
use Rattle.seg_calls.specs.declared.refusal.Written.{Written}
use Rattle.seg_calls.specs.declared.refusal.WriteRefusal.{WriteRefusal}
use Rattle.seg_calls.specs.declared.refusal.WriteRefusal.TheVariants.{Clash as RefusesClash}
use Rattle.event_kinds.specs.declared.entry.Item.{Item}
use Rattle.sinval_ring.specs.Queues.{Queue}
use Rattle.catalog_rows.specs.Store.{Store}
use Rattle.ddl_effect.specs.declared.draft.Draft.{Draft}
use Rattle.ddl_effect.specs.Drawing.{changes_of}
use Rattle.history_model.specs.After.{segment_of}
use Rattle.history_model.specs.Changes.{items_of}
use Rattle.history_model.specs.Drawn.{drawn_by, next_oid}
use Rattle.history_model.specs.MayFollow.{FollowsLife}
use Rattle.history_model.specs.Transactions.{last_xid, xid_for}
use Rattle.history_model.specs.Held.{granted_by, held_of}
use Rattle.history_model.specs.MayFollow.{AllowsEvent}
use Rattle.history_model.specs.Names.{new_names}
use Rattle.history_model.specs.Orderly.{IsOrderlyWrite}
use Rattle.history_model.specs.Writes.{is_free}
use Rattle.history_model.proofs.Allows.{unwritten_last}
use Rattle.history_model.proofs.Covering.{told_covers}
use Rattle.history_model.proofs.Ordered.{locks_exclude}
use Rattle.seg_calls.proofs.Allowed.{request_follows}
use Rattle.seg_calls.specs.Calls.{entry_of, items_drawn, messages_in, first_refused, MayRequest, MayWrite, MakesWrite, Clashes, Writes}
use Rattle.shared_seg.specs.declared.drawing.Drawn.{Drawn}
use Rattle.shared_seg.specs.declared.naming.Taken.{Taken}
use Rattle.txn_blocks.specs.declared.transaction.RunningTransaction.{RunningTransaction}
use Rattle.shared_seg.specs.Drawn.{xid_drawn}
use Rattle.shared_seg.specs.IsDrawn.{IsDrawn}
use Rattle.shared_seg.specs.Kept.{Kept, places_in}
use Rattle.shared_seg.specs.KeepsFolds.{KeepsFolds}
use Rattle.shared_seg.specs.KeepsQueue.{KeepsShared}
use Rattle.shared_seg.specs.Naming.{NamesFree, IsTaken, clash_with, clash_event_of, refuses}
use Rattle.shared_seg.specs.Places.{promised_in}
use Rattle.segment_rows.specs.Kept.{RowsHeld, xid_in, reader_of}
use Rattle.segment_rows.specs.Words.{messages_at, DrawsNext, rows_after}
use Rattle.history_ledger.specs.Words.{IsCounted}
use Rattle.shared_seg.specs.Transactions.{transaction_of, transaction_at, transaction_by, xid_at}
use Rattle.inval_messages.specs.declared.message.Message.{Message}
use Rattle.shared_seg.proofs.Asked.{request_inside, asked_appends, asked_keeps}
use Rattle.segment_rows.proofs.Mirrors.{Mirrors}
use Rattle.segment_rows.proofs.Kept.{mirrors, draws_next, written_same}
use Rattle.shared_seg.proofs.Keeps.{event_allowed}
use Rattle.shared_seg.proofs.Clashes.{all_free, names_same, clash_allowed}
use Rattle.shared_seg.proofs.FirstClash.{taken_refused}
use Rattle.shared_seg.proofs.NewLocks.{grants_free}
use Rattle.shared_seg.proofs.NewNames.{taken_new}
use Rattle.shared_seg.proofs.Queue.{asked_still}

-- what a write needs, of the parts
write_inside : (k now : Kept) (b c : ℕ) (draft : Draft) → k ≡ now → MayWrite now.history b c draft → MayWrite k.history b c draft
write_inside k now b c draft is may = subst (λ (x : Kept). MayWrite x.history b c draft) (sym is) may

-- a write that may be entered: it is asked for, its draft is drawn, and its new names are free
pub record MayEnter (script : Scenario) (history : List Entry) (b c : ℕ) (rows : RowsHeld) (transactions : List (Option RunningTransaction)) (draft : Draft) (drawn : Drawn) : Type 0 where
  pub request : MayRequest script history b c
  pub may : MayWrite history b c draft
  pub drawn_is : IsDrawn (xid_at transactions b) draft rows.next_oid rows.last_xid drawn
  pub free : NamesFree rows.store (xid_at transactions b) drawn.items.items

-- what is drawn, by other names of the Xid and the numbers
pub drawn_of : (given own : Option Xid) (draft : Draft) (next last : ℕ) (rows : RowsHeld) (drawn : Drawn) → given ≡ own → next ≡ rows.next_oid → last ≡ rows.last_xid → IsDrawn given draft next last drawn → IsDrawn own draft rows.next_oid rows.last_xid drawn
drawn_of given own draft next last rows drawn own_is next_is last_is is = subst (λ o. IsDrawn o draft rows.next_oid rows.last_xid drawn) own_is (subst (λ n. IsDrawn given draft n rows.last_xid drawn) next_is (subst (λ n. IsDrawn given draft next n drawn) last_is is))

-- of the parts, by another name of the Xid
pub may_enter : (k now : Kept) (b c : ℕ) (rows : RowsHeld) (transactions : List (Option RunningTransaction)) (draft : Draft) (drawn : Drawn) (own : Option Xid) → k ≡ now → MayRequest now.script now.history b c → MayWrite now.history b c draft → own ≡ xid_at transactions b
    → IsDrawn (xid_at transactions b) draft rows.next_oid rows.last_xid drawn → NamesFree rows.store own drawn.items.items → MayEnter k.script k.history b c rows transactions draft drawn
may_enter k now b c rows transactions draft drawn own is request may own_is drawn_is free = record {
  request = request_inside k now b c is request;
  may = write_inside k now b c draft is may;
  drawn_is = drawn_is;
  free = subst (λ o. NamesFree rows.store o drawn.items.items) own_is free;
}

-- the Xid that a write draws is the one that the history gives it
xid_drawn_is : (history : List Entry) (b last : ℕ) → last ≡ last_xid history → (xid_drawn (xid_in (transaction_of history b)) last).0 ≡ xid_for history b
xid_drawn_is history b last same = by_running (transaction_of history b)
  where
    by_xid : (o : Option Xid) → (xid_drawn o last).0 ≡ option_map_or (λ own. own.0) o (last_xid history + 1)
    by_xid None = ap (λ n. n + 1) same
    by_xid (Some x) = refl

    by_running : (r : Option RunningTransaction) → (xid_drawn (xid_in r) last).0 ≡ option_map_or (λ t. option_map_or (λ own. own.0) t.xid (last_xid history + 1)) r (last_xid history + 1)
    by_running None = ap (λ n. n + 1) same
    by_running (Some t) = by_xid t.xid

module _ (script : Scenario) (history : List Entry) (promised : List ℕ) (rows : RowsHeld) (locks : List Grant) (transactions : List (Option RunningTransaction)) (b c : ℕ) (k : KeepsFolds script history promised rows locks transactions) where
  own_is : xid_at transactions b ≡ xid_in (transaction_of history b)
  own_is = ap xid_in (k.own b)

  mirrors_own : Mirrors (segment_of history) b rows.store (xid_at transactions b)
  mirrors_own = subst (Mirrors (segment_of history) b rows.store) (sym own_is) (mirrors (segment_of history) rows b k.rows_are)

  -- the items of what is drawn
  items_made : (draft : Draft) (drawn : Drawn) → IsDrawn (xid_at transactions b) draft rows.next_oid rows.last_xid drawn → drawn.items.items ≡ items_drawn history draft
  items_made draft drawn is = is.items ∙ ap (λ n. items_of (changes_of n draft) draft.forced) k.rows_are.next_oid_is

  -- a write is allowed where no new name is taken
  pub write_allowed : (draft : Draft) (drawn : Drawn) → MayEnter script history b c rows transactions draft drawn → AllowsEvent history b c (Write drawn.xid (items_drawn history draft))
  write_allowed draft drawn enter = record {
    xid_is = xid_is;
    oids = oids;
    keys = enter.may.keys;
    there = enter.may.there;
    kinds = enter.may.kinds;
    only = unwritten_last history b c enter.may.only;
    free = subst (λ items. list_all (is_free history b) (new_names history b items) ≡ true) (items_made draft drawn enter.drawn_is) (all_free history b rows (xid_at transactions b) k.rows_are own_is mirrors_own drawn.items.items enter.free);
    guarded = enter.may.guarded;
    covered = told_covers history b c drawn.xid (items_drawn history draft) k.sound (record {
      hidden = enter.request.visible;
      xid_is = xid_is;
      oids = oids;
      keys = enter.may.keys;
      there = enter.may.there;
      guarded = enter.may.guarded;
      orderly = enter.may.orderly;
      life = subst (λ l. FollowsLife l c (Write drawn.xid (items_drawn history draft))) (sym enter.request.alive) enter.request.rises;
    });
  }
    where
      xid_is : drawn.xid.0 ≡ xid_for history b
      xid_is = ap (λ (x : Xid). x.0) enter.drawn_is.xid ∙ ap (λ o. (xid_drawn o rows.last_xid).0) own_is ∙ xid_drawn_is history b rows.last_xid k.rows_are.last_xid_is

      oids : flat_map drawn_by (items_drawn history draft) ≡ range_with_len (next_oid history) (length (flat_map drawn_by (items_drawn history draft)))
      oids = enter.may.oids ∙ ap (range_with_len (next_oid history)) (sym (ap length enter.may.oids ∙ length-range_with_len (next_oid history) draft.new_oids))

  -- it draws the next oids
  pub write_draws : (draft : Draft) (drawn : Drawn) → MayEnter script history b c rows transactions draft drawn → DrawsNext rows.next_oid (Write drawn.xid drawn.items.items)
  write_draws draft drawn enter =
      let follows = request_follows script history b c (Write drawn.xid (items_drawn history draft)) enter.request refl (write_allowed draft drawn enter) in
      let draws = draws_next (segment_of history) b c (Write drawn.xid (items_drawn history draft)) (event_allowed history (entry_of b c (Write drawn.xid (items_drawn history draft))) follows) in
      subst (λ n. DrawsNext n (Write drawn.xid drawn.items.items)) (sym k.rows_are.next_oid_is)
      (subst (λ items. DrawsNext (next_oid history) (Write drawn.xid items)) (sym (items_made draft drawn enter.drawn_is)) draws)

  -- nobody is in the way of the grants of its new relations
  pub write_granted : (draft : Draft) (drawn : Drawn) → MayEnter script history b c rows transactions draft drawn → AreFree locks (flat_map (granted_by b c) drawn.items.items)
  write_granted draft drawn enter =
      subst (λ held. AreFree held (flat_map (granted_by b c) drawn.items.items)) (sym k.locks_are)
      (subst (λ items. AreFree (held_of history) (flat_map (granted_by b c) items)) (sym (items_made draft drawn enter.drawn_is))
      (grants_free b c (items_drawn history draft) (held_of history) (next_oid history) draft.new_oids (locks_exclude history k.sound).drawn enter.may.oids))

  -- its entry has the items that its draft has now
  pub write_entered : (draft : Draft) (drawn : Drawn) (after : List Entry) → MayEnter script history b c rows transactions draft drawn → after ≡ history ++ entry_of b c (Write drawn.xid drawn.items.items) ∷ [] → after ≡ history ++ entry_of b c (Write drawn.xid (items_drawn history draft)) ∷ []
  write_entered draft drawn after enter entries = entries ∙ (λ i. history ++ entry_of b c (Write drawn.xid ((items_made draft drawn enter.drawn_is) i)) ∷ [])

  -- its messages are those of its items
  pub write_announced : (draft : Draft) (drawn : Drawn) (own : Option Xid) (messages : List Message) → MayEnter script history b c rows transactions draft drawn → own ≡ xid_at transactions b → messages ≡ flat_map (messages_at rows.store (reader_of own)) drawn.items.items
      → messages ≡ messages_in history b (items_drawn history draft)
  write_announced draft drawn own messages enter same are =
      are ∙ written_same (segment_of history) rows b own drawn.items.items k.rows_are (same ∙ own_is) ∙ ap (messages_in history b) (items_made draft drawn enter.drawn_is)

  -- a clash is allowed
  pub taken_allowed : (items : List Item) (taken : Taken) → IsTaken rows.store (xid_at transactions b) items taken → AllowsEvent history b c (clash_with taken)
  taken_allowed items taken is = clash_allowed history b c rows.store (xid_at transactions b) mirrors_own taken.name taken.clash is.by.clash

  -- which is the first that is taken
  pub taken_first : (draft : Draft) (drawn : Drawn) (taken : Taken) → IsDrawn (xid_at transactions b) draft rows.next_oid rows.last_xid drawn → IsTaken rows.store (xid_at transactions b) drawn.items.items taken
      → first_refused history b (new_names history b (items_drawn history draft)) ≡ Some (clash_with taken)
  taken_first draft drawn taken is at =
      ap (first_refused history b) (sym (names_same history b rows (xid_at transactions b) k.rows_are own_is drawn.items.items ∙ ap (new_names history b) (items_made draft drawn is))) ∙ taken_refused history b rows.store (xid_at transactions b) mirrors_own drawn.items.items taken at

  -- of a new name
  pub taken_is_new : (draft : Draft) (drawn : Drawn) (taken : Taken) → IsDrawn (xid_at transactions b) draft rows.next_oid rows.last_xid drawn → IsTaken rows.store (xid_at transactions b) drawn.items.items taken
      → list_any (bytes_eq taken.name) (new_names history b (items_drawn history draft)) ≡ true
  taken_is_new draft drawn taken is at =
      ap (list_any (bytes_eq taken.name)) (sym (names_same history b rows (xid_at transactions b) k.rows_are own_is drawn.items.items ∙ ap (new_names history b) (items_made draft drawn is))) ∙ taken_new rows.store (xid_at transactions b) drawn.items.items taken at

-- what is kept after a write
pub write_keeps : (k now : Kept) (after : List Entry) (has : List ℕ) (b c : ℕ) (draft : Draft) (drawn : Drawn) (rows stored : RowsHeld) (locks locked : List Grant) (transactions own : List (Option RunningTransaction)) (queue : Queue)
    → k ≡ now → KeepsShared k.script k.history k.promised rows locks transactions queue → MayRequest now.script now.history b c → MayEnter k.script k.history b c rows transactions draft drawn → after ≡ k.history ++ entry_of b c (Write drawn.xid drawn.items.items) ∷ [] → has ≡ k.promised
    → stored ≡ rows_after None c (Write drawn.xid drawn.items.items) rows → locked ≡ locks ++ flat_map (granted_by b c) drawn.items.items → own ≡ slice_set transactions b (transaction_by c (Write drawn.xid drawn.items.items) (transaction_at transactions b))
    → KeepsShared k.script after has stored locked own queue
write_keeps k now after has b c draft drawn rows stored locks locked transactions own queue is keeps request enter entered same stored_is locked_is own_is = record {
  folds = asked_keeps k now after has b c event rows stored locks locked transactions own is keeps.folds request refl allowed enter.may.orderly entries same
      (stored_is ∙ ap (λ items. rows_after None c (Write drawn.xid items) rows) items) (locked_is ∙ ap (λ xs. locks ++ flat_map (granted_by b c) xs) items) own_is;
  queued = asked_still k now after b c event queue is keeps.queued request refl allowed refl entries;
}
  where
    event : Event
    event = Write drawn.xid (items_drawn k.history draft)

    items : drawn.items.items ≡ items_drawn k.history draft
    items = items_made k.script k.history k.promised rows locks transactions b c keeps.folds draft drawn enter.drawn_is

    allowed : AllowsEvent k.history b c event
    allowed = write_allowed k.script k.history k.promised rows locks transactions b c keeps.folds draft drawn enter

    entries : after ≡ k.history ++ entry_of b c event ∷ []
    entries = write_entered k.script k.history k.promised rows locks transactions b c keeps.folds draft drawn after enter entered

-- a new name is taken, by other names of the Xid and the items
pub taken_of : (store : Store) (given own : Option Xid) (found items : List Item) (taken : Taken) → given ≡ own → found ≡ items → IsTaken store given found taken → IsTaken store own items taken
taken_of store given own found items taken is same at = subst (λ o. IsTaken store o items taken) is (subst (λ xs. IsTaken store given xs taken) same at)

-- what is published is as it was
pub clash_counted : (name : List ℕ) (clash : Clash) (running : Option RunningTransaction) → IsCounted (clash_event_of name clash) running
clash_counted name (Row rel) running = tt
clash_counted name (Running xid) running = tt

-- what is kept after a clash
pub clash_keeps : (k now : Kept) (after : List Entry) (has : List ℕ) (b c : ℕ) (name : List ℕ) (clash : Clash) (rows : RowsHeld) (locks : List Grant) (transactions own : List (Option RunningTransaction))
    → k ≡ now → KeepsFolds k.script k.history k.promised rows locks transactions → MayRequest now.script now.history b c → AllowsEvent k.history b c (clash_event_of name clash)
    → after ≡ k.history ++ entry_of b c (clash_event_of name clash) ∷ [] → has ≡ k.promised → own ≡ slice_set transactions b (transaction_by c (clash_event_of name clash) (transaction_at transactions b)) → KeepsFolds k.script after has rows locks own
clash_keeps k now after has b c name (Row rel) rows locks transactions own is keeps request allows entries same own_is =
    asked_keeps k now after has b c (ClashRow name rel) rows rows locks locks transactions own is keeps request refl allows tt entries same refl refl own_is
clash_keeps k now after has b c name (Running xid) rows locks transactions own is keeps request allows entries same own_is =
    asked_keeps k now after has b c (ClashRunning name xid) rows rows locks locks transactions own is keeps request refl allows tt entries same refl refl own_is

-- and what callers see of it
pub clash_writes : (k now : Kept) (after : List Entry) (has : List ℕ) (b c : ℕ) (draft : Draft) (name : List ℕ) (clash : Clash) → k ≡ now → MayRequest now.script now.history b c → AllowsEvent k.history b c (clash_event_of name clash)
    → list_any (bytes_eq name) (new_names k.history b (items_drawn k.history draft)) ≡ true → first_refused k.history b (new_names k.history b (items_drawn k.history draft)) ≡ Some (clash_event_of name clash) → after ≡ k.history ++ entry_of b c (clash_event_of name clash) ∷ [] → has ≡ k.promised
    → Writes now.history after (places_in now) (promised_in has) b c draft (Err (RefusesClash name clash))
clash_writes k now after has b c draft name (Row rel) is request allows new first entries same =
    subst (λ (x : Kept). Clashes x.history after (places_in x) (promised_in has) b draft name (entry_of b c (ClashRow name rel))) is
    (record { appends = asked_appends k k after has b c (ClashRow name rel) refl (request_inside k now b c is request) refl allows tt entries same; is_new = new; first = first })
clash_writes k now after has b c draft name (Running xid) is request allows new first entries same =
    subst (λ (x : Kept). Clashes x.history after (places_in x) (promised_in has) b draft name (entry_of b c (ClashRunning name xid))) is
    (record { appends = asked_appends k k after has b c (ClashRunning name xid) refl (request_inside k now b c is request) refl allows tt entries same; is_new = new; first = first })

-- what callers see of a write
pub makes_write : (k now : Kept) (after : List Entry) (has : List ℕ) (b c next : ℕ) (draft : Draft) (written : Written) → k ≡ now → MayRequest now.script now.history b c → AllowsEvent k.history b c (Write written.xid (items_drawn k.history draft)) → IsOrderlyWrite k.history b (items_drawn k.history draft)
    → after ≡ k.history ++ entry_of b c (Write written.xid (items_drawn k.history draft)) ∷ [] → has ≡ k.promised → written.first_oid.0 ≡ next → next ≡ next_oid k.history → written.messages.items ≡ messages_in k.history b (items_drawn k.history draft) → MakesWrite now.history after (places_in now) (promised_in has) b c draft written
makes_write k now after has b c next draft written is request allows orderly entries same first drawn messages =
    subst (λ (x : Kept). MakesWrite x.history after (places_in x) (promised_in has) b c draft written) is
    (record { appends = asked_appends k k after has b c (Write written.xid (items_drawn k.history draft)) refl (request_inside k now b c is request) refl allows orderly entries same; first = first ∙ drawn; messages = messages })

-- the same of what a call answers
pub clash_writes_at : (k now : Kept) (after : List Entry) (has : List ℕ) (b c : ℕ) (draft : Draft) (taken : Taken) (answer : WriteRefusal) → answer ≡ refuses taken → k ≡ now → MayRequest now.script now.history b c → AllowsEvent k.history b c (clash_with taken)
    → list_any (bytes_eq taken.name) (new_names k.history b (items_drawn k.history draft)) ≡ true → first_refused k.history b (new_names k.history b (items_drawn k.history draft)) ≡ Some (clash_with taken) → after ≡ k.history ++ entry_of b c (clash_with taken) ∷ [] → has ≡ k.promised
    → Writes now.history after (places_in now) (promised_in has) b c draft (Err answer)
clash_writes_at k now after has b c draft taken answer answer_is is request allows new first entries same =
    subst (λ r. Writes now.history after (places_in now) (promised_in has) b c draft (Err r)) (sym answer_is) (clash_writes k now after has b c draft taken.name taken.clash is request allows new first entries same)
