-- What `create index` and `drop index` write may be written.
use Rattle.std.proofs.Common.{◌≡◌, ◌<◌, inl, inr, ℕ, Bool, true, false, Option, Some, None, List, [], ◌∷◌, ◌||◌, not, refl, ap, if◌then◌else◌, arith}
use Rattle.std.specs.List.{list_any}
use Rattle.std.proofs.lemmas.Bool.{or_left, or_right, ne_eqb}
use Rattle.base_types.specs.Scans.{same_oid}
use Rattle.base_types.specs.declared.index_state.IndexState.{IndexState}
use Rattle.base_types.specs.declared.index_state.IndexState.TheVariants as states
use Rattle.base_types.specs.declared.kind.Kind.TheVariants.{Index}
use Rattle.base_types.specs.declared.mode.Mode.TheVariants.{Share}
use Rattle.base_types.specs.declared.row.Row.TheVariants as rows
use Rattle.base_types.specs.declared.row_key.RowKey.TheVariants as keys
use Rattle.base_types.specs.declared.scan.Purpose.TheVariants as scans
use Rattle.event_kinds.specs.declared.entry.Item.TheVariants as forms
use Rattle.inval_messages.specs.declared.message.Message.{Message}
use Rattle.inval_messages.specs.declared.message.Message.TheVariants.{Rel}
use Rattle.inval_messages.specs.Changes.{cats_of}
use Rattle.inval_messages.specs.Messages.{covers}
use Rattle.inval_messages.proofs.Covers.{new_covered}
use Rattle.lock_modes.specs.Grants.{holds}
use Rattle.history_model.specs.Covered.{scans_of, is_covered}
use Rattle.history_model.specs.Drawn.{next_oid}
use Rattle.history_model.specs.Held.{held_of}
use Rattle.history_model.specs.Sound.{IsSound}
use Rattle.history_model.specs.Sent.{messages_written}
use Rattle.history_model.specs.Versions.{rows_of, row_with}
use Rattle.history_model.specs.Changing.{enough_with}
use Rattle.history_model.proofs.DrawnKeys.{new_key}
use Rattle.history_model.proofs.Every.{every-weaker}
use Rattle.history_model.proofs.InOrder.{IsIn}
use Rattle.cacheless.specs.Types.{Oid, Mode, AccessExclusive, Kind, Row, Entry, Item, Opening}
use Rattle.cacheless.specs.TableWrites.{is_of_index, takes_relation, adds_index_row, goes_together}
use Rattle.cacheless.proofs.Written.FitToWrite.{Fits, IsSent, added_fits, taking, all_pass, sent_itself}
use Rattle.cacheless.proofs.Written.LeavingItems.{leave_keep, one_apart}
use Rattle.cacheless.proofs.Written.NewRows.{oid_drawn}
use Rattle.cacheless.proofs.Written.WrittenParts.{items_in, MayGo, parts_fit, MayAlter, parts_alter, IsTold, rel_told, forced_told, tells_in, changed_in, gone_in, gone_sent, sent_scan, sent_told, two_covered, same_told}

share_added : (p : Mode → Bool) (t : Bool) → t ≡ true → p Share ≡ true → list_any p (enough_with (if t then Some Share else None)) ≡ true
share_added p true same is = or_left (p Share) (p AccessExclusive || false) is
share_added p false same is = absurd (cc)

-- `create index`: both of its rows have one new oid, and its table is told
pub index_alters : (before : List Entry) (b : ℕ) (opened : List Opening) (rel : Oid) (name nums : List ℕ) → IsSound before → holds (held_of before) b rel Share ≡ true → rel.0 < next_oid before
    → MayAlter before b opened 1 (Some (oid_drawn before)) (items_in [] (forms.Add (rows.Class (oid_drawn before) name Index None) ∷ forms.Add (rows.Ind (oid_drawn before) rel states.Valid nums) ∷ []) (rel ∷ []))
index_alters before b opened rel name nums sound has drawn = parts_alter before b opened 1 (Some new) [] changed (rel ∷ []) (parts_fit before b 1 [] changed (rel ∷ []) sound refl refl tt (class_fits, (row_fits, tt)))
    (leave_keep before b items (tt, (tt, (tt, tt))))
    (record { together = all_pass (goes_together before b items) items (or_right (adds_index_row new (forms.Add class)) _ (or_left (same_oid new new) _ (same_told new)), (or_left (same_oid new new) _ (same_told new), (refl, tt))) })
    (one_apart (forms.Add class) (forms.Add row ∷ []) (tt, tt)) (λ facts read own is. is) (λ c. refl) (omega arith)
  where
    new : Oid
    new = oid_drawn before

    class : Row
    class = rows.Class new name Index None

    row : Row
    row = rows.Ind new rel states.Valid nums

    changed : List Item
    changed = forms.Add class ∷ forms.Add row ∷ []

    items : List Item
    items = items_in [] changed (rel ∷ [])

    messages : List Message
    messages = messages_written before b items

    made : (t : Bool) → ((same_oid new new || false) || t) ≡ true
    made t = or_left (same_oid new new || false) t (or_left (same_oid new new) false (same_told new))

    class_fits : Fits before b (new ∷ []) messages (forms.Add class)
    class_fits = added_fits before b (new ∷ []) messages class (record {
      fresh = new_key before (keys.Class new) sound (omega arith);
      apart = refl;
      guarded = (made _, tt);
      told = all_pass (is_covered messages) (scans_of class) (every-weaker (IsSent class) (λ scan. is_covered messages scan ≡ true)
          (λ scan is. tells_in before b items (forms.Add class) (changed_in [] changed (rel ∷ []) (forms.Add class) (inl refl)) (covers scan) (new_covered scan None class is.0 is.1)) (scans_of class) (sent_itself new Index class (refl, refl)));
    })

    row_fits : Fits before b (new ∷ []) messages (forms.Add row)
    row_fits = added_fits before b (new ∷ []) messages row (record {
      fresh = new_key before (keys.Ind new) sound (omega arith);
      apart = ap (λ t. if t then false else true) (ne_eqb rel.0 new.0 (λ same. absurd (omega (arith, drawn, same))));
      guarded = (made _, (or_right (same_oid rel new || false) _ (share_added (holds (held_of before) b rel) (same_oid rel rel) (same_told rel) has), tt));
      told = two_covered messages (scans.Index rel) (scans.IndexRow new) (forced_told before b [] changed (rel ∷ []) rel (inl refl) (scans.Index rel) (same_told rel))
          (rel_told messages (cats_of None (Some row)) (Some (Rel new)) new refl (tells_in before b items (forms.Add row) (changed_in [] changed (rel ∷ []) (forms.Add row) (inr (inl refl)))) (scans.IndexRow new) (same_told new));
    })

-- the index's row may go, where its table is told
pub index_row_may_go : (before : List Entry) (b : ℕ) (gone : List Row) (changed : List Item) (forced : List Oid) (index table : Oid) (state : IndexState) (nums : List ℕ) → IsSound before → IsIn (rows.Ind index table state nums) (rows_of before b) → IsIn (rows.Ind index table state nums) gone
    → holds (held_of before) b index AccessExclusive ≡ true → holds (held_of before) b table AccessExclusive ≡ true → IsTold (messages_written before b (items_in gone changed forced)) table → MayGo before b (messages_written before b (items_in gone changed forced)) (rows.Ind index table state nums)
index_row_may_go before b gone changed forced index table state nums sound seen there has also told = record {
  seen = seen;
  locked = (has, (also, tt));
  told = two_covered messages (scans.Index table) (scans.IndexRow index) (told (scans.Index table) (same_told table))
      (sent_scan messages (rows.Ind index table state nums) (scans.IndexRow index) (gone_sent before b items (rows.Ind index table state nums) sound seen (gone_in gone changed forced (rows.Ind index table state nums) there)) (same_told index, refl));
}
  where
    items : List Item
    items = items_in gone changed forced

    messages : List Message
    messages = messages_written before b items

-- and so may a relation's own row
pub class_may_go : (before : List Entry) (b : ℕ) (gone : List Row) (changed : List Item) (forced : List Oid) (rel : Oid) (name : List ℕ) (kind : Kind) (fill : Option ℕ) → IsSound before → IsIn (rows.Class rel name kind fill) (rows_of before b) → IsIn (rows.Class rel name kind fill) gone
    → holds (held_of before) b rel AccessExclusive ≡ true → MayGo before b (messages_written before b (items_in gone changed forced)) (rows.Class rel name kind fill)
class_may_go before b gone changed forced rel name kind fill sound seen there has = record {
  seen = seen;
  locked = (has, tt);
  told = sent_told (messages_written before b (items_in gone changed forced)) (rows.Class rel name kind fill)
      (gone_sent before b (items_in gone changed forced) (rows.Class rel name kind fill) sound seen (gone_in gone changed forced (rows.Class rel name kind fill) there)) (sent_itself rel kind (rows.Class rel name kind fill) (refl, refl));
}

-- `drop index`: its row and its own row go, and its table is told
pub index_goes : (before : List Entry) (b : ℕ) (opened : List Opening) (rel table : Oid) (name : List ℕ) (fill : Option ℕ) (state : IndexState) (nums : List ℕ) → IsSound before → holds (held_of before) b rel AccessExclusive ≡ true → holds (held_of before) b table AccessExclusive ≡ true
    → IsIn (rows.Ind rel table state nums) (rows_of before b) → IsIn (rows.Class rel name Index fill) (rows_of before b) → MayAlter before b opened 0 None (items_in (rows.Ind rel table state nums ∷ rows.Class rel name Index fill ∷ []) [] (table ∷ []))
index_goes before b opened rel table name fill state nums sound has also seen named = parts_alter before b opened 0 None gone [] (table ∷ [])
    (parts_fit before b 0 gone [] (table ∷ []) sound refl refl (
      index_row_may_go before b gone [] (table ∷ []) rel table state nums sound seen (inl refl) has also (forced_told before b gone [] (table ∷ []) table (inl refl)),
      (class_may_go before b gone [] (table ∷ []) rel name Index fill sound named (inr (inl refl)) has, tt),
    ) tt)
    (leave_keep before b items (tt, (tt, (tt, tt))))
    (record {
      together = all_pass (goes_together before b items) items (
        or_right (takes_relation rel (taking (rows.Ind rel table state nums))) _ (or_left (same_oid rel rel) _ (same_told rel)),
        (or_right (not (is_of_index (row_with before b (keys.Class rel)))) _ (or_left (same_oid rel rel) _ (same_told rel)), (refl, tt)),
      );
    })
    tt (λ facts read own is. is) (λ c. refl) (omega arith)
  where
    gone : List Row
    gone = rows.Ind rel table state nums ∷ rows.Class rel name Index fill ∷ []

    items : List Item
    items = items_in gone [] (table ∷ [])
