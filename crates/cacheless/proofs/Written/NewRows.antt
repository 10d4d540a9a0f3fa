-- A default, a constraint or a trigger that a command adds may be written: its oid is new, and the locks that are held are enough for it.
use Rattle.std.proofs.Common.{◌≡◌, ◌∙◌, inl, ℕ, Bool, true, false, Option, Some, None, List, [], ◌∷◌, ◌++◌, ◌||◌, refl, sym, ap, map, arith}
use Rattle.std.specs.Prelude.{⊤}
use Rattle.std.specs.List.{AllByRecursion, flat_map, list_any, list_all}
use Rattle.std.specs.Option.{option_to_list}
use Rattle.std.proofs.lemmas.Bool.{or_left, or_right, or_from}
use Rattle.base_types.specs.RowKeys.{key_of, same_key, are_distinct_keys}
use Rattle.base_types.specs.Scans.{same_oid}
use Rattle.base_types.specs.declared.mode.Mode.TheVariants.{ShareRowExclusive}
use Rattle.base_types.specs.declared.row.ConKind.TheVariants as demands
use Rattle.base_types.specs.declared.row.Row.TheVariants as rows
use Rattle.base_types.specs.declared.row_key.RowKey.{RowKey}
use Rattle.base_types.specs.declared.scan.Purpose.TheVariants as scans
use Rattle.event_kinds.specs.declared.entry.Item.TheVariants as forms
use Rattle.inval_messages.specs.declared.message.Message.{Message}
use Rattle.inval_messages.specs.declared.message.Message.TheVariants.{Rel}
use Rattle.lock_modes.specs.Grants.{holds}
use Rattle.history_model.specs.Covered.{scans_of, is_covered}
use Rattle.history_model.specs.Drawn.{drawn_by, made_by, next_oid}
use Rattle.history_model.specs.Held.{held_of}
use Rattle.history_model.specs.Orderly.{has_key, is_apart}
use Rattle.history_model.specs.Sound.{IsSound}
use Rattle.history_model.specs.Sent.{messages_written}
use Rattle.history_model.specs.Versions.{versions_of, sees, rows_of}
use Rattle.history_model.specs.Changing.{relations_of, modes_enough}
use Rattle.history_model.proofs.Asking.{oid_eq}
use Rattle.history_model.proofs.DistinctKeys.{distinct_both}
use Rattle.history_model.proofs.DrawnKeys.{key_oid, new_key}
use Rattle.history_model.proofs.Every.{every-weaker, every-map, from_some, none-any}
use Rattle.history_model.proofs.InOrder.{IsIn}
use Rattle.cacheless.specs.Types.{Oid, Mode, AccessExclusive, Row, Entry, Item, Opening}
use Rattle.cacheless.specs.TableWrites.{takes_whole, goes_together}
use Rattle.cacheless.proofs.VersionsStay.{version_seen}
use Rattle.cacheless.proofs.Written.FitToWrite.{IsGuardedOn, added_fits, taking, all_pass}
use Rattle.cacheless.proofs.Written.LeavingItems.{IsNoColumn, LeavesColumns, leave_keep, IsNoRelation, LeavesRelations, leave_apart, leave_lockless, leave_unnamed}
use Rattle.cacheless.proofs.Written.NamesGiven.{names_none}
use Rattle.cacheless.proofs.Written.SeenRows.{IsGiven}
use Rattle.cacheless.proofs.Written.WrittenParts.{items_in, every_part, MayGo, parts_fit, MayAlter, parts_alter, parts_some, IsTold, rel_told, forced_told, tells_in, changed_in, one_key, one_covered, two_covered, same_told}

-- the row is a default, a constraint or a trigger
abbrev pub HasOwnOid : Row → Type 0
HasOwnOid (rows.Def oid rel num word) = ⊤
HasOwnOid (rows.Con oid rel name valid what) = ⊤
HasOwnOid (rows.Trg oid rel name on) = ⊤
HasOwnOid row = ⊥

own_drawn : (row : Row) → HasOwnOid row → drawn_by (forms.Add row) ≡ (key_oid (key_of row)).0 ∷ []
own_drawn (rows.Class oid name kind fill) own = absurd own
own_drawn (rows.Att rel num name col_type stat live) own = absurd own
own_drawn (rows.Ind index table state nums) own = absurd own
own_drawn row own = refl

own_apart : (row : Row) → HasOwnOid row → is_apart row ≡ true
own_apart (rows.Ind index table state nums) own = absurd own
own_apart row own = refl

own_column : (row : Row) → HasOwnOid row → IsNoColumn row
own_column (rows.Att rel num name col_type stat live) own = absurd own
own_column row own = tt

own_relation : (row : Row) → HasOwnOid row → IsNoRelation row
own_relation (rows.Class oid name kind fill) own = absurd own
own_relation row own = tt

-- the change that takes such a row away takes no column, and no part of an index
pub own_leaves : (row : Row) → HasOwnOid row → LeavesColumns (taking row)
own_leaves (rows.Class oid name kind fill) own = absurd own
own_leaves (rows.Att rel num name col_type stat live) own = absurd own
own_leaves (rows.Ind index table state nums) own = absurd own
own_leaves row own = tt

pub own_whole : (items : List Item) (row : Row) → HasOwnOid row → takes_whole items (taking row) ≡ true
own_whole items (rows.Class oid name kind fill) own = absurd own
own_whole items (rows.Att rel num name col_type stat live) own = absurd own
own_whole items row own = refl

pub own_together : (before : List Entry) (b : ℕ) (items : List Item) (row : Row) → HasOwnOid row → goes_together before b items (taking row) ≡ true
own_together before b items (rows.Class oid name kind fill) own = absurd own
own_together before b items (rows.Att rel num name col_type stat live) own = absurd own
own_together before b items (rows.Ind index table state nums) own = absurd own
own_together before b items row own = refl

added_together : (before : List Entry) (b : ℕ) (items : List Item) (row : Row) → HasOwnOid row → goes_together before b items (forms.Add row) ≡ true
added_together before b items (rows.Class oid name kind fill) own = absurd own
added_together before b items (rows.Att rel num name col_type stat live) own = absurd own
added_together before b items (rows.Ind index table state nums) own = absurd own
added_together before b items row own = refl

-- a row that is seen hasn't a key that no version has
pub unseen_key : (before : List Entry) (b : ℕ) (key : RowKey) (row : Row) → has_key before key ≡ false → IsIn row (rows_of before b) → same_key (key_of row) key ≡ false
unseen_key before b key row none seen = from_some (λ v. (row ≡ v.row) × (sees before b v ≡ true)) (same_key (key_of row) key ≡ false) (versions_of before)
    (every-weaker (λ v. same_key (key_of v.row) key ≡ false) (λ v. (row ≡ v.row) × (sees before b v ≡ true) → same_key (key_of row) key ≡ false) (λ v is both. ap (λ r. same_key (key_of r) key) both.0 ∙ is) (versions_of before)
    (none-any (λ v. same_key (key_of v.row) key) (versions_of before) none)) (version_seen (λ r. row ≡ r) before b seen)

-- a row with a new oid, on whose relations modes are held that are enough for it
pub record NewRow (before : List Entry) (b : ℕ) (row : Row) : Type 0 where
  pub own : HasOwnOid row
  pub oid : (key_oid (key_of row)).0 ≡ next_oid before
  pub guarded : AllByRecursion (λ rel. list_any (holds (held_of before) b rel) (modes_enough None (forms.Add row) rel) ≡ true) (relations_of row)

-- it may be added, where others like it go
pub new_alters : (before : List Entry) (b : ℕ) (opened : List Opening) (gone : List Row) (row : Row) (forced : List Oid) → IsSound before → NewRow before b row → AllByRecursion HasOwnOid gone → are_distinct_keys (map key_of gone) ≡ true
    → AllByRecursion (MayGo before b (messages_written before b (items_in gone (forms.Add row ∷ []) forced))) gone → list_all (is_covered (messages_written before b (items_in gone (forms.Add row ∷ []) forced))) (scans_of row) ≡ true
    → MayAlter before b opened 1 None (items_in gone (forms.Add row ∷ []) forced)
new_alters before b opened gone row forced sound new own distinct may told = parts_alter before b opened 1 None gone changed forced
    (parts_fit before b 1 gone changed forced sound (ap (λ l. l ++ []) (own_drawn row new.own) ∙ ap (λ n. n ∷ []) new.oid)
    (distinct_both (map key_of gone) (key_of row ∷ []) distinct refl (every-map (λ key. list_any (same_key key) (key_of row ∷ []) ≡ false) key_of gone
    (every-weaker (MayGo before b messages) (λ r. list_any (same_key (key_of r)) (key_of row ∷ []) ≡ false) (λ r m. or_from (same_key (key_of r) (key_of row)) false (unseen_key before b (key_of row) r free m.seen) refl) gone may)))
    may (
      added_fits before b (flat_map made_by changed) messages row (record {
        fresh = free;
        apart = own_apart row new.own;
        guarded = every-weaker (λ rel. list_any (holds (held_of before) b rel) (modes_enough None (forms.Add row) rel) ≡ true) (IsGuardedOn before b (flat_map made_by changed) None (forms.Add row))
            (λ rel has. or_right (list_any (same_oid rel) (flat_map made_by changed)) (list_any (holds (held_of before) b rel) (modes_enough None (forms.Add row) rel)) has) (relations_of row) new.guarded;
        told = told;
      }),
      tt,
    ))
    (leave_keep before b items (every_part LeavesColumns gone changed forced (every-weaker HasOwnOid (λ r. LeavesColumns (taking r)) own_leaves gone own) (own_column row new.own, tt) (λ rel. tt)))
    (record {
      together = all_pass (goes_together before b items) items (every_part (λ item. goes_together before b items item ≡ true) gone changed forced
          (every-weaker HasOwnOid (λ r. goes_together before b items (taking r) ≡ true) (own_together before b items) gone own) (added_together before b items row new.own, tt) (λ rel. refl));
    })
    (leave_apart changed leaves) (names_none before b opened changed (leave_unnamed before b changed leaves)) (λ c. leave_lockless c changed leaves) (parts_some gone (forms.Add row) [] forced)
  where
    changed : List Item
    changed = forms.Add row ∷ []

    items : List Item
    items = items_in gone changed forced

    messages : List Message
    messages = messages_written before b items

    leaves : AllByRecursion LeavesRelations changed
    leaves = (own_relation row new.own, tt)

    free : has_key before (key_of row) ≡ false
    free = new_key before (key_of row) sound (omega (arith, new.oid))

-- a mode that is enough for the change is held
strong_added : (p : Bool) → p ≡ true → (p || false) ≡ true
strong_added p is = or_left p false is

-- the oid that is drawn next
abbrev pub oid_drawn : List Entry → Oid
oid_drawn before = record { 0 = next_oid before }

-- a default that a column had goes where it gets one
pub default_may_go : (before : List Entry) (b : ℕ) (rel : Oid) (messages : List Message) (row : Row) → holds (held_of before) b rel AccessExclusive ≡ true → IsTold messages rel → IsGiven before b (scans.AttrDef rel) row → HasOwnOid row × MayGo before b messages row
default_may_go before b rel messages (rows.Def oid of num word) has told given =
    let same : rel ≡ of = sym (oid_eq of rel given.1) in
    (tt, record { seen = given.0; locked = (ap (λ o. holds (held_of before) b o AccessExclusive) (sym same) ∙ has, tt); told = one_covered messages (scans.AttrDef of) (told (scans.AttrDef of) (ap (λ o. same_oid rel o) (sym same) ∙ same_told rel)) })
default_may_go before b rel messages row has told given = absurd (cc given.1)

-- `set default`
pub default_alters : (before : List Entry) (b : ℕ) (opened : List Opening) (rel : Oid) (num : ℕ) (word : List ℕ) (old : Option Row) → IsSound before → holds (held_of before) b rel AccessExclusive ≡ true → AllByRecursion (IsGiven before b (scans.AttrDef rel)) (option_to_list old)
    → MayAlter before b opened 1 None (items_in (option_to_list old) (forms.Add (rows.Def (oid_drawn before) rel num word) ∷ []) (rel ∷ []))
default_alters before b opened rel num word old sound has given = new_alters before b opened (option_to_list old) new (rel ∷ []) sound
    (record { own = tt; oid = refl; guarded = (strong_added (holds (held_of before) b rel AccessExclusive) has, tt) })
    (every-weaker (IsGiven before b (scans.AttrDef rel)) HasOwnOid (λ row is. (default_may_go before b rel messages row has told is).0) (option_to_list old) given) (one_key old)
    (every-weaker (IsGiven before b (scans.AttrDef rel)) (MayGo before b messages) (λ row is. (default_may_go before b rel messages row has told is).1) (option_to_list old) given)
    (one_covered messages (scans.AttrDef rel) (told (scans.AttrDef rel) (same_told rel)))
  where
    new : Row
    new = rows.Def (oid_drawn before) rel num word

    messages : List Message
    messages = messages_written before b (items_in (option_to_list old) (forms.Add new ∷ []) (rel ∷ []))

    told : IsTold messages rel
    told = forced_told before b (option_to_list old) (forms.Add new ∷ []) (rel ∷ []) rel (inl refl)

-- `add constraint .. check`
pub check_alters : (before : List Entry) (b : ℕ) (opened : List Opening) (rel : Oid) (name : List ℕ) (valid : Bool) (text : List ℕ) → IsSound before → holds (held_of before) b rel AccessExclusive ≡ true
    → MayAlter before b opened 1 None (items_in [] (forms.Add (rows.Con (oid_drawn before) rel name valid (demands.Check text)) ∷ []) (rel ∷ []))
check_alters before b opened rel name valid text sound has = new_alters before b opened [] new (rel ∷ []) sound
    (record { own = tt; oid = refl; guarded = (strong_added (holds (held_of before) b rel AccessExclusive) has, tt) }) tt refl tt
    (one_covered messages (scans.Constraint rel) (forced_told before b [] (forms.Add new ∷ []) (rel ∷ []) rel (inl refl) (scans.Constraint rel) (same_told rel)))
  where
    new : Row
    new = rows.Con (oid_drawn before) rel name valid (demands.Check text)

    messages : List Message
    messages = messages_written before b (items_in [] (forms.Add new ∷ []) (rel ∷ []))

weak_added : (p : Mode → Bool) → p ShareRowExclusive ≡ true → list_any p (ShareRowExclusive ∷ AccessExclusive ∷ []) ≡ true
weak_added p is = or_left (p ShareRowExclusive) (p AccessExclusive || false) is

-- `add constraint .. foreign key`: it tells its own table, and the other is told
pub foreign_alters : (before : List Entry) (b : ℕ) (opened : List Opening) (rel other : Oid) (name : List ℕ) (valid : Bool) (num other_num : ℕ) → IsSound before → holds (held_of before) b rel ShareRowExclusive ≡ true → holds (held_of before) b other ShareRowExclusive ≡ true
    → MayAlter before b opened 1 None (items_in [] (forms.Add (rows.Con (oid_drawn before) rel name valid (demands.Foreign num other other_num)) ∷ []) (other ∷ []))
foreign_alters before b opened rel other name valid num other_num sound has also = new_alters before b opened [] new (other ∷ []) sound
    (record { own = tt; oid = refl; guarded = (weak_added (holds (held_of before) b rel) has, (weak_added (holds (held_of before) b other) also, tt)) }) tt refl tt
    (two_covered messages (scans.Constraint rel) (scans.Constraint other)
    (rel_told messages [] (Some (Rel rel)) rel refl (tells_in before b items (forms.Add new) (changed_in [] (forms.Add new ∷ []) (other ∷ []) (forms.Add new) (inl refl))) (scans.Constraint rel) (same_told rel))
    (forced_told before b [] (forms.Add new ∷ []) (other ∷ []) other (inl refl) (scans.Constraint other) (same_told other)))
  where
    new : Row
    new = rows.Con (oid_drawn before) rel name valid (demands.Foreign num other other_num)

    items : List Item
    items = items_in [] (forms.Add new ∷ []) (other ∷ [])

    messages : List Message
    messages = messages_written before b items

-- `create trigger`
pub trigger_alters : (before : List Entry) (b : ℕ) (opened : List Opening) (rel : Oid) (name : List ℕ) → IsSound before → holds (held_of before) b rel ShareRowExclusive ≡ true
    → MayAlter before b opened 1 None (items_in [] (forms.Add (rows.Trg (oid_drawn before) rel name true) ∷ []) (rel ∷ []))
trigger_alters before b opened rel name sound has = new_alters before b opened [] new (rel ∷ []) sound
    (record { own = tt; oid = refl; guarded = (weak_added (holds (held_of before) b rel) has, tt) }) tt refl tt
    (one_covered messages (scans.Trigger rel) (forced_told before b [] (forms.Add new ∷ []) (rel ∷ []) rel (inl refl) (scans.Trigger rel) (same_told rel)))
  where
    new : Row
    new = rows.Trg (oid_drawn before) rel name true

    messages : List Message
    messages = messages_written before b (items_in [] (forms.Add new ∷ []) (rel ∷ []))
