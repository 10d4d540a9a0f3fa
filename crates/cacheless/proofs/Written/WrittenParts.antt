-- The items of a write in three parts: rows that it takes away, changes that give rows, and relations whose messages it forces. What it asks of them and what it keeps.
use Rattle.std.proofs.Common.{◌≡◌, ◌<◌, arith, ◌∙◌, ℕ, true, false, Option, Some, None, List, [], ◌∷◌, ◌++◌, ◌&&◌, refl, sym, ap, subst, map, length}
use Rattle.std.specs.Prelude.{⊤}
use Rattle.std.specs.List.{AllByRecursion, flat_map, list_any, list_all, range_with_len}
use Rattle.std.specs.Option.{IfSome, option_to_list}
use Rattle.std.specs.Str.{bytes_eq}
use Rattle.std.proofs.lemmas.Bool.{and_from, or_left, eq-eqb}
use Rattle.base_types.specs.RowKeys.{key_of, are_distinct_keys}
use Rattle.base_types.specs.Scans.{same_oid}
use Rattle.base_types.specs.declared.change.Change.{Change}
use Rattle.base_types.specs.declared.change.Change.TheVariants.{Delete}
use Rattle.event_kinds.specs.declared.entry.Item.TheVariants as forms
use Rattle.inval_messages.specs.declared.message.Message.{Message}
use Rattle.inval_messages.specs.declared.message.Message.TheVariants.{Rel}
use Rattle.inval_messages.specs.Changes.{messages_of}
use Rattle.inval_messages.specs.Messages.{covers}
use Rattle.inval_messages.proofs.Covers.{old_covered}
use Rattle.lock_modes.specs.Grants.{holds}
use Rattle.ddl_effect.specs.Drawing.{drawn_change}
use Rattle.history_model.specs.Changes.{item_of}
use Rattle.history_model.specs.Covered.{scans_of, is_covered}
use Rattle.history_model.specs.Drawn.{drawn_by, made_by, next_oid}
use Rattle.history_model.specs.Held.{held_of}
use Rattle.history_model.specs.Names.{new_name}
use Rattle.history_model.specs.Sound.{IsSound}
use Rattle.history_model.specs.Sent.{cats_by, rels_by, messages_written}
use Rattle.history_model.specs.Versions.{added_row, rows_of, old_row}
use Rattle.history_model.specs.Changing.{changed_key, relations_of}
use Rattle.history_model.proofs.Every.{every, every-weaker, every-append, every-map, any-right, some-left, some-right, some-map, some-weaker}
use Rattle.history_model.proofs.InOrder.{IsIn, of_in}
use Rattle.cacheless.specs.Types.{Oid, AccessExclusive, Row, Purpose, Entry, Item, Opening}
use Rattle.cacheless.specs.Locks.{locked_by}
use Rattle.cacheless.specs.State.{locks_made}
use Rattle.cacheless.specs.Plays.{drafted}
use Rattle.cacheless.specs.TableWrites.{AreNamesakes, AreCalledApart, KeepsColumns, KeepsIndexes, ShareName, AreNamedApart}
use Rattle.cacheless.proofs.Written.FitToWrite.{IsFit, Fits, KeepsAll, IsSent, taking, all_fit, all_pass, force_fits, removed_fits}
use Rattle.cacheless.proofs.Written.LeavingItems.{leaves_unnamed}
use Rattle.cacheless.proofs.Written.NamesGiven.{AreNamesGiven, names_of}
use Rattle.cacheless.proofs.Written.SeenRows.{seen_is_old}
use Rattle.cacheless.proofs.Written.WrittenMessages.{Tell, written_tell}

-- the items: what takes rows away, what gives rows, what forces messages
abbrev pub items_in : List Row → List Item → List Oid → List Item
items_in gone changed forced = map taking gone ++ changed ++ map forms.Force forced

-- what holds of each part holds of all
pub every_part : (P : Item → Type 0) (gone : List Row) (changed : List Item) (forced : List Oid) → AllByRecursion (λ row. P (taking row)) gone → AllByRecursion P changed → ((rel : Oid) → P (forms.Force rel)) → AllByRecursion P (items_in gone changed forced)
every_part P gone changed forced one two three = every-append P (map taking gone ++ changed) (map forms.Force forced)
    (every-append P (map taking gone) changed (every-map P taking gone one) two) (every-map P forms.Force forced (every (λ rel. P (forms.Force rel)) three forced))

-- what forced messages don't have is what the items before them have
forced_flat : {Y : Type 0} (f : Item → List Y) (items : List Item) (forced : List Oid) → ((rel : Oid) → f (forms.Force rel) ≡ []) → flat_map f (items ++ map forms.Force forced) ≡ flat_map f items
forced_flat f (item ∷ items) forced none = ap (λ l. f item ++ l) (forced_flat f items forced none)
forced_flat f [] [] none = refl
forced_flat f [] (rel ∷ forced) none = (λ i. none rel i ++ flat_map f (map forms.Force forced)) ∙ forced_flat f [] forced none

-- and what rows that go don't have is what the changes in the middle have
pub parts_flat : {Y : Type 0} (f : Item → List Y) (gone : List Row) (changed : List Item) (forced : List Oid) → ((row : Row) → f (taking row) ≡ []) → ((rel : Oid) → f (forms.Force rel) ≡ []) → flat_map f (items_in gone changed forced) ≡ flat_map f changed
parts_flat f [] changed forced none also = forced_flat f changed forced also
parts_flat f (row ∷ gone) changed forced none also = (λ i. none row i ++ flat_map f (items_in gone changed forced)) ∙ parts_flat f gone changed forced none also

parts_keys : (gone : List Row) (changed : List Item) (forced : List Oid) → flat_map changed_key (items_in gone changed forced) ≡ map key_of gone ++ flat_map changed_key changed
parts_keys [] changed forced = forced_flat changed_key changed forced (λ rel. refl)
parts_keys (row ∷ gone) changed forced = ap (λ l. key_of row ∷ l) (parts_keys gone changed forced)

-- the messages of a change are among those of the write
pub tells_in : (before : List Entry) (b : ℕ) (items : List Item) (item : Item) → IsIn item items → Tell (messages_written before b items) (cats_by before b item ++ rels_by before b item)
tells_in before b items item there = of_in (λ x. Tell (messages_written before b items) (cats_by before b x ++ rels_by before b x)) item items (written_tell before b items) there

pub gone_in : (gone : List Row) (changed : List Item) (forced : List Oid) (row : Row) → IsIn row gone → IsIn (taking row) (items_in gone changed forced)
gone_in gone changed forced row there = some-left (λ x. taking row ≡ x) (map taking gone ++ changed) (map forms.Force forced)
    (some-left (λ x. taking row ≡ x) (map taking gone) changed (some-map (λ x. taking row ≡ x) taking gone (some-weaker (λ x. row ≡ x) (λ x. taking row ≡ taking x) (λ x same. ap taking same) gone there)))

pub changed_in : (gone : List Row) (changed : List Item) (forced : List Oid) (item : Item) → IsIn item changed → IsIn item (items_in gone changed forced)
changed_in gone changed forced item there = some-left (λ x. item ≡ x) (map taking gone ++ changed) (map forms.Force forced) (some-right (λ x. item ≡ x) (map taking gone) changed there)

pub forced_in : (gone : List Row) (changed : List Item) (forced : List Oid) (rel : Oid) → IsIn rel forced → IsIn (forms.Force rel) (items_in gone changed forced)
forced_in gone changed forced rel there = some-right (λ x. forms.Force rel ≡ x) (map taking gone ++ changed) (map forms.Force forced)
    (some-map (λ x. forms.Force rel ≡ x) forms.Force forced (some-weaker (λ x. rel ≡ x) (λ x. forms.Force rel ≡ forms.Force x) (λ x same. ap forms.Force same) forced there))

-- the message for a relation's descriptor is sent
abbrev pub IsTold : List Message → Oid → Type 0
IsTold messages rel = (scan : Purpose) → covers scan (Rel rel) ≡ true → is_covered messages scan ≡ true

pub rel_told : (messages cats : List Message) (o : Option Message) (rel : Oid) → o ≡ Some (Rel rel) → Tell messages (cats ++ option_to_list o) → IsTold messages rel
rel_told messages cats o rel is tell = λ scan covered. tell (covers scan) (any-right (covers scan) cats (option_to_list o) (ap (λ m. list_any (covers scan) (option_to_list m)) is ∙ or_left (covers scan (Rel rel)) false covered))

-- so is that of a relation that is forced to send it
pub forced_told : (before : List Entry) (b : ℕ) (gone : List Row) (changed : List Item) (forced : List Oid) (rel : Oid) → IsIn rel forced → IsTold (messages_written before b (items_in gone changed forced)) rel
forced_told before b gone changed forced rel there = rel_told (messages_written before b (items_in gone changed forced)) [] (Some (Rel rel)) rel refl (tells_in before b (items_in gone changed forced) (forms.Force rel) (forced_in gone changed forced rel there))

-- the row's own messages
pub gone_sent : (before : List Entry) (b : ℕ) (items : List Item) (row : Row) → IsSound before → IsIn row (rows_of before b) → IsIn (taking row) items → Tell (messages_written before b items) (messages_of (Some row) None)
gone_sent before b items row sound seen there = subst (λ o. Tell (messages_written before b items) (messages_of o None)) (seen_is_old before b (taking row) row sound refl seen) (tells_in before b items (taking row) there)

pub sent_scan : (messages : List Message) (row : Row) (scan : Purpose) → Tell messages (messages_of (Some row) None) → IsSent row scan → is_covered messages scan ≡ true
sent_scan messages row scan tell is = tell (covers scan) (old_covered scan row None refl is.0 is.1)

-- so all scans that give it may be covered
pub sent_told : (messages : List Message) (row : Row) → Tell messages (messages_of (Some row) None) → AllByRecursion (IsSent row) (scans_of row) → list_all (is_covered messages) (scans_of row) ≡ true
sent_told messages row tell sent = all_pass (is_covered messages) (scans_of row) (every-weaker (IsSent row) (λ scan. is_covered messages scan ≡ true) (λ scan is. sent_scan messages row scan tell is) (scans_of row) sent)

-- a scan that a relation's message covers
pub same_told : (rel : Oid) → same_oid rel rel ≡ true
same_told rel = eq-eqb rel.0 rel.0 refl

pub one_covered : (messages : List Message) (scan : Purpose) → is_covered messages scan ≡ true → list_all (is_covered messages) (scan ∷ []) ≡ true
one_covered messages scan one = and_from (is_covered messages scan) true one refl

pub two_covered : (messages : List Message) (scan other : Purpose) → is_covered messages scan ≡ true → is_covered messages other ≡ true → list_all (is_covered messages) (scan ∷ other ∷ []) ≡ true
two_covered messages scan other one two = and_from (is_covered messages scan) (is_covered messages other && true) one (one_covered messages other two)

-- a row may be taken away: it is seen, the relations that it names are locked, and the scans that give it are covered
pub record MayGo (before : List Entry) (b : ℕ) (messages : List Message) (row : Row) : Type 0 where
  pub seen : IsIn row (rows_of before b)
  pub locked : AllByRecursion (λ rel. holds (held_of before) b rel AccessExclusive ≡ true) (relations_of row)
  pub told : list_all (is_covered messages) (scans_of row) ≡ true

-- parts that fit make items that fit
pub parts_fit : (before : List Entry) (b count : ℕ) (gone : List Row) (changed : List Item) (forced : List Oid) → IsSound before → flat_map drawn_by changed ≡ range_with_len (next_oid before) count → are_distinct_keys (map key_of gone ++ flat_map changed_key changed) ≡ true
    → AllByRecursion (MayGo before b (messages_written before b (items_in gone changed forced))) gone → AllByRecursion (Fits before b (flat_map made_by changed) (messages_written before b (items_in gone changed forced))) changed → IsFit before b count (items_in gone changed forced)
parts_fit before b count gone changed forced sound draws distinct may fit = all_fit before b count items (parts_flat drawn_by gone changed forced (λ row. refl) (λ rel. refl) ∙ draws)
    (ap are_distinct_keys (parts_keys gone changed forced) ∙ distinct)
    (subst (λ made. AllByRecursion (Fits before b made messages) items) (sym (parts_flat made_by gone changed forced (λ row. refl) (λ rel. refl)))
    (every_part (Fits before b made messages) gone changed forced
    (every-weaker (MayGo before b messages) (λ row. Fits before b made messages (taking row)) (λ row m. removed_fits before b made messages row sound m.seen m.locked m.told) gone may) fit (force_fits before b made messages)))
  where
    items : List Item
    items = items_in gone changed forced

    messages : List Message
    messages = messages_written before b items

    made : List Oid
    made = flat_map made_by changed

-- no row that a change gives is so related to one that this gives
abbrev AreNot : (Row → Row → Type 0) → Item → List Item → Type 0
AreNot R item items = AllByRecursion (λ later. IfSome (added_row item) (λ row. IfSome (added_row later) (λ other. R row other → ⊥))) items

forced_not : (R : Row → Row → Type 0) (o : Option Row) (forced : List Oid) → AllByRecursion (λ later. IfSome o (λ row. IfSome (added_row later) (λ other. R row other → ⊥))) (map forms.Force forced)
forced_not R o [] = tt
forced_not R None (rel ∷ forced) = (tt, forced_not R None forced)
forced_not R (Some row) (rel ∷ forced) = (tt, forced_not R (Some row) forced)

none_not : (R : Row → Row → Type 0) (row : Row) (items : List Item) → AreNot R (taking row) items
none_not R row items = every (λ later. ⊤) (λ later. tt) items

-- the changes that give rows give no name to two relations, so none does
named_forced : (items : List Item) (forced : List Oid) → AreNamedApart items → AreNamedApart (items ++ map forms.Force forced)
named_forced [] [] apart = tt
named_forced [] (rel ∷ forced) apart = (every (λ later. ⊤) (λ later. tt) (map forms.Force forced), named_forced [] forced apart)
named_forced (item ∷ items) forced apart = (every-append (λ later. IfSome (added_row item) (λ row. IfSome (added_row later) (λ other. ShareName row other → ⊥))) items (map forms.Force forced) apart.0 (forced_not ShareName (added_row item) forced), named_forced items forced apart.1)

pub parts_apart : (gone : List Row) (changed : List Item) (forced : List Oid) → AreNamedApart changed → AreNamedApart (items_in gone changed forced)
parts_apart [] changed forced apart = named_forced changed forced apart
parts_apart (row ∷ gone) changed forced apart = (none_not ShareName row (items_in gone changed forced), parts_apart gone changed forced apart)

-- nor the name of one column to two
called_forced : (items : List Item) (forced : List Oid) → AreCalledApart items → AreCalledApart (items ++ map forms.Force forced)
called_forced [] [] apart = tt
called_forced [] (rel ∷ forced) apart = (every (λ later. ⊤) (λ later. tt) (map forms.Force forced), called_forced [] forced apart)
called_forced (item ∷ items) forced apart = (every-append (λ later. IfSome (added_row item) (λ row. IfSome (added_row later) (λ other. AreNamesakes row other → ⊥))) items (map forms.Force forced) apart.0 (forced_not AreNamesakes (added_row item) forced), called_forced items forced apart.1)

pub parts_called : (gone : List Row) (changed : List Item) (forced : List Oid) → AreCalledApart changed → AreCalledApart (items_in gone changed forced)
parts_called [] changed forced apart = called_forced changed forced apart
parts_called (row ∷ gone) changed forced apart = (none_not AreNamesakes row (items_in gone changed forced), parts_called gone changed forced apart)

-- items that may be written, but for that their write is the first of its command, which opened these descriptors: they keep tables, give no relation a new name but one that their plan names, and lock no relation but the one that they make, if they make one
pub record MayAlter (before : List Entry) (b : ℕ) (opened : List Opening) (count : ℕ) (made : Option Oid) (items : List Item) : Type 0 where
  pub fit : IsFit before b count items
  pub keeps : KeepsAll before b items
  pub named : AreNamesGiven before b opened items
  pub locked : (c : ℕ) → flat_map (locked_by c) items ≡ locks_made c made
  pub some : 0 < length items

-- so are parts of which the changes in the middle are such
pub parts_alter : (before : List Entry) (b : ℕ) (opened : List Opening) (count : ℕ) (made : Option Oid) (gone : List Row) (changed : List Item) (forced : List Oid) → IsFit before b count (items_in gone changed forced) → KeepsColumns before b (items_in gone changed forced)
    → KeepsIndexes before b (items_in gone changed forced) → AreNamedApart changed → AreNamesGiven before b opened changed → ((c : ℕ) → flat_map (locked_by c) changed ≡ locks_made c made) → 0 < length (items_in gone changed forced) → MayAlter before b opened count made (items_in gone changed forced)
parts_alter before b opened count made gone changed forced fit columns indexes apart named locked some = record {
  fit = fit;
  keeps = record { columns = columns; indexes = indexes; names = parts_apart gone changed forced apart };
  named = λ facts read name is. subst (λ l. list_any (bytes_eq name) l ≡ true) (sym (parts_flat (names_of facts) gone changed forced (λ row. refl) (λ rel. refl)))
      (named facts read name (subst (λ l. list_any (bytes_eq name) l ≡ true)
      (parts_flat (λ item. new_name (old_row before b item) (added_row item)) gone changed forced (λ row. leaves_unnamed before b (taking row) tt) (λ rel. refl)) is));
  locked = λ c. parts_flat (locked_by c) gone changed forced (λ row. refl) (λ rel. refl) ∙ locked c;
  some = some;
}

-- a row at most has one key
pub one_key : (o : Option Row) → are_distinct_keys (map key_of (option_to_list o)) ≡ true
one_key None = refl
one_key (Some row) = refl

-- a change in the middle makes them some
pub parts_some : (gone : List Row) (item : Item) (changed : List Item) (forced : List Oid) → 0 < length (items_in gone (item ∷ changed) forced)
parts_some [] item changed forced = omega arith
parts_some (row ∷ gone) item changed forced = omega arith

-- the items of a draft whose changes take rows away and then change others
pub parts_drafted : (next count : ℕ) (gone : List Row) (changes : List Change) (forced : List Oid) → drafted next (record { changes = map (λ row. Delete (key_of row)) gone ++ changes; forced = forced; new_oids = count }) ≡ items_in gone (map item_of (map (drawn_change next count) changes)) forced
parts_drafted next count gone changes forced = ap (λ l. l ++ map forms.Force forced) (front gone)
  where
    front : (rows : List Row) → map item_of (map (drawn_change next count) (map (λ row. Delete (key_of row)) rows ++ changes)) ≡ map taking rows ++ map item_of (map (drawn_change next count) changes)
    front [] = refl
    front (row ∷ rows) = ap (λ l. taking row ∷ l) (front rows)
