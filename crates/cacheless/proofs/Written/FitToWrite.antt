-- What a write asks of its items, and of each one alone.
use Rattle.std.proofs.Common.{◌≡◌, ◌∙◌, ℕ, ℤ, Bool, true, false, Option, Some, None, List, [], ◌∷◌, ◌++◌, ◌||◌, refl, sym, ap, subst}
use Rattle.std.specs.List.{AllByRecursion, flat_map, filter_map, cons_option, list_any, list_all, range_with_len}
use Rattle.std.specs.Str.{bytes_eq}
use Rattle.std.specs.Option.{option_map_or, option_to_list, IfSome}
use Rattle.std.proofs.lemmas.Bool.{and_from, or_left, or_right, eq-eqb}
use Rattle.std.proofs.lemmas.Slice.Eq.{bytes_eq-Decides}
use Rattle.base_types.specs.RowKeys.{key_of, are_distinct_keys}
use Rattle.base_types.specs.Scans.{same_oid, selects}
use Rattle.base_types.specs.declared.col_type.ColType.{ColType}
use Rattle.base_types.specs.declared.kind.Kind.{Kind}
use Rattle.base_types.specs.declared.kind.Kind.TheVariants.{Table, Index}
use Rattle.base_types.specs.declared.mode.Mode.TheVariants.{ShareUpdateExclusive}
use Rattle.base_types.specs.declared.row.ConKind.TheVariants as demands
use Rattle.base_types.specs.declared.row.Row.TheVariants as rows
use Rattle.base_types.specs.declared.row_key.RowKey.TheVariants as keys
use Rattle.event_kinds.specs.declared.entry.Item.TheVariants as forms
use Rattle.inval_messages.specs.declared.message.Message.{Message}
use Rattle.inval_messages.specs.declared.message.Message.TheVariants.{Rel}
use Rattle.inval_messages.specs.Changes.{rel_for, messages_of}
use Rattle.inval_messages.specs.Messages.{covers}
use Rattle.inval_messages.proofs.Covers.{sends_itself, new_covered, old_covered}
use Rattle.lock_modes.specs.Grants.{holds}
use Rattle.history_model.specs.Covered.{scans_of, is_covered, same_row}
use Rattle.history_model.specs.Drawn.{drawn_by, made_by, next_oid}
use Rattle.history_model.specs.Held.{held_of}
use Rattle.history_model.specs.Orderly.{main_rel, has_key, is_fresh, is_apart, keeps_relation, scans_told, IsOrderlyWrite}
use Rattle.history_model.specs.Sound.{IsSound}
use Rattle.history_model.specs.Sent.{cats_by, rels_by, messages_written}
use Rattle.history_model.specs.Versions.{ended_key, rows_of, old_row}
use Rattle.history_model.specs.Changing.{changed_key, relations_of, relations_changed, validates, is_validation, rows_named, update_where, weaker_mode, enough_with, modes_enough, same_kind}
use Rattle.history_model.specs.Writes.{has_row, is_guarded, keeps_kind}
use Rattle.history_model.proofs.Covering.{flat_all, fewer_told, same_itself}
use Rattle.history_model.proofs.Every.{every-weaker}
use Rattle.history_model.proofs.InOrder.{IsIn}
use Rattle.cacheless.specs.Types.{Oid, Mode, AccessExclusive, Row, Purpose, Entry, Item}
use Rattle.cacheless.specs.TableWrites.{KeepsColumns, KeepsIndexes, AreNamedApart}
use Rattle.cacheless.proofs.Written.WrittenMessages.{Tell}
use Rattle.cacheless.proofs.Written.SeenRows.{seen_is_old}

-- what a write asks of its items, but for new names and that it is the first of its command: so many new oids, no key twice, rows that are seen, the kinds of relations, locks, and what the commands keep
pub record IsFit (before : List Entry) (b count : ℕ) (items : List Item) : Type 0 where
  pub oids : flat_map drawn_by items ≡ range_with_len (next_oid before) count
  pub keys : are_distinct_keys (flat_map changed_key items) ≡ true
  pub there : list_all (has_row before b) (filter_map ended_key items) ≡ true
  pub kinds : list_all (keeps_kind before b) items ≡ true
  pub guarded : list_all (is_guarded before b (flat_map made_by items)) items ≡ true
  pub orderly : IsOrderlyWrite before b items

-- what a write keeps of tables
pub record KeepsAll (before : List Entry) (b : ℕ) (items : List Item) : Type 0 where
  pub columns : KeepsColumns before b items
  pub indexes : KeepsIndexes before b items
  pub names : AreNamedApart items

-- what it asks of one, where the write makes these relations and sends these messages
pub record Fits (before : List Entry) (b : ℕ) (made : List Oid) (messages : List Message) (item : Item) : Type 0 where
  pub there : IfSome (ended_key item) (λ key. has_row before b key ≡ true)
  pub kinds : keeps_kind before b item ≡ true
  pub guarded : is_guarded before b made item ≡ true
  pub fresh : is_fresh before item ≡ true
  pub keeps : keeps_relation before b item ≡ true
  pub told : list_all (is_covered messages) (flat_map (scans_told (is_validation (old_row before b item) item)) (rows_named item (old_row before b item))) ≡ true

-- what each element passes all pass
pub all_pass : {X : Type 0} (p : X → Bool) (xs : List X) → AllByRecursion (λ x. p x ≡ true) xs → list_all p xs ≡ true
all_pass p [] all = refl
all_pass p (x ∷ xs) all = and_from (p x) (list_all p xs) all.0 (all_pass p xs all.1)

all_some : {X Y : Type 0} (p : Y → Bool) (f : X → Option Y) (xs : List X) → AllByRecursion (λ x. IfSome (f x) (λ y. p y ≡ true)) xs → list_all p (filter_map f xs) ≡ true
all_some p f [] all = refl
all_some p f (x ∷ xs) all = of (f x) all.0 (all_some p f xs all.1)
  where
    of : (o : Option _) → IfSome o (λ y. p y ≡ true) → list_all p (filter_map f xs) ≡ true → list_all p (cons_option o (filter_map f xs)) ≡ true
    of None is rest = rest
    of (Some y) is rest = and_from (p y) (list_all p (filter_map f xs)) is rest

-- lists that are all empty are so joined
pub all_none : {X Y : Type 0} (f : X → List Y) (xs : List X) → AllByRecursion (λ x. f x ≡ []) xs → flat_map f xs ≡ []
all_none f [] all = refl
all_none f (x ∷ xs) all = (λ i. all.0 i ++ flat_map f xs) ∙ all_none f xs all.1

-- items that fit one by one, that draw so many oids in order, and of which no two change one key, fit
pub all_fit : (before : List Entry) (b count : ℕ) (items : List Item) → flat_map drawn_by items ≡ range_with_len (next_oid before) count → are_distinct_keys (flat_map changed_key items) ≡ true
    → AllByRecursion (Fits before b (flat_map made_by items) (messages_written before b items)) items → IsFit before b count items
all_fit before b count items drawn distinct fit = record {
  oids = drawn;
  keys = distinct;
  there = all_some (has_row before b) ended_key items (each (λ item. IfSome (ended_key item) (λ key. has_row before b key ≡ true)) (λ item f. f.there));
  kinds = all_pass (keeps_kind before b) items (each (λ item. keeps_kind before b item ≡ true) (λ item f. f.kinds));
  guarded = all_pass (is_guarded before b made) items (each (λ item. is_guarded before b made item ≡ true) (λ item f. f.guarded));
  orderly = record {
    fresh = all_pass (is_fresh before) items (each (λ item. is_fresh before item ≡ true) (λ item f. f.fresh));
    keeps = all_pass (keeps_relation before b) items (each (λ item. keeps_relation before b item ≡ true) (λ item f. f.keeps));
    told = flat_all covered (λ item. flat_map (scans_told (is_validation (old_row before b item) item)) (rows_named item (old_row before b item))) items
        (each (λ item. list_all covered (flat_map (scans_told (is_validation (old_row before b item) item)) (rows_named item (old_row before b item))) ≡ true) (λ item f. f.told));
  };
}
  where
    made : List Oid
    made = flat_map made_by items

    covered : Purpose → Bool
    covered = is_covered (messages_written before b items)

    each : (P : Item → Type 0) → ((item : Item) → Fits before b made (messages_written before b items) item → P item) → AllByRecursion P items
    each P of = every-weaker (Fits before b made (messages_written before b items)) P of items fit

-- a relation that is forced to send its message fits
pub force_fits : (before : List Entry) (b : ℕ) (made : List Oid) (messages : List Message) (rel : Oid) → Fits before b made messages (forms.Force rel)
force_fits before b made messages rel = record { there = tt; kinds = refl; guarded = refl; fresh = refl; keeps = refl; told = refl }

-- unless a constraint is validated, all relations that a row names count
pub all_named : (row : Row) → relations_changed false row ≡ relations_of row
all_named (rows.Con oid rel name valid (demands.Foreign num refrel refnum)) = refl
all_named (rows.Con oid rel name valid (demands.Check text)) = refl
all_named row = refl

-- on a relation that the write doesn't make a mode is held that is enough for a change
abbrev pub IsGuardedOn : List Entry → ℕ → List Oid → Option Row → Item → Oid → Type 0
IsGuardedOn before b made old item rel = (list_any (same_oid rel) made || list_any (holds (held_of before) b rel) (modes_enough old item rel)) ≡ true

all_guarded : (before : List Entry) (b : ℕ) (made : List Oid) (old : Option Row) (item : Item) (rels : List Oid) → AllByRecursion (IsGuardedOn before b made old item) rels
    → list_all (λ rel. list_any (same_oid rel) made || list_any (holds (held_of before) b rel) (modes_enough old item rel)) rels ≡ true
all_guarded before b made old item rels all = all_pass (λ rel. list_any (same_oid rel) made || list_any (holds (held_of before) b rel) (modes_enough old item rel)) rels all

-- a row that is added: its key is new, the relations that it names are guarded, and the scans that give it are covered
pub record Adds (before : List Entry) (b : ℕ) (made : List Oid) (messages : List Message) (row : Row) : Type 0 where
  pub fresh : has_key before (key_of row) ≡ false
  pub apart : is_apart row ≡ true
  pub guarded : AllByRecursion (IsGuardedOn before b made None (forms.Add row)) (relations_of row)
  pub told : list_all (is_covered messages) (scans_of row) ≡ true

pub added_fits : (before : List Entry) (b : ℕ) (made : List Oid) (messages : List Message) (row : Row) → Adds before b made messages row → Fits before b made messages (forms.Add row)
added_fits before b made messages row adds = record {
  there = tt;
  kinds = refl;
  guarded = flat_all (λ rel. list_any (same_oid rel) made || list_any (holds (held_of before) b rel) (modes_enough None (forms.Add row) rel)) (relations_changed false) (row ∷ [])
      (all_guarded before b made None (forms.Add row) (relations_changed false row) (subst (AllByRecursion (IsGuardedOn before b made None (forms.Add row))) (sym (all_named row)) adds.guarded), tt);
  fresh = ap (λ t. elim t [ true ↦ false | false ↦ true ]) adds.fresh;
  keeps = adds.apart;
  told = flat_all (is_covered messages) (scans_told false) (row ∷ []) (fewer_told (is_covered messages) false row adds.told, tt);
}

-- a row that is replaced by one of its relation
pub record Replaces (before : List Entry) (b : ℕ) (messages : List Message) (old new : Row) : Type 0 where
  pub was : old_row before b (forms.Put new) ≡ Some old
  pub kind : same_kind old new ≡ true
  pub main : main_rel old ≡ main_rel new
  pub guarded : AllByRecursion (λ row. AllByRecursion (IsGuardedOn before b [] (Some old) (forms.Put new)) (relations_changed (validates (Some old) new) row)) (old ∷ new ∷ [])
  pub told : AllByRecursion (λ row. list_all (is_covered messages) (scans_told (validates (Some old) new) row) ≡ true) (old ∷ new ∷ [])

pub replaced_fits : (before : List Entry) (b : ℕ) (messages : List Message) (old new : Row) → Replaces before b messages old new → Fits before b [] messages (forms.Put new)
replaced_fits before b messages old new r = record {
  there = ap (λ o. option_map_or (λ row. true) o false) r.was;
  kinds = ap (λ o. option_map_or (λ row. same_kind row new) o true) r.was ∙ r.kind;
  guarded = subst (λ o. list_all (λ rel. list_any (holds (held_of before) b rel) (modes_enough o (forms.Put new) rel)) (flat_map (relations_changed (is_validation o (forms.Put new))) (rows_named (forms.Put new) o)) ≡ true) (sym r.was)
      (flat_all (λ rel. list_any (holds (held_of before) b rel) (modes_enough (Some old) (forms.Put new) rel)) (relations_changed (validates (Some old) new)) (old ∷ new ∷ [])
      (all_guarded before b [] (Some old) (forms.Put new) (relations_changed (validates (Some old) new) old) r.guarded.0, (all_guarded before b [] (Some old) (forms.Put new) (relations_changed (validates (Some old) new) new) r.guarded.1.0, tt)));
  fresh = refl;
  keeps = ap (λ o. option_map_or (λ row. same_oid (main_rel row) (main_rel new)) o true) r.was ∙ ap (λ rel. same_oid rel (main_rel new)) r.main ∙ eq-eqb (main_rel new).0 (main_rel new).0 refl;
  told = subst (λ o. list_all (is_covered messages) (flat_map (scans_told (is_validation o (forms.Put new))) (rows_named (forms.Put new) o)) ≡ true) (sym r.was)
      (flat_all (is_covered messages) (scans_told (validates (Some old) new)) (old ∷ new ∷ []) r.told);
}

-- the change that takes a row away
abbrev pub taking : Row → Item
taking row = forms.Remove (key_of row)

-- the row of a relation of this kind, or of a column of it
abbrev pub IsOf : Oid → Kind → Row → Type 0
IsOf rel kind (rows.Class oid name own fill) = (oid ≡ rel) × (own ≡ kind)
IsOf rel kind (rows.Att of num name col_type stat live) = of ≡ rel
IsOf rel kind row = ⊥

-- it names its relation alone
pub names_one : (rel : Oid) (kind : Kind) (validated : Bool) (row : Row) → IsOf rel kind row → relations_changed validated row ≡ rel ∷ []
names_one rel kind validated (rows.Class oid name own fill) of = ap (λ o. o ∷ []) of.0
names_one rel kind validated (rows.Att own num name col_type stat live) of = ap (λ o. o ∷ []) of
names_one rel kind validated row of = absurd of

is_of : (rel : Oid) (kind : Kind) (row : Row) → IsOf rel kind row → main_rel row ≡ rel
is_of rel kind (rows.Class oid name own fill) of = of.0
is_of rel kind (rows.Att own num name col_type stat live) of = of
is_of rel kind row of = absurd of

-- its own message is for that relation
pub tells_one : (rel : Oid) (kind : Kind) (row : Row) → IsOf rel kind row → rel_for row ≡ Some (Rel rel)
tells_one rel kind (rows.Class oid name own fill) of = ap (λ o. Some (Rel o)) of.0
tells_one rel kind (rows.Att own num name col_type stat live) of = ap (λ o. Some (Rel o)) of
tells_one rel kind row of = absurd of

one_kind : (a b : Oid) (name name' : List ℕ) (kind : Kind) (fill fill' : Option ℕ) → same_kind (rows.Class a name kind fill) (rows.Class b name' kind fill') ≡ true
one_kind a b name name' Table fill fill' = refl
one_kind a b name name' Index fill fill' = refl

class_kept : (oid : Oid) (name : List ℕ) (own : Kind) (fill : Option ℕ) (num : ℕ) (of : Oid) (name' : List ℕ) (col_type : ColType) (stat : ℤ) (live : Bool) → same_kind (rows.Class oid name own fill) (rows.Att of num name' col_type stat live) ≡ true
class_kept oid name Table fill num of name' col_type stat live = refl
class_kept oid name Index fill num of name' col_type stat live = refl

kind_kept : (rel : Oid) (kind : Kind) (old new : Row) → IsOf rel kind old → IsOf rel kind new → same_kind old new ≡ true
kind_kept rel kind (rows.Class oid name own fill) (rows.Class oid' name' own' fill') of also = (λ i. same_kind (rows.Class oid name (of.1 i) fill) (rows.Class oid' name' (also.1 i) fill')) ∙ one_kind oid oid' name name' kind fill fill'
kind_kept rel kind (rows.Class oid name own fill) (rows.Att of' num name' col_type stat live) of also = class_kept oid name own fill num of' name' col_type stat live
kind_kept rel kind (rows.Class oid name own fill) new of also = absurd also
kind_kept rel kind (rows.Att own num name col_type stat live) new of also = refl
kind_kept rel kind old new of also = absurd of

pub same_bytes : (xs : List ℕ) → bytes_eq xs xs ≡ true
same_bytes xs = (bytes_eq-Decides xs xs).1 refl

-- each scan that gives the row asks for it, and the row's own messages are for it
abbrev pub IsSent : Row → Purpose → Type 0
IsSent row scan = (selects scan row ≡ true) × (sends_itself scan row ≡ true)

-- so it is with such a row
pub sent_itself : (rel : Oid) (kind : Kind) (row : Row) → IsOf rel kind row → AllByRecursion (IsSent row) (scans_of row)
sent_itself rel kind (rows.Class oid name own fill) of = ((same_bytes name, refl), ((eq-eqb oid.0 oid.0 refl, refl), ((eq-eqb oid.0 oid.0 refl, refl), tt)))
sent_itself rel kind (rows.Att own num name col_type stat live) of =
    ((and_from (same_oid own own) _ (eq-eqb own.0 own.0 refl) (same_bytes name), refl), ((eq-eqb own.0 own.0 refl, refl), ((eq-eqb own.0 own.0 refl, refl), tt)))
sent_itself rel kind row of = absurd of

strong_of : (p : Mode → Bool) (o : Option Mode) → p AccessExclusive ≡ true → list_any p (enough_with o) ≡ true
strong_of p None is = or_left (p AccessExclusive) false is
strong_of p (Some mode) is = or_right (p mode) (p AccessExclusive || false) (or_left (p AccessExclusive) false is)

-- AccessExclusive is enough for any change
pub strong_enough : (p : Mode → Bool) (old : Option Row) (item : Item) (rel : Oid) → p AccessExclusive ≡ true → list_any p (modes_enough old item rel) ≡ true
strong_enough p old item rel is = strong_of p (weaker_mode old item rel) is

-- ShareUpdateExclusive is enough where a test passes
pub weak_of : (p : Mode → Bool) (t : Bool) → t ≡ true → p ShareUpdateExclusive ≡ true → list_any p (enough_with (update_where t)) ≡ true
weak_of p true same is = or_left (p ShareUpdateExclusive) (p AccessExclusive || false) is
weak_of p false same is = absurd (cc)

-- so for a table's fillfactor
pub weak_enough_fill : (p : Mode → Bool) (oid : Oid) (name : List ℕ) (old new : Option ℕ) (rel : Oid) → p ShareUpdateExclusive ≡ true → list_any p (modes_enough (Some (rows.Class oid name Table old)) (forms.Put (rows.Class oid name Table new)) rel) ≡ true
weak_enough_fill p oid name old new rel is = weak_of p (same_row (rows.Class oid name Table new) (rows.Class oid name Table new)) (same_itself (rows.Class oid name Table new)) is

-- for an index's name
pub weak_enough_name : (p : Mode → Bool) (oid : Oid) (name to : List ℕ) (old new : Option ℕ) (rel : Oid) → p ShareUpdateExclusive ≡ true → list_any p (modes_enough (Some (rows.Class oid name Index old)) (forms.Put (rows.Class oid to Index new)) rel) ≡ true
weak_enough_name p oid name to old new rel is = weak_of p (same_row (rows.Class oid to Index new) (rows.Class oid to Index new)) (same_itself (rows.Class oid to Index new)) is

-- and for a statistics target
pub weak_enough_stat : (p : Mode → Bool) (rel : Oid) (num : ℕ) (name : List ℕ) (col_type : ColType) (old new : ℤ) (live : Bool) → p ShareUpdateExclusive ≡ true
    → list_any p (modes_enough (Some (rows.Att rel num name col_type old live)) (forms.Put (rows.Att rel num name col_type new live)) rel) ≡ true
weak_enough_stat p rel num name col_type old new live is = weak_of p (same_row (rows.Att rel num name col_type new live) (rows.Att rel num name col_type new live)) (same_itself (rows.Att rel num name col_type new live)) is

-- a change of a relation's row, or a column's, that leaves it one of the relation fits
pub put_fits : (before : List Entry) (b : ℕ) (rel : Oid) (kind : Kind) (messages : List Message) (old new : Row) → old_row before b (forms.Put new) ≡ Some old → IsOf rel kind old → IsOf rel kind new
    → list_any (holds (held_of before) b rel) (modes_enough (Some old) (forms.Put new) rel) ≡ true → Tell messages (cats_by before b (forms.Put new) ++ rels_by before b (forms.Put new)) → Fits before b [] messages (forms.Put new)
put_fits before b rel kind messages old new was of also enough tell = replaced_fits before b messages old new (record {
  was = was;
  kind = kind_kept rel kind old new of also;
  main = is_of rel kind old of ∙ sym (is_of rel kind new also);
  guarded = (on old of, (on new also, tt));
  told = (
    fewer_told (is_covered messages) (validates (Some old) new) old (all_pass (is_covered messages) (scans_of old) (every-weaker (IsSent old) (λ scan. is_covered messages scan ≡ true) (λ scan is. told scan (old_covered scan old (Some new) same_relation is.0 is.1)) (scans_of old) (sent_itself rel kind old of))),
    (fewer_told (is_covered messages) (validates (Some old) new) new (all_pass (is_covered messages) (scans_of new) (every-weaker (IsSent new) (λ scan. is_covered messages scan ≡ true) (λ scan is. told scan (new_covered scan (Some old) new is.0 is.1)) (scans_of new) (sent_itself rel kind new also))), tt),
  );
})
  where
    on : (row : Row) → IsOf rel kind row → AllByRecursion (IsGuardedOn before b [] (Some old) (forms.Put new)) (relations_changed (validates (Some old) new) row)
    on row is = subst (AllByRecursion (IsGuardedOn before b [] (Some old) (forms.Put new))) (sym (names_one rel kind (validates (Some old) new) row is)) (enough, tt)

    told : (scan : Purpose) → list_any (covers scan) (messages_of (Some old) (Some new)) ≡ true → is_covered messages scan ≡ true
    told scan is = tell (covers scan) (ap (λ o. list_any (covers scan) (messages_of o (Some new))) was ∙ is)

    same_relation : option_to_list (rel_for new) ≡ option_to_list (rel_for old)
    same_relation = ap option_to_list (tells_one rel kind new also ∙ sym (tells_one rel kind old of))

-- a row that is seen is taken away: it fits, of any kind, where the relations that the row names are locked and the scans that give it are covered
pub removed_fits : (before : List Entry) (b : ℕ) (made : List Oid) (messages : List Message) (row : Row) → IsSound before → IsIn row (rows_of before b) → AllByRecursion (λ r. holds (held_of before) b r AccessExclusive ≡ true) (relations_of row)
    → list_all (is_covered messages) (scans_of row) ≡ true → Fits before b made messages (taking row)
removed_fits before b made messages row sound seen locked covered = record {
  there = ap (λ o. option_map_or (λ row. true) o false) was;
  kinds = refl;
  guarded = subst (λ o. list_all (λ r. list_any (same_oid r) made || list_any (holds (held_of before) b r) (modes_enough o (taking row) r)) (flat_map (relations_changed (is_validation o (taking row))) (rows_named (taking row) o)) ≡ true) (sym was)
      (flat_all (λ r. list_any (same_oid r) made || list_any (holds (held_of before) b r) (modes_enough (Some row) (taking row) r)) (relations_changed false) (row ∷ []) (
        subst (λ rels. list_all (λ r. list_any (same_oid r) made || list_any (holds (held_of before) b r) (modes_enough (Some row) (taking row) r)) rels ≡ true) (sym (all_named row))
            (all_guarded before b made (Some row) (taking row) (relations_of row) (every-weaker (λ r. holds (held_of before) b r AccessExclusive ≡ true) (IsGuardedOn before b made (Some row) (taking row))
            (λ r has. or_right (list_any (same_oid r) made) (list_any (holds (held_of before) b r) (modes_enough (Some row) (taking row) r)) (strong_enough (holds (held_of before) b r) (Some row) (taking row) r has)) (relations_of row) locked)),
        tt,
      ));
  fresh = refl;
  keeps = refl;
  told = subst (λ o. list_all (is_covered messages) (flat_map (scans_told (is_validation o (taking row))) (rows_named (taking row) o)) ≡ true) (sym was)
      (flat_all (is_covered messages) (scans_told false) (row ∷ []) (fewer_told (is_covered messages) false row covered, tt));
}
  where
    was : old_row before b (taking row) ≡ Some row
    was = seen_is_old before b (taking row) row sound refl seen

-- a column that is added fits, where no version has its number
pub column_fits : (before : List Entry) (b : ℕ) (rel : Oid) (messages : List Message) (num : ℕ) (name : List ℕ) (col_type : ColType) (stat : ℤ) (live : Bool) → has_key before (keys.Att rel num) ≡ false → holds (held_of before) b rel AccessExclusive ≡ true
    → Tell messages (messages_of None (Some (rows.Att rel num name col_type stat live))) → Fits before b [] messages (forms.Add (rows.Att rel num name col_type stat live))
column_fits before b rel messages num name col_type stat live free has tell = added_fits before b [] messages new (record {
  fresh = free;
  apart = refl;
  guarded = (ap (λ t. t || false) has, tt);
  told = all_pass (is_covered messages) (scans_of new) (every-weaker (IsSent new) (λ scan. is_covered messages scan ≡ true) (λ scan is. tell (covers scan) (new_covered scan None new is.0 is.1)) (scans_of new) (sent_itself rel Table new refl));
})
  where
    new : Row
    new = rows.Att rel num name col_type stat live
