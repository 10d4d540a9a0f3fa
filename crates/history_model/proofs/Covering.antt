-- Where the messages of a write cover each scan that gives a row which it names, but for a foreign key that is validated not that of the relation that it refers to, they cover each scan that it changes.
use Rattle.std.proofs.Common.{◌≡◌, ◌∙◌, ◌==◌, ℕ, Bool, true, false, Option, Some, None, List, [], ◌∷◌, ◌||◌, ◌&&◌, refl, sym, subst}
use Rattle.std.specs.List.{AllByRecursion, list_all, flat_map}
use Rattle.std.specs.Option.{option_eq}
use Rattle.std.proofs.lemmas.Bool.{eq-eqb, and_from, and_parts, or_left, or_right}
use Rattle.std.proofs.lemmas.Slice.Eq.{bytes_eq-Decides}
use Rattle.std.specs.Str.{bytes_eq}
use Rattle.std.proofs.lemmas.Bool.Decides.{Decides-int_eq}
use Rattle.base_types.specs.declared.ids.Oid.{Oid}
use Rattle.base_types.specs.Scans.{same_oid}
use Rattle.base_types.specs.Words.{kind_word, type_word, live_word, state_word, valid_word, on_word}
use Rattle.inval_messages.specs.declared.message.Message.{Message}
use Rattle.std.proofs.lemmas.List.Folds.{list_all-append}
use Rattle.base_types.specs.declared.ids.Xid.{Xid}
use Rattle.base_types.specs.declared.row.Row.{Row}
use Rattle.base_types.specs.declared.row.ConKind.TheVariants as demands
use Rattle.base_types.specs.declared.row.Row.TheVariants as rows
use Rattle.base_types.specs.declared.scan.Purpose.{Purpose}
use Rattle.base_types.specs.declared.scan.Purpose.TheVariants as scans
use Rattle.event_kinds.specs.declared.entry.Entry.{Entry}
use Rattle.event_kinds.specs.declared.entry.Item.{Item}
use Rattle.history_model.specs.Versions.{old_row, answer_of}
use Rattle.history_model.specs.Sent.{messages_written}
use Rattle.history_model.specs.Covered.{scans_of, is_covered, same_row, same_rows, keeps_answer, rows_changed, covers_changes}
use Rattle.history_model.specs.Changing.{rows_named, is_validation}
use Rattle.history_model.specs.Orderly.{scans_told, covers_told}
use Rattle.history_model.specs.Sound.{IsSound}
use Rattle.history_model.proofs.Every.{every-weaker}
use Rattle.history_model.proofs.Ordered.{all_flat, sound_ordered}
use Rattle.history_model.proofs.CountedAnswers.{IsAllowedWrite, counted, counted_write}

-- a message of the write covers each scan that gives a row which a change names
abbrev pub covers_named : List Entry → ℕ → List Item → Bool
covers_named before b items = list_all (is_covered (messages_written before b items)) (flat_map (λ item. flat_map scans_of (rows_named item (old_row before b item))) items)

-- what each list passes they pass joined
pub flat_all : {X Y : Type 0} (p : Y → Bool) (f : X → List Y) (xs : List X) → AllByRecursion (λ x. list_all p (f x) ≡ true) xs → list_all p (flat_map f xs) ≡ true
flat_all p f [] all = refl
flat_all p f (x ∷ xs) all = list_all-append p (f x) (flat_map f xs) ∙ and_from (list_all p (f x)) (list_all p (flat_map f xs)) all.0 (flat_all p f xs all.1)

same_bytes : (bytes : List ℕ) → bytes_eq bytes bytes ≡ true
same_bytes bytes = (bytes_eq-Decides bytes bytes).1 refl

same_fill : (fill : Option ℕ) → option_eq (λ a b. a == b) fill fill ≡ true
same_fill None = refl
same_fill (Some n) = eq-eqb n n refl

same_oids : (oid : Oid) → same_oid oid oid ≡ true
same_oids oid = eq-eqb oid.0 oid.0 refl

-- a row is equal to itself
pub same_itself : (row : Row) → same_row row row ≡ true
same_itself (rows.Class oid name kind fill) = and_from _ _ (and_from _ _ (and_from _ _ (same_oids oid) (same_bytes name)) (same_bytes (kind_word kind))) (same_fill fill)
same_itself (rows.Att rel num name col_type stat live) =
    and_from _ _ (and_from _ _ (and_from _ _ (and_from _ _ (and_from _ _ (same_oids rel) (eq-eqb num num refl)) (same_bytes name)) (same_bytes (type_word col_type))) ((Decides-int_eq stat stat).1 refl)) (same_bytes (live_word live))
same_itself (rows.Def oid rel num word) = and_from _ _ (and_from _ _ (and_from _ _ (same_oids oid) (same_oids rel)) (eq-eqb num num refl)) (same_bytes word)
same_itself (rows.Ind index table state nums) = and_from _ _ (and_from _ _ (and_from _ _ (same_oids index) (same_oids table)) (same_bytes (state_word state))) (same_bytes nums)
same_itself (rows.Con oid rel name valid (demands.Check text)) = and_from _ _ (and_from _ _ (and_from _ _ (and_from _ _ (same_oids oid) (same_oids rel)) (same_bytes name)) (same_bytes (valid_word valid))) (same_bytes text)
same_itself (rows.Con oid rel name valid (demands.Foreign num refrel refnum)) = and_from _ _ (and_from _ _ (and_from _ _ (and_from _ _ (same_oids oid) (same_oids rel)) (same_bytes name)) (same_bytes (valid_word valid)))
    (and_from _ _ (and_from _ _ (eq-eqb num num refl) (same_oids refrel)) (eq-eqb refnum refnum refl))
same_itself (rows.Trg oid rel name on) = and_from _ _ (and_from _ _ (and_from _ _ (same_oids oid) (same_oids rel)) (same_bytes name)) (same_bytes (on_word on))

same_all : (given : List Row) → same_rows given given ≡ true
same_all [] = refl
same_all (row ∷ given) = and_from (same_row row row) (same_rows given given) (same_itself row) (same_all given)

each_passes : {X : Type 0} (p : X → Bool) → ((x : X) → p x ≡ true) → (xs : List X) → list_all p xs ≡ true
each_passes p of [] = refl
each_passes p of (x ∷ xs) = and_from (p x) (list_all p xs) (of x) (each_passes p of xs)

-- where the messages of a write cover what they must, they cover each scan that it changes
pub told_covers : (before : List Entry) (b c : ℕ) (xid : Xid) (items : List Item) → IsSound before → IsAllowedWrite before b c xid items → covers_changes before b c xid items ≡ true
told_covers before b c xid items sound may = each_passes (λ scan. is_covered messages scan || keeps_answer before b c xid items scan) (λ scan. of scan (is_covered messages scan) refl) (flat_map (λ item. flat_map scans_of (rows_changed before b item)) items)
  where
    messages : List Message
    messages = messages_written before b items

    of : (scan : Purpose) (t : Bool) → is_covered messages scan ≡ t → (is_covered messages scan || keeps_answer before b c xid items scan) ≡ true
    of scan true is = or_left (is_covered messages scan) (keeps_answer before b c xid items scan) is
    of scan false none = or_right (is_covered messages scan) (keeps_answer before b c xid items scan)
        (subst (λ given. same_rows (counted scan (answer_of before b scan)) given ≡ true) (sym (counted_write before b c xid items scan (sound_ordered before sound) may none)) (same_all (counted scan (answer_of before b scan))))

-- what passes all scans that give a row passes those that must be covered
pub fewer_told : (p : Purpose → Bool) (validated : Bool) (row : Row) → list_all p (scans_of row) ≡ true → list_all p (scans_told validated row) ≡ true
fewer_told p true (rows.Con oid rel name valid (demands.Foreign num refrel refnum)) all = and_from (p (scans.Constraint rel)) true (and_parts (p (scans.Constraint rel)) (p (scans.Constraint refrel) && true) all).0 refl
fewer_told p false (rows.Con oid rel name valid (demands.Foreign num refrel refnum)) all = all
fewer_told p validated (rows.Con oid rel name valid (demands.Check text)) all = all
fewer_told p validated row all = all

-- and so each that it must cover
pub named_told : (before : List Entry) (b : ℕ) (items : List Item) → covers_named before b items ≡ true → covers_told before b items ≡ true
named_told before b items named = flat_all covered (λ item. flat_map (scans_told (is_validation (old_row before b item) item)) (rows_named item (old_row before b item))) items
    (every-weaker (λ item. list_all covered (flat_map scans_of (rows_named item (old_row before b item))) ≡ true) (λ item. list_all covered (flat_map (scans_told (is_validation (old_row before b item) item)) (rows_named item (old_row before b item))) ≡ true)
    (λ item all. flat_all covered (scans_told (is_validation (old_row before b item) item)) (rows_named item (old_row before b item))
    (every-weaker (λ row. list_all covered (scans_of row) ≡ true) (λ row. list_all covered (scans_told (is_validation (old_row before b item) item) row) ≡ true) (fewer_told covered (is_validation (old_row before b item) item)) (rows_named item (old_row before b item))
    (all_flat covered scans_of (rows_named item (old_row before b item)) all))) items (all_flat covered (λ item. flat_map scans_of (rows_named item (old_row before b item))) items named))
  where
    covered : Purpose → Bool
    covered = is_covered (messages_written before b items)
