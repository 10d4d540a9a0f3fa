-- The lists and the slots as a write's versions are added, and taken off again where memory is out.
use Rattle.std.proofs.Common.{◌≡◌, ◌<◌, ◌≤◌, ◌+◌, ◌∙◌, ◌⊎◌, inl, inr, ℕ, zero, suc, Bool, true, false, if◌then◌else◌, Result, Ok, Err, OnOk, get_or, Option, Some, None, IfSome, List, [], ◌∷◌, ◌++◌, length, map, take, append_assoc, sym, ap, refl, subst, arith}
use Rattle.std.specs.Option.{option_map_or, option_map}
use Rattle.std.specs.List.{AllByRecursion}
use Rattle.std.proofs.lemmas.List.{take_more}
use Rattle.base_types.specs.declared.memory.NoMemory.{NoMemory}
use Rattle.catalog_rows.specs.Types.{Row, Change, Insert, Replace, Delete, Stamp, Version}
use Rattle.catalog_rows.specs.Store.{is_ended, added_row, new_version, option_items}
use Rattle.catalog_rows.specs.declared.place.Place.{Place}
use Rattle.catalog_rows.specs.declared.index.Index.{Index}
use Rattle.catalog_rows.specs.declared.indexes.Indexes.{Indexes}
use Rattle.catalog_rows.specs.declared.lists.Lists.{Lists}
use Rattle.catalog_rows.specs.Numbers.{IsAscending, added, removed}
use Rattle.catalog_rows.specs.Places.{is_under}
use Rattle.catalog_rows.specs.Slots.{IsIn, slot_at, version_numbered, numbers_at, new_slots}
use Rattle.catalog_rows.specs.Index.{listed_at, own_at, ends_at, AddsBoth, AreSame, RemovesBoth, is_listed, IsInOrder, IsBelow, IsNumbered, IsNoted, IsIndexed, AreNoted, NotesMore}
use Rattle.catalog_rows.proofs.Ascending.{append_none, added_removed, all_more, all_push}
use Rattle.catalog_rows.proofs.SlotLists.{numbered_front, numbered_in_parts, some_more, along}
use Rattle.catalog_rows.proofs.Within.{only_same, only_added, only_removed, below_current}
use Rattle.catalog_rows.proofs.Exact.{numbers_at-append, numbers_ascending, numbers_below_last}

-- the lists with the same numbers at each place, and no less noted
noted_more : (old new : List (List ℕ)) (n : ℕ) (v : Version) → ((x m : ℕ) → IsIn m (own_at old x) → IsIn m (own_at new x)) → IsNoted old n v → IsNoted new n v
noted_more old new n v own is = record {
  writer = own v.by.xid.0 n is.writer;
  ender = some_more (λ (stamp : Stamp). IsIn n (own_at old stamp.xid.0)) (λ stamp. IsIn n (own_at new stamp.xid.0)) v.ended (λ stamp. own stamp.xid.0 n) is.ender;
}

pub indexed_same : (slots : List (Option Version)) (old new : Lists) → IsIndexed slots old → AreSame old.indexes new.indexes → ((x m : ℕ) → IsIn m (own_at old.touched.items x) → IsIn m (own_at new.touched.items x)) → IsIndexed slots new
indexed_same slots old new is same own = record {
  numbered = λ place. same.all place ∙ is.numbered place;
  only = only_same old.indexes new.indexes same is.only;
  noted = λ n. some_more (IsNoted old.touched.items n) (IsNoted new.touched.items n) (version_numbered slots n) (λ v. noted_more old.touched.items new.touched.items n v own) (is.noted n);
}

pub same_indexes : (old new : Indexes) → new ≡ old → AreSame old new
same_indexes old new same = record {
  all = λ place. ap (λ (x : Indexes). listed_at x.all place) same;
  current = λ place. ap (λ (x : Indexes). listed_at x.current place) same;
  whole = ap (λ (x : Indexes). x.whole) same;
}

pub indexed_noted : (slots : List (Option Version)) (old new : Lists) → IsIndexed slots old → NotesMore old new → IsIndexed slots new
indexed_noted slots old new is more = indexed_same slots old new is (same_indexes old.indexes new.indexes more.indexes) more.own

-- a number that no version has yet
pub number_new : (slots : List (Option Version)) (number : ℕ) (lists : Lists) → number ≡ length slots + 1 → IsIndexed slots lists → IsBelow number lists.indexes.all
number_new slots number lists is i = record {
  order = λ place. subst IsAscending (sym (i.numbered place)) (numbers_ascending (λ v. is_under place v.row) 1 slots);
  below = λ place. subst (AllByRecursion (λ n. n < number)) (sym (i.numbered place))
      (all_more (λ n. n < 1 + length slots) (λ n. n < number) (numbers_at (λ v. is_under place v.row) 1 slots) (λ n lt. omega (arith, lt, is)) (numbers_below_last (λ v. is_under place v.row) 1 slots));
}

pub in_order : (slots : List (Option Version)) (index : Index) → IsNumbered slots index → IsInOrder index
in_order slots index is place = subst IsAscending (sym (is place)) (numbers_ascending (λ v. is_under place v.row) 1 slots)

one_number : (test : Version → Bool) (n : ℕ) (v : Version) → numbers_at test n (Some v ∷ []) ≡ (if test v then n ∷ [] else [])
one_number test n v = refl

-- the slots with one more version
slot_cases : (v : Version) (xs : List (Option Version)) (j : ℕ) → (slot_at (xs ++ Some v ∷ []) j ≡ slot_at xs j) ⊎ ((j ≡ length xs) × (slot_at (xs ++ Some v ∷ []) j ≡ Some v))
slot_cases v [] zero = inr (refl, refl)
slot_cases v [] (suc j) = inl refl
slot_cases v (x ∷ xs) zero = inl refl
slot_cases v (x ∷ xs) (suc j) = elim (slot_cases v xs j) [ inl same_slot ↦ inl same_slot | inr last ↦ inr (ap suc last.0, last.1) ]

pub numbered_push : (slots : List (Option Version)) (number : ℕ) (v : Version) → number ≡ length slots + 1 → (n : ℕ) → (version_numbered (slots ++ Some v ∷ []) n ≡ version_numbered slots n) ⊎ ((n ≡ number) × (version_numbered (slots ++ Some v ∷ []) n ≡ Some v))
numbered_push slots number v is zero = inl refl
numbered_push slots number v is (suc j) = elim (slot_cases v slots j) [ inl same_slot ↦ inl same_slot | inr last ↦ inr (omega (arith, last.0, is), last.1) ]

-- one more version
pub indexed_push : (slots : List (Option Version)) (number : ℕ) (v : Version) (old mid new : Lists) → number ≡ length slots + 1 → v.ended ≡ None → IsIndexed slots old → NotesMore old mid → IsIn number (own_at mid.touched.items v.by.xid.0)
    → AddsBoth (λ place. is_under place v.row) number mid.indexes new.indexes → new.touched ≡ mid.touched → IsIndexed (slots ++ Some v ∷ []) new
indexed_push slots number v old mid new is unended i notes own adds same = record {
  numbered = λ place. adds.all.each place ∙ ap (added (is_under place v.row) number) (ap (λ (x : Indexes). listed_at x.all place) notes.indexes ∙ i.numbered place)
      ∙ ap (λ k. numbers_at (λ w. is_under place w.row) 1 slots ++ (if is_under place v.row then k ∷ [] else [])) at ∙ sym (numbers_at-append (λ w. is_under place w.row) 1 slots (Some v ∷ []));
  only = only_added (λ place. is_under place v.row) number mid.indexes new.indexes adds (below_current number mid.indexes noted.only (number_new slots number mid is noted)) noted.only;
  noted = λ n. each n (numbered_push slots number v is n);
}
  where
    at : number ≡ 1 + length slots
    at = omega (arith, is)

    noted : IsIndexed slots mid
    noted = indexed_noted slots old mid i notes

    here : IsNoted new.touched.items number v
    here = record {
      writer = subst (λ t. IsIn number (own_at t.items v.by.xid.0)) (sym same) own;
      ender = subst (λ o. IfSome o (λ (stamp : Stamp). IsIn number (own_at new.touched.items stamp.xid.0))) (sym unended) tt;
    }

    each : (n : ℕ) → (version_numbered (slots ++ Some v ∷ []) n ≡ version_numbered slots n) ⊎ ((n ≡ number) × (version_numbered (slots ++ Some v ∷ []) n ≡ Some v)) → IfSome (version_numbered (slots ++ Some v ∷ []) n) (IsNoted new.touched.items n)
    each n (inl stayed) = along (IsNoted new.touched.items n) (version_numbered slots n) (version_numbered (slots ++ Some v ∷ []) n) (sym stayed)
        (some_more (IsNoted old.touched.items n) (IsNoted new.touched.items n) (version_numbered slots n)
        (λ w. noted_more old.touched.items new.touched.items n w (λ x m was. subst (λ t. IsIn m (own_at t.items x)) (sym same) (notes.own x m was))) (i.noted n))
    each n (inr last) = along (IsNoted new.touched.items n) (Some v) (version_numbered (slots ++ Some v ∷ []) n) (sym last.1) (subst (λ m. IsNoted new.touched.items m v) (sym last.0) here)

-- the last slot off
pub indexed_off : (slots : List (Option Version)) (o : Option Version) (number : ℕ) (old new : Lists) → number ≡ 1 + length slots → IsIndexed (slots ++ o ∷ []) old → new.touched ≡ old.touched → RemovesBoth (is_listed o) number old.indexes new.indexes → IsIndexed slots new
indexed_off slots o number old new at is same removes = record {
  numbered = λ place. removes.all.each place ∙ ap (λ k. removed (is_listed o place) k (listed_at old.indexes.all place)) at
      ∙ ap (removed (is_listed o place) (1 + length slots)) (is.numbered place ∙ numbers_at-append (λ v. is_under place v.row) 1 slots (o ∷ [])) ∙ out place o;
  only = only_removed (is_listed o) number old.indexes new.indexes removes is.only;
  noted = λ n. subst (λ t. IfSome (version_numbered slots n) (IsNoted t.items n)) (sym same) (numbered_front (IsNoted old.touched.items n) slots (o ∷ []) n (is.noted n));
}
  where
    out : (place : Place) (o : Option Version) → removed (is_listed o place) (1 + length slots) (numbers_at (λ v. is_under place v.row) 1 slots ++ numbers_at (λ v. is_under place v.row) (1 + length slots) (o ∷ []))
        ≡ numbers_at (λ v. is_under place v.row) 1 slots
    out place None = append_none (numbers_at (λ v. is_under place v.row) 1 slots)
    out place (Some v) = by (is_under place v.row) refl
      where
        by : (t : Bool) → is_under place v.row ≡ t
            → removed (is_under place v.row) (1 + length slots) (numbers_at (λ w. is_under place w.row) 1 slots ++ (if is_under place v.row then (1 + length slots) ∷ [] else [])) ≡ numbers_at (λ w. is_under place w.row) 1 slots
        by true inside =
            ap (λ t. removed t (1 + length slots) (numbers_at (λ w. is_under place w.row) 1 slots ++ (if t then (1 + length slots) ∷ [] else []))) inside
            ∙ added_removed (1 + length slots) (numbers_at (λ w. is_under place w.row) 1 slots) (numbers_ascending (λ w. is_under place w.row) 1 slots) (numbers_below_last (λ w. is_under place w.row) 1 slots)
        by false outside =
            ap (λ t. removed t (1 + length slots) (numbers_at (λ w. is_under place w.row) 1 slots ++ (if t then (1 + length slots) ∷ [] else []))) outside ∙ append_none (numbers_at (λ w. is_under place w.row) 1 slots)

-- the slots that changes add
pub new_slots-append : (stamp : Stamp) (xs ys : List Change) → new_slots stamp (xs ++ ys) ≡ new_slots stamp xs ++ new_slots stamp ys
new_slots-append stamp [] ys = refl
new_slots-append stamp (x ∷ xs) ys = ap (λ l. map Some (option_items (new_version stamp x)) ++ l) (new_slots-append stamp xs ys) ∙ sym (append_assoc (map Some (option_items (new_version stamp x))) (new_slots stamp xs) (new_slots stamp ys))

-- each is the transaction's own
pub new_slot_own : (stamp : Stamp) (change : Change) (k : ℕ) → IfSome (slot_at (new_slots stamp (change ∷ [])) k) (λ v. v.by ≡ stamp)
new_slot_own stamp (Insert row) zero = refl
new_slot_own stamp (Insert row) (suc k) = tt
new_slot_own stamp (Replace row) zero = refl
new_slot_own stamp (Replace row) (suc k) = tt
new_slot_own stamp (Delete key) k = tt

-- what a change ends among more slots is noted, if the others are the transaction's own
pub ends_grown : (committed : List Bool) (stamp : Stamp) (change by : Change) (old : List (Option Version)) (lists : Lists) → IsIndexed (old ++ new_slots stamp (by ∷ [])) lists
    → ((n : ℕ) → ends_at committed stamp change old n ≡ true → IsIn n (own_at lists.touched.items stamp.xid.0)) → (n : ℕ) → ends_at committed stamp change (old ++ new_slots stamp (by ∷ [])) n ≡ true → IsIn n (own_at lists.touched.items stamp.xid.0)
ends_grown committed stamp change by old lists is own n ended = each (numbered_in_parts old (new_slots stamp (by ∷ [])) n)
  where
    of : (o : Option Version) → IfSome o (IsNoted lists.touched.items n) → IfSome o (λ v. v.by ≡ stamp) → option_map_or (is_ended committed stamp change) o false ≡ true → IsIn n (own_at lists.touched.items stamp.xid.0)
    of None noted own_is at = let never : false ≡ true = at in absurd (cc)
    of (Some v) noted own_is at = subst (λ (s : Stamp). IsIn n (own_at lists.touched.items s.xid.0)) own_is noted.writer

    each : (version_numbered (old ++ new_slots stamp (by ∷ [])) n ≡ version_numbered old n) ⊎ ((k : ℕ) × (version_numbered (old ++ new_slots stamp (by ∷ [])) n ≡ slot_at (new_slots stamp (by ∷ [])) k)) → IsIn n (own_at lists.touched.items stamp.xid.0)
    each (inl same) = own n (sym (ap (λ o. option_map_or (is_ended committed stamp change) o false) same) ∙ ended)
    each (inr new) = of (version_numbered (old ++ new_slots stamp (by ∷ [])) n) (is.noted n) (along (λ v. v.by ≡ stamp) (slot_at (new_slots stamp (by ∷ [])) new.0) (version_numbered (old ++ new_slots stamp (by ∷ [])) n) (sym new.1) (new_slot_own stamp by new.0)) ended

pub noted_grown : (committed : List Bool) (stamp : Stamp) (by : Change) (changes : List Change) (old : List (Option Version)) (before lists : Lists) → IsIndexed (old ++ new_slots stamp (by ∷ [])) lists
    → ((x m : ℕ) → IsIn m (own_at before.touched.items x) → IsIn m (own_at lists.touched.items x)) → AreNoted committed stamp changes old before → AreNoted committed stamp changes (old ++ new_slots stamp (by ∷ [])) lists
noted_grown committed stamp by [] old before lists is grows noted = tt
noted_grown committed stamp by (change ∷ changes) old before lists is grows noted =
    (ends_grown committed stamp change by old lists is (λ n ended. grows stamp.xid.0 n (noted.0 n ended)), noted_grown committed stamp by changes old before lists is grows noted.1)

pub ok_then : {P Q : Type 0} (result : Result (Unit {0}) NoMemory) → (P → Q) → OnOk result P → OnOk result Q
ok_then (Ok done) f is = f is
ok_then (Err error) f is = tt

-- a change that adds a row has noted what it ends, also among the slots with its own
pub added_noted : (committed : List Bool) (stamp : Stamp) (change : Change) (row : Row) (old new : List (Option Version)) (mid after : Lists) (result : Result (Unit {0}) NoMemory) → Some row ≡ added_row change
    → OnOk result (new ≡ old ++ Some (record { row = row; by = stamp; ended = None }) ∷ []) → IsIndexed new after → ((x m : ℕ) → IsIn m (own_at mid.touched.items x) → IsIn m (own_at after.touched.items x))
    → ((n : ℕ) → ends_at committed stamp change old n ≡ true → IsIn n (own_at mid.touched.items stamp.xid.0)) → OnOk result (AreNoted committed stamp (change ∷ []) new after)
added_noted committed stamp change row old new mid after (Err error) adds grown is grows noted = tt
added_noted committed stamp change row old new mid after (Ok done) adds grown is grows noted =
    let slots : new ≡ old ++ new_slots stamp (change ∷ []) = grown ∙ ap (λ o. old ++ (map Some (option_items (option_map (λ r. record { row = r; by = stamp; ended = None }) o)) ++ [])) adds in
    subst (λ (xs : List (Option Version)). AreNoted committed stamp (change ∷ []) xs after) (sym slots)
    (ends_grown committed stamp change change old after (subst (λ (xs : List (Option Version)). IsIndexed xs after) slots is) (λ n ended. grows stamp.xid.0 n (noted n ended)), tt)

-- one more change
pub grown_slots : (stamp : Stamp) (changes : List Change) (k : ℕ) (change : Change) (first old new : List (Option Version)) → k < length changes → change ≡ get_or changes k change → old ≡ first ++ new_slots stamp (take k changes)
    → new ≡ old ++ new_slots stamp (change ∷ []) → new ≡ first ++ new_slots stamp (take (k + 1) changes)
grown_slots stamp changes k change first old new within is before grown =
    grown ∙ ap (λ xs. xs ++ new_slots stamp (change ∷ [])) before ∙ append_assoc first (new_slots stamp (take k changes)) (new_slots stamp (change ∷ []))
    ∙ ap (λ xs. first ++ xs) (sym (new_slots-append stamp (take k changes) (change ∷ [])) ∙ ap (new_slots stamp) (ap (λ x. take k changes ++ x ∷ []) is ∙ sym (take_more changes k change within)))

pub grown_noted : (committed : List Bool) (stamp : Stamp) (changes : List Change) (k : ℕ) (change : Change) (old new : List (Option Version)) (before after : Lists) → k < length changes → change ≡ get_or changes k change
    → AreNoted committed stamp (take k changes) old before → new ≡ old ++ new_slots stamp (change ∷ []) → IsIndexed new after → ((x m : ℕ) → IsIn m (own_at before.touched.items x) → IsIn m (own_at after.touched.items x))
    → AreNoted committed stamp (change ∷ []) new after → AreNoted committed stamp (take (k + 1) changes) new after
grown_noted committed stamp changes k change old new before after within is noted grown i grows here =
    subst (λ cs. AreNoted committed stamp cs new after) (ap (λ x. take k changes ++ x ∷ []) is ∙ sym (take_more changes k change within))
    (all_push (λ c. (n : ℕ) → ends_at committed stamp c new n ≡ true → IsIn n (own_at after.touched.items stamp.xid.0)) (take k changes) change
    (subst (λ (xs : List (Option Version)). AreNoted committed stamp (take k changes) xs after) (sym grown)
    (noted_grown committed stamp change (take k changes) old before after (subst (λ (xs : List (Option Version)). IsIndexed xs after) grown i) grows noted)) here.0)

pub take_front : (xs ys : List (Option Version)) (n : ℕ) → n ≡ length xs → take n (xs ++ ys) ≡ xs
take_front xs ys n is = ap (λ k. take k (xs ++ ys)) is ∙ by xs
  where
    by : (xs : List (Option Version)) → take (length xs) (xs ++ ys) ≡ xs
    by [] = refl
    by (x ∷ xs) = ap (λ l. x ∷ l) (by xs)

pub take_less : (xs : List (Option Version)) (m n : ℕ) → n ≤ m → take n (take m xs) ≡ take n xs
take_less [] m zero le = refl
take_less [] zero (suc n) le = refl
take_less [] (suc m) (suc n) le = refl
take_less (x ∷ xs) m zero le = refl
take_less (x ∷ xs) zero (suc n) le = absurd (omega (arith, le))
take_less (x ∷ xs) (suc m) (suc n) le = ap (λ l. x ∷ l) (take_less xs m n (omega (arith, le)))
