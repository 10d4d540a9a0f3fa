-- All changes of a write end what they end, one after the other.
use Rattle.std.proofs.Common.{◌≡◌, ◌<◌, ◌+◌, ◌∙◌, ℕ, zero, suc, Bool, true, Option, Some, None, List, [], ◌∷◌, ◌++◌, length, map, fold, take, drop, get_or, append_assoc, length-append, sym, ap, refl, subst, arith}
use Rattle.std.proofs.lemmas.List.{length-map}
use Rattle.std.proofs.lemmas.List.Sums.{fold_more}
use Rattle.catalog_rows.specs.Types.{Change, Insert, Replace, Delete, Stamp, Version}
use Rattle.catalog_rows.specs.Store.{is_ended, end_if, added_row, option_items, after_change, rows_added, numbers_from, new_version}
use Rattle.catalog_rows.specs.declared.lists.Lists.{Lists}
use Rattle.catalog_rows.specs.declared.indexes.Indexes.{Indexes}
use Rattle.catalog_rows.specs.Slots.{IsIn, versions_in, numbers_at, numbers_in, slot_changed, new_slots, after_slots}
use Rattle.catalog_rows.specs.Index.{own_at, ends_at, IsCurrent, IsIndexed, AreNoted}
use Rattle.catalog_rows.proofs.Ascending.{all_more, append_none}
use Rattle.catalog_rows.proofs.Exact.{numbers_at-append, numbers_at-map}
use Rattle.catalog_rows.proofs.Grown.{new_slots-append, take_front}
use Rattle.catalog_rows.proofs.Ended.{front_ends, ended_indexed, other_noted}
use Rattle.catalog_rows.proofs.CurrentSteps.{current_ended}

-- the slots after the first changes, and those of the versions that the others add
abbrev so_far : List Bool → Stamp → List (Option Version) → List Change → ℕ → List (Option Version)
so_far committed stamp slots changes k = fold (after_slots committed stamp) slots (take k changes)

drop_next : (changes : List Change) (k : ℕ) (change : Change) → k < length changes → change ≡ get_or changes k change → drop k changes ≡ change ∷ drop (k + 1) changes
drop_next [] k change within is = absurd (omega (arith, within))
drop_next (x ∷ changes) zero change within is = ap (λ y. y ∷ changes) (sym is)
drop_next (x ∷ changes) (suc k) change within is =
    let far : suc (k + 1) ≡ suc k + 1 = omega arith in
    drop_next changes k change (omega (arith, within)) is ∙ ap (λ m. change ∷ drop m (x ∷ changes)) far

drop_front : (xs ys : List (Option Version)) (n : ℕ) → n ≡ length xs → drop n (xs ++ ys) ≡ ys
drop_front xs ys n is = ap (λ k. drop k (xs ++ ys)) is ∙ by xs
  where
    by : (xs : List (Option Version)) → drop (length xs) (xs ++ ys) ≡ ys
    by [] = refl
    by (x ∷ xs) = by xs

new_parts : (stamp : Stamp) (changes : List Change) (k : ℕ) (change : Change) → k < length changes → change ≡ get_or changes k change → new_slots stamp (drop k changes) ≡ new_slots stamp (change ∷ []) ++ new_slots stamp (drop (k + 1) changes)
new_parts stamp changes k change within is = ap (new_slots stamp) (drop_next changes k change within is) ∙ new_slots-append stamp (change ∷ []) (drop (k + 1) changes)

one_more : (committed : List Bool) (stamp : Stamp) (slots : List (Option Version)) (changes : List Change) (k : ℕ) (change : Change) → k < length changes → change ≡ get_or changes k change
    → so_far committed stamp slots changes (k + 1) ≡ after_slots committed stamp (so_far committed stamp slots changes k) change
one_more committed stamp slots changes k change within is = fold_more (after_slots committed stamp) slots changes k change within ∙ ap (after_slots committed stamp (so_far committed stamp slots changes k)) (sym is)

-- a list with what a change ends has also what it ends among the first slots
pub first_ends : (committed : List Bool) (stamp : Stamp) (change : Change) (slots front behind : List (Option Version)) (count : ℕ) (list : List ℕ) → slots ≡ front ++ behind → count ≡ length front
    → ((n : ℕ) → ends_at committed stamp change slots n ≡ true → IsIn n list) → (n : ℕ) → ends_at committed stamp change (take count slots) n ≡ true → IsIn n list
first_ends committed stamp change slots front behind count list parts is has n ends =
    has n (subst (λ (xs : List (Option Version)). ends_at committed stamp change xs n ≡ true) (sym parts)
    (front_ends committed stamp change front behind n (subst (λ (xs : List (Option Version)). ends_at committed stamp change xs n ≡ true) (ap (take count) parts ∙ take_front front behind count is) ends)))

-- what is left of the slots after a change
left : (committed : List Bool) (stamp : Stamp) (change : Change) (slots front behind ended : List (Option Version)) (count : ℕ) → slots ≡ front ++ behind → count ≡ length front
    → ended ≡ map (slot_changed (end_if (is_ended committed stamp change) stamp)) (take count slots) → ended ++ drop count slots ≡ map (slot_changed (end_if (is_ended committed stamp change) stamp)) front ++ behind
left committed stamp change slots front behind ended count parts is by_step =
    (λ i. (by_step ∙ ap (map (slot_changed (end_if (is_ended committed stamp change) stamp))) (ap (take count) parts ∙ take_front front behind count is)) i ++ (ap (drop count) parts ∙ drop_front front behind count is) i)

pub next_slots : (committed : List Bool) (stamp : Stamp) (start : List (Option Version)) (changes : List Change) (k : ℕ) (change : Change) (slots ended : List (Option Version)) (count : ℕ) → k < length changes → change ≡ get_or changes k change
    → slots ≡ so_far committed stamp start changes k ++ new_slots stamp (drop k changes) → count ≡ length (so_far committed stamp start changes k) → ended ≡ map (slot_changed (end_if (is_ended committed stamp change) stamp)) (take count slots)
    → ended ++ drop count slots ≡ so_far committed stamp start changes (k + 1) ++ new_slots stamp (drop (k + 1) changes)
next_slots committed stamp start changes k change slots ended count within is parts counted by_step =
    left committed stamp change slots (so_far committed stamp start changes k) (new_slots stamp (drop k changes)) ended count parts counted by_step
    ∙ ap (λ xs. map step (so_far committed stamp start changes k) ++ xs) (new_parts stamp changes k change within is)
    ∙ sym (append_assoc (map step (so_far committed stamp start changes k)) (new_slots stamp (change ∷ [])) (new_slots stamp (drop (k + 1) changes)))
    ∙ ap (λ xs. xs ++ new_slots stamp (drop (k + 1) changes)) (sym (one_more committed stamp start changes k change within is))
  where
    step : Option Version → Option Version
    step = slot_changed (end_if (is_ended committed stamp change) stamp)

added_count : (stamp : Stamp) (change : Change) → length (new_slots stamp (change ∷ [])) ≡ length (option_items (added_row change))
added_count stamp (Insert row) = refl
added_count stamp (Replace row) = refl
added_count stamp (Delete key) = refl

after_length : (committed : List Bool) (stamp : Stamp) (slots : List (Option Version)) (change : Change) → length (after_slots committed stamp slots change) ≡ length slots + length (option_items (added_row change))
after_length committed stamp slots change =
    length-append (map (slot_changed (end_if (is_ended committed stamp change) stamp)) slots) (new_slots stamp (change ∷ []))
    ∙ (λ i. length-map slots (slot_changed (end_if (is_ended committed stamp change) stamp)) i + added_count stamp change i)

pub next_count : (committed : List Bool) (stamp : Stamp) (start : List (Option Version)) (changes : List Change) (k : ℕ) (change : Change) (count more : ℕ) → k < length changes → change ≡ get_or changes k change
    → count ≡ length (so_far committed stamp start changes k) → more ≡ length (option_items (added_row change)) → count + more ≡ length (so_far committed stamp start changes (k + 1))
next_count committed stamp start changes k change count more within is counted added =
    (λ i. counted i + added i) ∙ sym (after_length committed stamp (so_far committed stamp start changes k) change) ∙ sym (ap length (one_more committed stamp start changes k change within is))

pub next_indexed : (committed : List Bool) (stamp : Stamp) (change : Change) (changes : List Change) (k : ℕ) (slots front behind ended : List (Option Version)) (count : ℕ) (lists : Lists) → k < length changes → change ≡ get_or changes k change
    → slots ≡ front ++ behind → count ≡ length front → ended ≡ map (slot_changed (end_if (is_ended committed stamp change) stamp)) (take count slots) → IsIndexed slots lists → AreNoted committed stamp (drop k changes) slots lists
    → IsIndexed (ended ++ drop count slots) lists
next_indexed committed stamp change changes k slots front behind ended count lists within is parts counted by_step indexed noted =
    subst (λ (xs : List (Option Version)). IsIndexed xs lists) (sym (left committed stamp change slots front behind ended count parts counted by_step))
    (ended_indexed committed stamp change front behind lists (subst (λ (xs : List (Option Version)). IsIndexed xs lists) parts indexed) here.0)
  where
    here : AreNoted committed stamp (change ∷ drop (k + 1) changes) (front ++ behind) lists
    here = subst (λ cs. AreNoted committed stamp cs (front ++ behind) lists) (drop_next changes k change within is) (subst (λ (xs : List (Option Version)). AreNoted committed stamp (drop k changes) xs lists) parts noted)

pub next_current : (committed : List Bool) (stamp : Stamp) (change : Change) (slots front behind ended : List (Option Version)) (count : ℕ) (indexes : Indexes) → slots ≡ front ++ behind → count ≡ length front
    → ended ≡ map (slot_changed (end_if (is_ended committed stamp change) stamp)) (take count slots) → IsCurrent committed slots indexes → IsCurrent committed (ended ++ drop count slots) indexes
next_current committed stamp change slots front behind ended count indexes parts counted by_step current =
    subst (λ (xs : List (Option Version)). IsCurrent committed xs indexes) (sym (left committed stamp change slots front behind ended count parts counted by_step))
    (current_ended committed stamp change front behind indexes (subst (λ (xs : List (Option Version)). IsCurrent committed xs indexes) parts current))

pub next_noted : (committed : List Bool) (stamp : Stamp) (change : Change) (changes : List Change) (k : ℕ) (slots front behind ended : List (Option Version)) (count : ℕ) (lists : Lists) → k < length changes → change ≡ get_or changes k change
    → slots ≡ front ++ behind → count ≡ length front → ended ≡ map (slot_changed (end_if (is_ended committed stamp change) stamp)) (take count slots) → AreNoted committed stamp (drop k changes) slots lists
    → AreNoted committed stamp (drop (k + 1) changes) (ended ++ drop count slots) lists
next_noted committed stamp change changes k slots front behind ended count lists within is parts counted by_step noted =
    subst (λ (xs : List (Option Version)). AreNoted committed stamp (drop (k + 1) changes) xs lists) (sym (left committed stamp change slots front behind ended count parts counted by_step))
    (all_more (λ other. (n : ℕ) → ends_at committed stamp other (front ++ behind) n ≡ true → IsIn n (own_at lists.touched.items stamp.xid.0))
    (λ other. (n : ℕ) → ends_at committed stamp other (map (slot_changed (end_if (is_ended committed stamp change) stamp)) front ++ behind) n ≡ true → IsIn n (own_at lists.touched.items stamp.xid.0))
    (drop (k + 1) changes) (λ other own n ended_there. own n (other_noted committed stamp change other front behind n ended_there)) here.1)
  where
    here : AreNoted committed stamp (change ∷ drop (k + 1) changes) (front ++ behind) lists
    here = subst (λ cs. AreNoted committed stamp cs (front ++ behind) lists) (drop_next changes k change within is) (subst (λ (xs : List (Option Version)). AreNoted committed stamp (drop k changes) xs lists) parts noted)

-- the versions, the numbers and the count of the slots after all changes
versions_in-append : (xs ys : List (Option Version)) → versions_in (xs ++ ys) ≡ versions_in xs ++ versions_in ys
versions_in-append [] ys = refl
versions_in-append (None ∷ xs) ys = versions_in-append xs ys
versions_in-append (Some v ∷ xs) ys = ap (λ vs. v ∷ vs) (versions_in-append xs ys)

versions_in-changed : (f : Version → Version) (slots : List (Option Version)) → versions_in (map (slot_changed f) slots) ≡ map f (versions_in slots)
versions_in-changed f [] = refl
versions_in-changed f (None ∷ slots) = versions_in-changed f slots
versions_in-changed f (Some v ∷ slots) = ap (λ vs. f v ∷ vs) (versions_in-changed f slots)

versions_new : (stamp : Stamp) (change : Change) → versions_in (new_slots stamp (change ∷ [])) ≡ option_items (new_version stamp change)
versions_new stamp (Insert row) = refl
versions_new stamp (Replace row) = refl
versions_new stamp (Delete key) = refl

versions_after : (committed : List Bool) (stamp : Stamp) (slots : List (Option Version)) (change : Change) → versions_in (after_slots committed stamp slots change) ≡ after_change committed stamp (versions_in slots) change
versions_after committed stamp slots change =
    versions_in-append (map (slot_changed (end_if (is_ended committed stamp change) stamp)) slots) (new_slots stamp (change ∷ []))
    ∙ (λ i. versions_in-changed (end_if (is_ended committed stamp change) stamp) slots i ++ versions_new stamp change i)

pub versions_written : (committed : List Bool) (stamp : Stamp) (slots : List (Option Version)) (changes : List Change) → versions_in (fold (after_slots committed stamp) slots changes) ≡ fold (after_change committed stamp) (versions_in slots) changes
versions_written committed stamp slots [] = refl
versions_written committed stamp slots (change ∷ changes) =
    versions_written committed stamp (after_slots committed stamp slots change) changes ∙ ap (λ vs. fold (after_change committed stamp) vs changes) (versions_after committed stamp slots change)

more_rows : (change : Change) (changes : List Change) → rows_added (change ∷ changes) ≡ length (option_items (added_row change)) + rows_added changes
more_rows (Insert row) changes = omega arith
more_rows (Replace row) changes = omega arith
more_rows (Delete key) changes = omega arith

pub slots_written : (committed : List Bool) (stamp : Stamp) (slots : List (Option Version)) (changes : List Change) → length (fold (after_slots committed stamp) slots changes) ≡ length slots + rows_added changes
slots_written committed stamp slots [] = omega arith
slots_written committed stamp slots (change ∷ changes) =
    let later = slots_written committed stamp (after_slots committed stamp slots change) changes in
    let now = after_length committed stamp slots change in
    let rows = more_rows change changes in
    omega (arith, later, now, rows)

numbers_new : (stamp : Stamp) (change : Change) (n : ℕ) → numbers_at (λ v. true) n (new_slots stamp (change ∷ [])) ≡ numbers_from n (length (option_items (added_row change)))
numbers_new stamp (Insert row) n = refl
numbers_new stamp (Replace row) n = refl
numbers_new stamp (Delete key) n = refl

numbers_from-append : (n a b : ℕ) → numbers_from n (a + b) ≡ numbers_from n a ++ numbers_from (n + a) b
numbers_from-append n zero b = (λ i. numbers_from (plus_none n i) (none_plus b i))
  where
    plus_none : (n : ℕ) → n ≡ n + 0
    plus_none n = omega arith

    none_plus : (b : ℕ) → 0 + b ≡ b
    none_plus b = omega arith
numbers_from-append n (suc a) b =
    let one : suc a + b ≡ suc (a + b) = omega arith in
    let far : n + 1 + a ≡ n + suc a = omega arith in
    ap (numbers_from n) one ∙ ap (λ l. n ∷ l) (numbers_from-append (n + 1) a b ∙ ap (λ m. numbers_from (n + 1) a ++ numbers_from m b) far)

numbers_after : (committed : List Bool) (stamp : Stamp) (slots : List (Option Version)) (change : Change) → numbers_in (after_slots committed stamp slots change) ≡ numbers_in slots ++ numbers_from (length slots + 1) (length (option_items (added_row change)))
numbers_after committed stamp slots change =
    let step = slot_changed (end_if (is_ended committed stamp change) stamp) in
    let far : 1 + length (map (slot_changed (end_if (is_ended committed stamp change) stamp)) slots) ≡ length slots + 1 = omega (arith, length-map slots (slot_changed (end_if (is_ended committed stamp change) stamp))) in
    numbers_at-append (λ v. true) 1 (map step slots) (new_slots stamp (change ∷ []))
    ∙ (λ i. numbers_at-map (λ v. true) (end_if (is_ended committed stamp change) stamp) (λ v. refl) 1 slots i ++ numbers_new stamp change (far i) i)

pub numbers_written : (committed : List Bool) (stamp : Stamp) (slots : List (Option Version)) (changes : List Change) → numbers_in (fold (after_slots committed stamp) slots changes) ≡ numbers_in slots ++ numbers_from (length slots + 1) (rows_added changes)
numbers_written committed stamp slots [] = sym (append_none (numbers_in slots))
numbers_written committed stamp slots (change ∷ changes) =
    let count : ℕ = length (option_items (added_row change)) in
    let far : length (after_slots committed stamp slots change) + 1 ≡ length slots + 1 + length (option_items (added_row change)) = omega (arith, after_length committed stamp slots change) in
    numbers_written committed stamp (after_slots committed stamp slots change) changes
    ∙ (λ i. numbers_after committed stamp slots change i ++ numbers_from (far i) (rows_added changes))
    ∙ append_assoc (numbers_in slots) (numbers_from (length slots + 1) (length (option_items (added_row change)))) (numbers_from (length slots + 1 + length (option_items (added_row change))) (rows_added changes))
    ∙ ap (λ l. numbers_in slots ++ l) (sym (numbers_from-append (length slots + 1) (length (option_items (added_row change))) (rows_added changes)) ∙ ap (numbers_from (length slots + 1)) (sym (more_rows change changes)))
