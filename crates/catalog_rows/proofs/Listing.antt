-- The lists of an index after a number is added to one of them or taken out.
use Rattle.std.proofs.Common.{◌≡◌, ◌∙◌, ◌⊎◌, inl, inr, ◌||◌, Result, Ok, Err, OnOk, OnErr, ℕ, Bool, true, false, cond, Some, List, [], ◌∷◌, ◌++◌, sym, ap, refl, subst}
use Rattle.std.specs.Option.{option_map_or}
use Rattle.std.specs.HashMap.{get, get_by, UpdatesBy}
use Rattle.base_types.specs.declared.memory.NoMemory.{NoMemory}
use Rattle.base_types.specs.RowKeys.{key_of}
use Rattle.catalog_rows.specs.Types.{Row}
use Rattle.catalog_rows.specs.declared.place.Place.{Place}
use Rattle.catalog_rows.specs.declared.index.Index.{Index}
use Rattle.catalog_rows.specs.Places.{same_place, is_place, is_under, key_place, owner_place, other_place}
use Rattle.catalog_rows.specs.Numbers.{IsAscending, added, removed}
use Rattle.catalog_rows.specs.Index.{listed_at, AddsWhere, AddsOrNot, RemovesWhere, IsInOrder, IsBelow, IsSame}
use Rattle.catalog_rows.proofs.Ascending.{added_removed, added_both, added_each, removed_each, removed_below, ascending_removed, ascending_push, append_none}
use Rattle.catalog_rows.proofs.Under.{place_laws, owner_apart, other_apart, owner_other}

-- two places that are one have one list
one_list : (index : Index) (place other : Place) → same_place place other ≡ true → listed_at index place ≡ listed_at index other
one_list index place other same = ap (λ (test : Place → Bool). option_map_or {U = List ℕ} (λ numbers. numbers) (get_by test index.lists) []) (λ i z. place_laws.congr place other z same i)

updated : (old new : Index) (place other : Place) (has : List ℕ) → UpdatesBy same_place (same_place place) old.lists new.lists (Some has) → same_place place other ≡ true → listed_at new other ≡ has
updated old new place other has updates same =
    ap (λ o. option_map_or {U = List ℕ} (λ numbers. numbers) o []) (updates.0 other ∙ ap (λ t. cond t (Some has) (get same_place old.lists other)) same)

kept : (old new : Index) (place other : Place) (has : List ℕ) → UpdatesBy same_place (same_place place) old.lists new.lists (Some has) → same_place place other ≡ false → listed_at new other ≡ listed_at old other
kept old new place other has updates apart = ap (λ o. option_map_or {U = List ℕ} (λ numbers. numbers) o []) (updates.2 other apart)

-- a list that is replaced by one with the number at its end
pub updated_adds : (old new : Index) (place : Place) (number : ℕ) (had has : List ℕ) → listed_at old place ≡ had → has ≡ had ++ number ∷ []
    → UpdatesBy same_place (same_place place) old.lists new.lists (Some has) → AddsWhere (same_place place) number old new
updated_adds old new place number had has before more updates = record { each = λ other. by other (same_place place other) refl }
  where
    by : (other : Place) (t : Bool) → same_place place other ≡ t → listed_at new other ≡ added (same_place place other) number (listed_at old other)
    by other true same =
        updated old new place other has updates same ∙ more ∙ ap (λ l. l ++ number ∷ []) (sym before ∙ one_list old place other same) ∙ sym (ap (λ t. added t number (listed_at old other)) same)
    by other false apart = kept old new place other has updates apart ∙ sym (append_none (listed_at old other)) ∙ sym (ap (λ t. added t number (listed_at old other)) apart)

-- a list that is replaced by one without the number
pub updated_removes : (old new : Index) (place : Place) (number : ℕ) (had has : List ℕ) → listed_at old place ≡ had → has ≡ removed true number had
    → UpdatesBy same_place (same_place place) old.lists new.lists (Some has) → RemovesWhere (same_place place) number old new
updated_removes old new place number had has before less updates = record { each = λ other. by other (same_place place other) refl }
  where
    by : (other : Place) (t : Bool) → same_place place other ≡ t → listed_at new other ≡ removed (same_place place other) number (listed_at old other)
    by other true same = updated old new place other has updates same ∙ less ∙ ap (removed true number) (sym before ∙ one_list old place other same) ∙ sym (ap (λ t. removed t number (listed_at old other)) same)
    by other false apart = kept old new place other has updates apart ∙ sym (ap (λ t. removed t number (listed_at old other)) apart)

-- where there is no list there is nothing to take out
pub none_removed : (index : Index) (place : Place) (number : ℕ) → listed_at index place ≡ [] → RemovesWhere (same_place place) number index index
none_removed index place number none = record { each = λ other. by other (same_place place other) refl }
  where
    by : (other : Place) (t : Bool) → same_place place other ≡ t → listed_at index other ≡ removed (same_place place other) number (listed_at index other)
    by other true same =
        let empty : listed_at index other ≡ [] = sym (one_list index place other same) ∙ none in
        empty ∙ sym (ap (λ t. removed t number (listed_at index other)) same ∙ ap (removed true number) empty)
    by other false apart = sym (ap (λ t. removed t number (listed_at index other)) apart)

pub nothing_added : (index : Index) (number : ℕ) → AddsWhere (λ place. false) number index index
nothing_added index number = record { each = λ place. sym (append_none (listed_at index place)) }

-- the order stays
pub order_removed : (test : Place → Bool) (number : ℕ) (old new : Index) → RemovesWhere test number old new → IsInOrder old → IsInOrder new
order_removed test number old new removes order place = subst IsAscending (sym (removes.each place)) (ascending_removed (test place) number (listed_at old place) (order place))

-- a number added at each of a row's places
pub each_added : (row : Row) (number : ℕ) (a b d e : Index) → AddsWhere (is_place (Some (key_place (key_of row)))) number a b → AddsWhere (is_place (owner_place row)) number b d → AddsWhere (is_place (other_place row)) number d e
    → AddsWhere (λ place. is_under place row) number a e
each_added row number a b d e key owner other = record {
  each = λ place.
      other.each place ∙ ap (added (is_place (other_place row) place) number) (owner.each place ∙ ap (added (is_place (owner_place row) place) number) (key.each place))
      ∙ added_each (same_place (key_place (key_of row)) place) (is_place (owner_place row) place) (is_place (other_place row) place) number (listed_at a place) (owner_apart row place) (other_apart row place) (owner_other row place);
}

pub each_removed : (row : Row) (number : ℕ) (a b d e : Index) → RemovesWhere (is_place (Some (key_place (key_of row)))) number a b → RemovesWhere (is_place (owner_place row)) number b d → RemovesWhere (is_place (other_place row)) number d e
    → RemovesWhere (λ place. is_under place row) number a e
each_removed row number a b d e key owner other = record {
  each = λ place.
      other.each place ∙ ap (removed (is_place (other_place row) place) number) (owner.each place ∙ ap (removed (is_place (owner_place row) place) number) (key.each place))
      ∙ removed_each (same_place (key_place (key_of row)) place) (is_place (owner_place row) place) (is_place (other_place row) place) number (listed_at a place);
}

-- added at some of the places, and taken out at all of them
pub some_added : (test : Place → Bool) (under : Place → Bool) (number : ℕ) (old new : Index) → ((place : Place) → test place ≡ true → under place ≡ true) → AddsWhere test number old new → AddsOrNot under number old new
some_added test under number old new within adds = record { each = λ place. by place (test place) refl }
  where
    by : (place : Place) (t : Bool) → test place ≡ t → (listed_at new place ≡ listed_at old place) ⊎ ((under place ≡ true) × (listed_at new place ≡ listed_at old place ++ number ∷ []))
    by place true is = inr (within place is, adds.each place ∙ ap (λ t. added t number (listed_at old place)) is)
    by place false is = inl (adds.each place ∙ ap (λ t. added t number (listed_at old place)) is ∙ append_none (listed_at old place))

under_two : (row : Row) (place : Place) → (same_place (key_place (key_of row)) place || is_place (owner_place row) place) ≡ true → is_under place row ≡ true
under_two row place is = wider (same_place (key_place (key_of row)) place) (is_place (owner_place row) place) (is_place (other_place row) place) is
  where
    wider : (a b d : Bool) → (a || b) ≡ true → (a || (b || d)) ≡ true
    wider true b d is = refl
    wider false true d is = refl
    wider false false d is = absurd (cc)

-- added at each, or out of memory at the last place
pub last_added : (row : Row) (number : ℕ) (a b d e : Index) (result : Result (Unit {0}) NoMemory) → AddsWhere (is_place (Some (key_place (key_of row)))) number a b → AddsWhere (is_place (owner_place row)) number b d
    → OnOk result (AddsWhere (is_place (other_place row)) number d e) → OnErr result (IsSame d e) → AddsOrNot (λ place. is_under place row) number a e
last_added row number a b d e (Ok done) key owner ok err = some_added (λ place. is_under place row) (λ place. is_under place row) number a e (λ place is. is) (each_added row number a b d e key owner ok)
last_added row number a b d e (Err error) key owner ok err = record { each = λ place. again place (two.each place) }
  where
    again : (place : Place) → (listed_at d place ≡ listed_at a place) ⊎ ((is_under place row ≡ true) × (listed_at d place ≡ listed_at a place ++ number ∷ []))
        → (listed_at e place ≡ listed_at a place) ⊎ ((is_under place row ≡ true) × (listed_at e place ≡ listed_at a place ++ number ∷ []))
    again place (inl same) = inl (err place ∙ same)
    again place (inr more) = inr (more.0, err place ∙ more.1)

    two : AddsOrNot (λ place. is_under place row) number a d
    two = some_added (λ place. same_place (key_place (key_of row)) place || is_place (owner_place row) place) (λ place. is_under place row) number a d (under_two row)
        (record { each = λ place. owner.each place ∙ ap (added (is_place (owner_place row) place) number) (key.each place) ∙ added_both (same_place (key_place (key_of row)) place) (is_place (owner_place row) place) number (listed_at a place) (owner_apart row place) })

pub last_done : (row : Row) (number : ℕ) (a b d e : Index) (result : Result (Unit {0}) NoMemory) → AddsWhere (is_place (Some (key_place (key_of row)))) number a b → AddsWhere (is_place (owner_place row)) number b d
    → OnOk result (AddsWhere (is_place (other_place row)) number d e) → OnOk result (AddsWhere (λ place. is_under place row) number a e)
last_done row number a b d e (Ok done) key owner ok = each_added row number a b d e key owner ok
last_done row number a b d e (Err error) key owner ok = tt

pub back_out : (under : Place → Bool) (number : ℕ) (old mid new : Index) → IsBelow number old → AddsOrNot under number old mid → RemovesWhere under number mid new → IsSame old new
back_out under number old mid new below some removes place = removes.each place ∙ by (some.each place)
  where
    none : (t : Bool) → removed t number (listed_at old place) ≡ listed_at old place
    none true = removed_below number (listed_at old place) (below.below place)
    none false = refl

    by : (listed_at mid place ≡ listed_at old place) ⊎ ((under place ≡ true) × (listed_at mid place ≡ listed_at old place ++ number ∷ [])) → removed (under place) number (listed_at mid place) ≡ listed_at old place
    by (inl same) = ap (removed (under place) number) same ∙ none (under place)
    by (inr more) = ap (λ t. removed t number (listed_at mid place)) more.0 ∙ ap (removed true number) more.1 ∙ added_removed number (listed_at old place) (below.order place) (below.below place)

pub order_added : (under : Place → Bool) (number : ℕ) (old new : Index) → IsBelow number old → AddsOrNot under number old new → IsInOrder new
order_added under number old new below some place = by (some.each place)
  where
    by : (listed_at new place ≡ listed_at old place) ⊎ ((under place ≡ true) × (listed_at new place ≡ listed_at old place ++ number ∷ [])) → IsAscending (listed_at new place)
    by (inl same) = subst IsAscending (sym same) (below.order place)
    by (inr more) = subst IsAscending (sym more.1) (ascending_push (listed_at old place) number (below.order place) (below.below place))
