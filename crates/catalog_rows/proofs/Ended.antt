-- What a change ends, and what is noted of it.
use Rattle.std.proofs.Common.{◌≡◌, ◌+◌, ◌∙◌, ◌&&◌, ◌||◌, ◌⊎◌, inl, inr, ℕ, zero, suc, Bool, true, false, not, Option, Some, None, IfSome, List, [], ◌∷◌, ◌++◌, length, map, sym, ap, refl, subst, arith}
use Rattle.std.specs.Option.{option_map_or}
use Rattle.std.proofs.lemmas.Bool.{eq-eqb, and_parts}
use Rattle.std.proofs.Math.Bool.{or-true}
use Rattle.base_types.specs.RowKeys.{key_of, same_key}
use Rattle.row_visibility.specs.Seen.{seen_by}
use Rattle.catalog_rows.specs.Types.{RowKey, Change, Stamp, Version}
use Rattle.catalog_rows.specs.Store.{has_committed, counts, is_ended, ended_key, end_if}
use Rattle.catalog_rows.specs.declared.place.Place.{Place}
use Rattle.catalog_rows.specs.declared.index.Index.{Index}
use Rattle.catalog_rows.specs.declared.lists.Lists.{Lists}
use Rattle.catalog_rows.specs.Places.{key_place, is_under}
use Rattle.catalog_rows.specs.Slots.{IsIn, slot_at, version_numbered, numbers_at, Settles, slot_changed}
use Rattle.catalog_rows.specs.Index.{listed_at, own_at, ends_at, IsNumbered, IsNoted, IsIndexed}
use Rattle.catalog_rows.proofs.SlotLists.{settled_numbered, along}
use Rattle.catalog_rows.proofs.Exact.{has_number, numbers_at-append, numbers_at-map}
use Rattle.catalog_rows.proofs.Under.{key_under}

-- each version is at its places
pub covered : (slots : List (Option Version)) (index : Index) → IsNumbered slots index → (place : Place) (n : ℕ) → IfSome (version_numbered slots n) (λ v. is_under place v.row ≡ true → IsIn n (listed_at index place))
covered slots index is place zero = tt
covered slots index is place (suc j) = at_slot (slot_at slots j) refl
  where
    at_slot : (o : Option Version) → slot_at slots j ≡ o → IfSome o (λ v. is_under place v.row ≡ true → IsIn (suc j) (listed_at index place))
    at_slot None here = tt
    at_slot (Some v) here = λ under.
        let far : 1 + j ≡ suc j = omega arith in
        subst (λ n. IsIn n (listed_at index place)) far (subst (IsIn (1 + j)) (sym (is place)) (has_number (λ w. is_under place w.row) 1 slots j v here under))

-- a version that a test picks gets the end, and another stays
pub end_if_yes : (test : Version → Bool) (stamp : Stamp) (v : Version) → test v ≡ true → end_if test stamp v ≡ record { row = v.row; by = v.by; ended = Some stamp }
end_if_yes test stamp v is = ap (λ (b : Bool). elim b as (λ t. Version) [ true ↦ record { row = v.row; by = v.by; ended = Some stamp } | false ↦ v ]) is

pub end_if_no : (test : Version → Bool) (stamp : Stamp) (v : Version) → test v ≡ false → end_if test stamp v ≡ v
end_if_no test stamp v is = ap (λ (b : Bool). elim b as (λ t. Version) [ true ↦ record { row = v.row; by = v.by; ended = Some stamp } | false ↦ v ]) is

end_if_row : (test : Version → Bool) (stamp : Stamp) (v : Version) → (end_if test stamp v).row ≡ v.row
end_if_row test stamp v = by (test v) refl
  where
    by : (t : Bool) → test v ≡ t → (end_if test stamp v).row ≡ v.row
    by true is = ap (λ (w : Version). w.row) (end_if_yes test stamp v is)
    by false is = ap (λ (w : Version). w.row) (end_if_no test stamp v is)

never_both : (x y : Bool) → (x && (y && false)) ≡ false
never_both false y = refl
never_both true false = refl
never_both true true = refl

own_counts : (committed : List Bool) (stamp : Stamp) → counts committed (Some stamp.xid) stamp ≡ true
own_counts committed stamp = ap (λ t. has_committed committed stamp.xid.0 || t) (eq-eqb stamp.xid.0 stamp.xid.0 refl) ∙ or-true (has_committed committed stamp.xid.0)

own_end : (committed : List Bool) (stamp : Stamp) (change : Change) (v : Version) → is_ended committed stamp change (record { row = v.row; by = v.by; ended = Some stamp }) ≡ false
own_end committed stamp change v =
    ap (λ t. option_map_or (same_key (key_of v.row)) (ended_key change) false && (counts committed (Some stamp.xid) v.by && not t)) (own_counts committed stamp)
    ∙ never_both (option_map_or (same_key (key_of v.row)) (ended_key change) false) (counts committed (Some stamp.xid) v.by)

-- what a change has ended it doesn't end again
pub ended_twice : (committed : List Bool) (stamp : Stamp) (change : Change) (o : Option Version)
    → slot_changed (end_if (is_ended committed stamp change) stamp) (slot_changed (end_if (is_ended committed stamp change) stamp) o) ≡ slot_changed (end_if (is_ended committed stamp change) stamp) o
ended_twice committed stamp change None = refl
ended_twice committed stamp change (Some v) = ap Some (by (is_ended committed stamp change v) refl)
  where
    by : (t : Bool) → is_ended committed stamp change v ≡ t → end_if (is_ended committed stamp change) stamp (end_if (is_ended committed stamp change) stamp v) ≡ end_if (is_ended committed stamp change) stamp v
    by true is =
        let yes : end_if (is_ended committed stamp change) stamp v ≡ record { row = v.row; by = v.by; ended = Some stamp } = end_if_yes (is_ended committed stamp change) stamp v is in
        ap (end_if (is_ended committed stamp change) stamp) yes ∙ end_if_no (is_ended committed stamp change) stamp (record { row = v.row; by = v.by; ended = Some stamp }) (own_end committed stamp change v) ∙ sym yes
    by false is = ap (end_if (is_ended committed stamp change) stamp) (end_if_no (is_ended committed stamp change) stamp v is)

-- the row of a version that a change ends has the key of the change
pub ended_under : (committed : List Bool) (stamp : Stamp) (change : Change) (key : RowKey) (v : Version) → Some key ≡ ended_key change → is_ended committed stamp change v ≡ true → is_under (key_place key) v.row ≡ true
ended_under committed stamp change key v ends is =
    let parts = and_parts (option_map_or (same_key (key_of v.row)) (ended_key change) false) (seen_by (counts committed (Some stamp.xid)) v) is in
    key_under key v.row (ap (λ o. option_map_or (same_key (key_of v.row)) o false) ends ∙ parts.0)

covers_end : (committed : List Bool) (stamp : Stamp) (change : Change) (list : List ℕ) (n : ℕ) (o : Option Version) → (option_map_or (is_ended committed stamp change) o false ≡ true → IsIn n list)
    → (slot_changed (end_if (is_ended committed stamp change) stamp) o ≡ o) ⊎ IsIn n list
covers_end committed stamp change list n None has = inl refl
covers_end committed stamp change list n (Some v) has = by (is_ended committed stamp change v) refl
  where
    by : (t : Bool) → is_ended committed stamp change v ≡ t → (slot_changed (end_if (is_ended committed stamp change) stamp) (Some v) ≡ Some v) ⊎ IsIn n list
    by true is = inr (has is)
    by false is = inl (ap Some (end_if_no (is_ended committed stamp change) stamp v is))

pub ended_all : (committed : List Bool) (stamp : Stamp) (change : Change) (list : List ℕ) (old new : List (Option Version)) → ((n : ℕ) → ends_at committed stamp change old n ≡ true → IsIn n list)
    → Settles (slot_changed (end_if (is_ended committed stamp change) stamp)) list (None ∷ old) (None ∷ new) → new ≡ map (slot_changed (end_if (is_ended committed stamp change) stamp)) old
ended_all committed stamp change list old new has settles =
    settled_numbered (slot_changed (end_if (is_ended committed stamp change) stamp)) list old new (λ n. covers_end committed stamp change list n (version_numbered old n) (has n)) settles

-- what a change ends among the first slots it ends among all
pub front_ends : (committed : List Bool) (stamp : Stamp) (change : Change) (front behind : List (Option Version)) (n : ℕ) → ends_at committed stamp change front n ≡ true → ends_at committed stamp change (front ++ behind) n ≡ true
front_ends committed stamp change front behind zero ends = ends
front_ends committed stamp change front behind (suc j) ends = at_slot front j ends
  where
    at_slot : (front : List (Option Version)) (j : ℕ) → option_map_or (is_ended committed stamp change) (slot_at front j) false ≡ true → option_map_or (is_ended committed stamp change) (slot_at (front ++ behind) j) false ≡ true
    at_slot [] j at = let never : false ≡ true = at in absurd (cc)
    at_slot (o ∷ front) zero at = at
    at_slot (o ∷ front) (suc j) at = at_slot front j at

-- a change without a key ends no version
pub ends_none : (committed : List Bool) (stamp : Stamp) (change : Change) (slots : List (Option Version)) (P : ℕ → Type 0) → ended_key change ≡ None → (n : ℕ) → ends_at committed stamp change slots n ≡ true → P n
ends_none committed stamp change slots P none n ended = of (version_numbered slots n) ended
  where
    of : (o : Option Version) → option_map_or (is_ended committed stamp change) o false ≡ true → P n
    of None at = let never : false ≡ true = at in absurd (cc)
    of (Some v) at = let never : false ≡ true = sym (ap (λ o. option_map_or (same_key (key_of v.row)) o false && seen_by (counts committed (Some stamp.xid)) v) none) ∙ at in absurd (cc)

-- a version that a change ends is noted for it
ended_noted : (committed : List Bool) (stamp : Stamp) (change : Change) (touched : List (List ℕ)) (n : ℕ) (o : Option Version) → (option_map_or (is_ended committed stamp change) o false ≡ true → IsIn n (own_at touched stamp.xid.0))
    → IfSome o (IsNoted touched n) → IfSome (slot_changed (end_if (is_ended committed stamp change) stamp) o) (IsNoted touched n)
ended_noted committed stamp change touched n None own noted = tt
ended_noted committed stamp change touched n (Some v) own noted = by (is_ended committed stamp change v) refl
  where
    by : (t : Bool) → is_ended committed stamp change v ≡ t → IsNoted touched n (end_if (is_ended committed stamp change) stamp v)
    by true is = subst (IsNoted touched n) (sym (end_if_yes (is_ended committed stamp change) stamp v is)) (record { writer = noted.writer; ender = own is })
    by false is = subst (IsNoted touched n) (sym (end_if_no (is_ended committed stamp change) stamp v is)) noted

-- a version in the slots of which the first ones are stepped
pub front_step : (step : Version → Version) (front behind : List (Option Version)) (n : ℕ)
    → (version_numbered (map (slot_changed step) front ++ behind) n ≡ slot_changed step (version_numbered (front ++ behind) n)) ⊎ (version_numbered (map (slot_changed step) front ++ behind) n ≡ version_numbered (front ++ behind) n)
front_step step front behind zero = inr refl
front_step step front behind (suc j) = at_slot front j
  where
    at_slot : (front : List (Option Version)) (j : ℕ) → (slot_at (map (slot_changed step) front ++ behind) j ≡ slot_changed step (slot_at (front ++ behind) j)) ⊎ (slot_at (map (slot_changed step) front ++ behind) j ≡ slot_at (front ++ behind) j)
    at_slot [] j = inr refl
    at_slot (o ∷ front) zero = inl refl
    at_slot (o ∷ front) (suc j) = at_slot front j

-- the lists have all that is left after a change has ended what it ends
pub ended_indexed : (committed : List Bool) (stamp : Stamp) (change : Change) (front behind : List (Option Version)) (lists : Lists) → IsIndexed (front ++ behind) lists
    → ((n : ℕ) → ends_at committed stamp change (front ++ behind) n ≡ true → IsIn n (own_at lists.touched.items stamp.xid.0)) → IsIndexed (map (slot_changed (end_if (is_ended committed stamp change) stamp)) front ++ behind) lists
ended_indexed committed stamp change front behind lists is own = record {
  numbered = λ place. is.numbered place ∙ same place;
  only = is.only;
  noted = λ n. each n (front_step step front behind n);
}
  where
    step : Version → Version
    step = end_if (is_ended committed stamp change) stamp

    same : (place : Place) → numbers_at (λ v. is_under place v.row) 1 (front ++ behind) ≡ numbers_at (λ v. is_under place v.row) 1 (map (slot_changed step) front ++ behind)
    same place =
        let test : Version → Bool = λ v. is_under place v.row in
        let stays : numbers_at (λ v. is_under place v.row) 1 (map (slot_changed step) front) ≡ numbers_at (λ v. is_under place v.row) 1 front =
        numbers_at-map (λ v. is_under place v.row) step (λ v. ap (is_under place) (end_if_row (is_ended committed stamp change) stamp v)) 1 front in
        numbers_at-append (λ v. is_under place v.row) 1 front behind
        ∙ (λ i. sym stays i ++ numbers_at (λ v. is_under place v.row) (1 + sym (length_map (slot_changed step) front) i) behind)
        ∙ sym (numbers_at-append (λ v. is_under place v.row) 1 (map (slot_changed step) front) behind)
      where
        length_map : (f : Option Version → Option Version) (xs : List (Option Version)) → length (map f xs) ≡ length xs
        length_map f [] = refl
        length_map f (x ∷ xs) = ap suc (length_map f xs)

    each : (n : ℕ) → (version_numbered (map (slot_changed step) front ++ behind) n ≡ slot_changed step (version_numbered (front ++ behind) n)) ⊎ (version_numbered (map (slot_changed step) front ++ behind) n ≡ version_numbered (front ++ behind) n)
        → IfSome (version_numbered (map (slot_changed step) front ++ behind) n) (IsNoted lists.touched.items n)
    each n (inl stepped) = along (IsNoted lists.touched.items n) (slot_changed step (version_numbered (front ++ behind) n)) (version_numbered (map (slot_changed step) front ++ behind) n) (sym stepped)
        (ended_noted committed stamp change lists.touched.items n (version_numbered (front ++ behind) n) (own n) (is.noted n))
    each n (inr stayed) = along (IsNoted lists.touched.items n) (version_numbered (front ++ behind) n) (version_numbered (map (slot_changed step) front ++ behind) n) (sym stayed) (is.noted n)

-- what another change ends was noted before
pub other_noted : (committed : List Bool) (stamp : Stamp) (change other : Change) (front behind : List (Option Version)) (n : ℕ)
    → ends_at committed stamp other (map (slot_changed (end_if (is_ended committed stamp change) stamp)) front ++ behind) n ≡ true → ends_at committed stamp other (front ++ behind) n ≡ true
other_noted committed stamp change other front behind n ended = each (front_step step front behind n)
  where
    step : Version → Version
    step = end_if (is_ended committed stamp change) stamp

    kept : (o : Option Version) → option_map_or (is_ended committed stamp other) (slot_changed step o) false ≡ true → option_map_or (is_ended committed stamp other) o false ≡ true
    kept None at = at
    kept (Some v) at = by (is_ended committed stamp change v) refl
      where
        by : (t : Bool) → is_ended committed stamp change v ≡ t → is_ended committed stamp other v ≡ true
        by false not_ended = sym (ap (is_ended committed stamp other) (end_if_no (is_ended committed stamp change) stamp v not_ended)) ∙ at
        by true is_now = let never : false ≡ true = sym (own_end committed stamp other v) ∙ sym (ap (is_ended committed stamp other) (end_if_yes (is_ended committed stamp change) stamp v is_now)) ∙ at in absurd (cc)

    each : (version_numbered (map (slot_changed step) front ++ behind) n ≡ slot_changed step (version_numbered (front ++ behind) n)) ⊎ (version_numbered (map (slot_changed step) front ++ behind) n ≡ version_numbered (front ++ behind) n)
        → ends_at committed stamp other (front ++ behind) n ≡ true
    each (inl stepped) = kept (version_numbered (front ++ behind) n) (sym (ap (λ o. option_map_or (is_ended committed stamp other) o false) stepped) ∙ ended)
    each (inr stayed) = sym (ap (λ o. option_map_or (is_ended committed stamp other) o false) stayed) ∙ ended
