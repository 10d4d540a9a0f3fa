-- What the second index has as versions are added, ended, committed, dropped and taken back.
use Rattle.std.proofs.Common.{◌≡◌, ◌≢◌, ◌<◌, ◌+◌, ◌∙◌, ◌&&◌, ◌||◌, ◌==◌, ◌⊎◌, inl, inr, ℕ, zero, suc, Bool, true, false, if◌then◌else◌, Option, Some, None, IfSome, List, [], ◌∷◌, ◌++◌, length, map, set, nat_le, get_or-set_same, get_or-set_other, sym, ap, refl, subst, arith}
use Rattle.std.specs.Prelude.{slice_set}
use Rattle.std.specs.Option.{option_map_or}
use Rattle.std.proofs.lemmas.Bool.{and_parts, cases_eq, eqb-true}
use Rattle.catalog_rows.specs.Types.{Change, Xid, Stamp, Version}
use Rattle.catalog_rows.specs.Store.{has_committed, is_ended, end_if, is_back, restored}
use Rattle.catalog_rows.specs.Given.{if_back}
use Rattle.catalog_rows.specs.declared.place.Place.{Place}
use Rattle.catalog_rows.specs.declared.index.Index.{Index}
use Rattle.catalog_rows.specs.declared.indexes.Indexes.{Indexes}
use Rattle.catalog_rows.specs.Numbers.{removed}
use Rattle.catalog_rows.specs.Places.{is_under}
use Rattle.catalog_rows.specs.Slots.{IsIn, slot_at, version_numbered, slot_changed, slot_back}
use Rattle.catalog_rows.specs.Index.{listed_at, is_listed, is_dead, RemovesWhere, AddsBoth, RemovesBoth, AreSame, IsCurrent, StaysCurrent}
use Rattle.catalog_rows.proofs.SlotLists.{numbered_front, some_more, along}
use Rattle.catalog_rows.proofs.Ended.{end_if_yes, end_if_no, front_step}
use Rattle.catalog_rows.proofs.Within.{in_added, new_added, in_removed}
use Rattle.catalog_rows.proofs.Grown.{numbered_push}
use Rattle.catalog_rows.proofs.Serving.{alive_ended}
use Rattle.catalog_rows.proofs.TakenBack.{back_yes, back_no, restored_yes, restored_no}

-- nothing changes
pub current_same : (slots : List (Option Version)) (old new : Indexes) → AreSame old new → StaysCurrent slots old slots new
current_same slots old new same committed current = record {
  has = λ used place n. some_more (λ v. is_dead committed v ≡ false → is_under place v.row ≡ true → IsIn n (listed_at old.current place)) (λ v. is_dead committed v ≡ false → is_under place v.row ≡ true → IsIn n (listed_at new.current place))
      (version_numbered slots n) (λ v found alive under. subst (IsIn n) (sym (same.current place)) (found alive under)) (current.has (sym same.whole ∙ used) place n);
}

-- one more version
pub current_push : (slots : List (Option Version)) (number : ℕ) (v : Version) (old new : Indexes) → number ≡ length slots + 1 → AddsBoth (λ place. is_under place v.row) number old new → StaysCurrent slots old (slots ++ Some v ∷ []) new
current_push slots number v old new is adds committed current = record { has = λ used place n. each used place n (numbered_push slots number v is n) }
  where
    each : new.whole ≡ false → (place : Place) (n : ℕ) → (version_numbered (slots ++ Some v ∷ []) n ≡ version_numbered slots n) ⊎ ((n ≡ number) × (version_numbered (slots ++ Some v ∷ []) n ≡ Some v))
        → IfSome (version_numbered (slots ++ Some v ∷ []) n) (λ w. is_dead committed w ≡ false → is_under place w.row ≡ true → IsIn n (listed_at new.current place))
    each used place n (inl stayed) = along (λ w. is_dead committed w ≡ false → is_under place w.row ≡ true → IsIn n (listed_at new.current place)) (version_numbered slots n) (version_numbered (slots ++ Some v ∷ []) n) (sym stayed)
        (some_more (λ w. is_dead committed w ≡ false → is_under place w.row ≡ true → IsIn n (listed_at old.current place)) (λ w. is_dead committed w ≡ false → is_under place w.row ≡ true → IsIn n (listed_at new.current place)) (version_numbered slots n)
        (λ w found alive under. subst (IsIn n) (sym (adds.current.each place)) (in_added (is_under place v.row) n number (listed_at old.current place) (found alive under))) (current.has (sym adds.whole ∙ used) place n))
    each used place n (inr last) = along (λ w. is_dead committed w ≡ false → is_under place w.row ≡ true → IsIn n (listed_at new.current place)) (Some v) (version_numbered (slots ++ Some v ∷ []) n) (sym last.1)
        (λ alive under. subst (λ k. IsIn k (listed_at new.current place)) (sym last.0) (subst (IsIn number) (sym (adds.current.each place)) (new_added (is_under place v.row) number (listed_at old.current place) under)))

-- the last slot off
within : (slots : List (Option Version)) (n : ℕ) (v : Version) → version_numbered slots n ≡ Some v → n < 1 + length slots
within slots zero v is = omega arith
within slots (suc j) v is = let lt = slot_within slots j v is in omega (arith, lt)
  where
    slot_within : (xs : List (Option Version)) (j : ℕ) (v : Version) → slot_at xs j ≡ Some v → j < length xs
    slot_within [] j v is = let never : None ≡ Some v = is in absurd (cc)
    slot_within (x ∷ xs) zero v is = omega arith
    slot_within (x ∷ xs) (suc j) v is = let lt = slot_within xs j v is in omega (arith, lt)

pub current_off : (slots : List (Option Version)) (o : Option Version) (number : ℕ) (old new : Indexes) → number ≡ 1 + length slots → RemovesBoth (is_listed o) number old new → StaysCurrent (slots ++ o ∷ []) old slots new
current_off slots o number old new is removes committed current = record { has = λ used place n. each used place n (version_numbered slots n) refl }
  where
    each : new.whole ≡ false → (place : Place) (n : ℕ) (x : Option Version) → version_numbered slots n ≡ x → IfSome (version_numbered slots n) (λ v. is_dead committed v ≡ false → is_under place v.row ≡ true → IsIn n (listed_at new.current place))
    each used place n None at = subst (λ y. IfSome y (λ v. is_dead committed v ≡ false → is_under place v.row ≡ true → IsIn n (listed_at new.current place))) (sym at) tt
    each used place n (Some v) at =
        let other : n ≢ number = omega (arith, within slots n v at, is) in
        some_more (λ w. is_dead committed w ≡ false → is_under place w.row ≡ true → IsIn n (listed_at old.current place)) (λ w. is_dead committed w ≡ false → is_under place w.row ≡ true → IsIn n (listed_at new.current place)) (version_numbered slots n)
        (λ w found alive under. subst (IsIn n) (sym (removes.current.each place)) (in_removed (is_listed o place) n number (listed_at old.current place) other (found alive under)))
        (numbered_front (λ w. is_dead committed w ≡ false → is_under place w.row ≡ true → IsIn n (listed_at old.current place)) slots (o ∷ []) n (current.has (sym removes.whole ∙ used) place n))

-- a change ends what it ends
pub current_ended : (committed : List Bool) (stamp : Stamp) (change : Change) (front behind : List (Option Version)) (indexes : Indexes) → IsCurrent committed (front ++ behind) indexes
    → IsCurrent committed (map (slot_changed (end_if (is_ended committed stamp change) stamp)) front ++ behind) indexes
current_ended committed stamp change front behind indexes current = record { has = λ used place n. each used place n (front_step step front behind n) }
  where
    step : Version → Version
    step = end_if (is_ended committed stamp change) stamp

    Has : Place → ℕ → Version → Type 0
    Has = λ place n v. is_dead committed v ≡ false → is_under place v.row ≡ true → IsIn n (listed_at indexes.current place)

    of : (place : Place) (n : ℕ) (o : Option Version) → IfSome o (Has place n) → IfSome (slot_changed step o) (Has place n)
    of place n None has = tt
    of place n (Some v) has = by (is_ended committed stamp change v) refl
      where
        by : (t : Bool) → is_ended committed stamp change v ≡ t → Has place n (step v)
        by true is = subst (Has place n) (sym (end_if_yes (is_ended committed stamp change) stamp v is)) (λ alive under. has (alive_ended committed stamp change v is) under)
        by false is = subst (Has place n) (sym (end_if_no (is_ended committed stamp change) stamp v is)) has

    each : indexes.whole ≡ false → (place : Place) (n : ℕ)
        → (version_numbered (map (slot_changed step) front ++ behind) n ≡ slot_changed step (version_numbered (front ++ behind) n)) ⊎ (version_numbered (map (slot_changed step) front ++ behind) n ≡ version_numbered (front ++ behind) n)
        → IfSome (version_numbered (map (slot_changed step) front ++ behind) n) (Has place n)
    each used place n (inl stepped) = along (Has place n) (slot_changed step (version_numbered (front ++ behind) n)) (version_numbered (map (slot_changed step) front ++ behind) n) (sym stepped) (of place n (version_numbered (front ++ behind) n) (current.has used place n))
    each used place n (inr stayed) = along (Has place n) (version_numbered (front ++ behind) n) (version_numbered (map (slot_changed step) front ++ behind) n) (sym stayed) (current.has used place n)

-- more is committed, or as much in more places
dead_more : (old new : List Bool) → ((x : ℕ) → has_committed old x ≡ true → has_committed new x ≡ true) → (v : Version) → is_dead new v ≡ false → is_dead old v ≡ false
dead_more old new grows v alive = by (is_dead old v) refl
  where
    of_end : (o : Option Stamp) → option_map_or (λ stamp. has_committed old stamp.xid.0) o false ≡ true → option_map_or (λ stamp. has_committed new stamp.xid.0) o false ≡ true
    of_end None is = is
    of_end (Some stamp) is = grows stamp.xid.0 is

    by : (t : Bool) → is_dead old v ≡ t → is_dead old v ≡ false
    by false is = is
    by true is =
        let parts = and_parts (has_committed old v.by.xid.0) (option_map_or (λ stamp. has_committed old stamp.xid.0) v.ended false) is in
        let never : true ≡ false = sym (λ i. grows v.by.xid.0 parts.0 i && of_end v.ended parts.1 i) ∙ alive in
        absurd (cc)

current_grows : (old new : List Bool) (slots : List (Option Version)) (indexes : Indexes) → ((x : ℕ) → has_committed old x ≡ true → has_committed new x ≡ true) → IsCurrent old slots indexes → IsCurrent new slots indexes
current_grows old new slots indexes grows current = record {
  has = λ used place n. some_more (λ v. is_dead old v ≡ false → is_under place v.row ≡ true → IsIn n (listed_at indexes.current place)) (λ v. is_dead new v ≡ false → is_under place v.row ≡ true → IsIn n (listed_at indexes.current place))
      (version_numbered slots n) (λ v found alive. found (dead_more old new grows v alive)) (current.has used place n);
}

set_kept : (marks : List Bool) (y x : ℕ) → has_committed marks x ≡ true → has_committed (slice_set marks y true) x ≡ true
set_kept [] y x is = is
set_kept (m ∷ marks) zero zero is = refl
set_kept (m ∷ marks) zero (suc x) is = is
set_kept (m ∷ marks) (suc y) zero is = is
set_kept (m ∷ marks) (suc y) (suc x) is = set_kept marks y x is

pub current_committed : (committed : List Bool) (xid : ℕ) (slots : List (Option Version)) (indexes : Indexes) → IsCurrent committed slots indexes → IsCurrent (slice_set committed xid true) slots indexes
current_committed committed xid slots indexes current = current_grows committed (slice_set committed xid true) slots indexes (set_kept committed xid) current

placed_kept : (marks : List Bool) (more : List Bool) (x : ℕ) → has_committed marks x ≡ true → has_committed (marks ++ more) x ≡ true
placed_kept [] more x is = let never : false ≡ true = is in absurd (cc)
placed_kept (m ∷ marks) more zero is = is
placed_kept (m ∷ marks) more (suc x) is = placed_kept marks more x is

pub current_placed : (committed more : List Bool) (slots : List (Option Version)) (indexes : Indexes) → IsCurrent committed slots indexes → IsCurrent (committed ++ more) slots indexes
current_placed committed more slots indexes current = current_grows committed (committed ++ more) slots indexes (placed_kept committed more) current

-- a dead version is dropped
pub current_dropped : (committed : List Bool) (slots : List (Option Version)) (number : ℕ) (v : Version) (old new : Indexes) → Some v ≡ version_numbered slots number → is_dead committed v ≡ true → RemovesWhere (λ place. is_under place v.row) number old.current new.current
    → new.whole ≡ old.whole → IsCurrent committed slots old → IsCurrent committed slots new
current_dropped committed slots number v old new at dead removes same current = record { has = λ used place n. each used place n (cases_eq n number) }
  where
    each : new.whole ≡ false → (place : Place) (n : ℕ) → (n ≡ number) ⊎ (n ≢ number) → IfSome (version_numbered slots n) (λ w. is_dead committed w ≡ false → is_under place w.row ≡ true → IsIn n (listed_at new.current place))
    each used place n (inl here) = along (λ w. is_dead committed w ≡ false → is_under place w.row ≡ true → IsIn n (listed_at new.current place)) (Some v) (version_numbered slots n) (at ∙ ap (version_numbered slots) (sym here))
        (λ alive under. let never : true ≡ false = sym dead ∙ alive in absurd (cc))
    each used place n (inr other) = some_more (λ w. is_dead committed w ≡ false → is_under place w.row ≡ true → IsIn n (listed_at old.current place)) (λ w. is_dead committed w ≡ false → is_under place w.row ≡ true → IsIn n (listed_at new.current place)) (version_numbered slots n)
        (λ w found alive under. subst (IsIn n) (sym (removes.each place)) (in_removed (is_under place v.row) n number (listed_at old.current place) other (found alive under))) (current.has (sym same ∙ used) place n)

-- what a transaction that isn't committed did is taken back in a slot
pub current_back : (committed : List Bool) (xid : Xid) (from number at : ℕ) (slots : List (Option Version)) (o now : Option Version) (old new : Indexes) → number ≡ at + 1 → at < length slots → o ≡ slot_at slots at
    → now ≡ slot_back (is_back xid from) (slot_at slots at) → RemovesBoth (is_listed (if_back (is_back xid from) o)) number old new → has_committed committed xid.0 ≡ false → IsCurrent committed slots old → IsCurrent committed (set slots at now) new
current_back committed xid from number at slots o now old new is lt was made removes running current = record { has = λ used place n. each used place n }
  where
    back : Stamp → Bool
    back = is_back xid from

    Has : Indexes → Place → ℕ → Version → Type 0
    Has = λ indexes place n v. is_dead committed v ≡ false → is_under place v.row ≡ true → IsIn n (listed_at indexes.current place)

    ends_running : (e : Option Stamp) (t : Bool) → option_map_or back e false ≡ true → (t && option_map_or (λ stamp. has_committed committed stamp.xid.0) e false) ≡ false
    ends_running None t is_one = let never : false ≡ true = is_one in absurd (cc)
    ends_running (Some stamp) t is_one =
        let same : stamp.xid.0 ≡ xid.0 = eqb-true stamp.xid.0 xid.0 (and_parts (stamp.xid.0 == xid.0) (nat_le from stamp.command) is_one).0 in
        ap (λ x. t && has_committed committed x) same ∙ ap (λ b. t && b) running ∙ none t
      where
        none : (t : Bool) → (t && false) ≡ false
        none true = refl
        none false = refl

    -- what is left at the slot itself
    left : (place : Place) (x : Option Version) → IfSome x (Has old place number) → IfSome (slot_back back x) (λ v. is_dead committed v ≡ false → is_under place v.row ≡ true → IsIn number (removed (is_listed (if_back back x) place) number (listed_at old.current place)))
    left place None has = tt
    left place (Some v) has = by (back v.by) refl
      where
        Left : Option Version → Option Version → Type 0
        Left = λ y z. IfSome y (λ w. is_dead committed w ≡ false → is_under place w.row ≡ true → IsIn number (removed (is_listed z place) number (listed_at old.current place)))

        ended : (s : Bool) → option_map_or back v.ended false ≡ s → Left (Some (restored back v)) None
        ended true is_one = subst (λ w. Left (Some w) None) (sym (restored_yes back v is_one)) (λ alive under. has (ends_running v.ended (has_committed committed v.by.xid.0) is_one) under)
        ended false is_none = subst (λ w. Left (Some w) None) (sym (restored_no back v is_none)) (λ alive under. has alive under)

        by : (t : Bool) → back v.by ≡ t → Left (slot_back back (Some v)) (if_back back (Some v))
        by true is_one = subst (λ y. Left y (if_back back (Some v))) (sym (back_yes back v is_one)) tt
        by false is_none = subst (λ z. Left (slot_back back (Some v)) z) (sym (ap (λ t. if t then Some v else None) is_none))
            (subst (λ y. Left y None) (sym (back_no back v is_none)) (ended (option_map_or back v.ended false) refl))

    slot_numbered : (n : ℕ) → ((n ≡ number) × (version_numbered (set slots at now) n ≡ now)) ⊎ ((n ≢ number) × (version_numbered (set slots at now) n ≡ version_numbered slots n))
    slot_numbered zero = inr (omega (arith, is), refl)
    slot_numbered (suc j) = by (cases_eq j at)
      where
        by : (j ≡ at) ⊎ (j ≢ at) → ((suc j ≡ number) × (slot_at (set slots at now) j ≡ now)) ⊎ ((suc j ≢ number) × (slot_at (set slots at now) j ≡ slot_at slots j))
        by (inl same) = inl (omega (arith, same, is), ap (slot_at (set slots at now)) same ∙ get_or-set_same slots at now None lt)
        by (inr other) = inr (omega (arith, other, is), get_or-set_other slots at j now None other)

    at_number : version_numbered slots number ≡ slot_at slots at
    at_number = let far : number ≡ suc at = omega (arith, is) in ap (version_numbered slots) far

    each : new.whole ≡ false → (place : Place) (n : ℕ) → IfSome (version_numbered (set slots at now) n) (Has new place n)
    each used place n = by (slot_numbered n)
      where
        by : ((n ≡ number) × (version_numbered (set slots at now) n ≡ now)) ⊎ ((n ≢ number) × (version_numbered (set slots at now) n ≡ version_numbered slots n)) → IfSome (version_numbered (set slots at now) n) (Has new place n)
        by (inl here) = along (Has new place n) now (version_numbered (set slots at now) n) (sym here.1)
            (subst (λ y. IfSome y (Has new place n)) (sym made)
            (some_more (λ v. is_dead committed v ≡ false → is_under place v.row ≡ true → IsIn number (removed (is_listed (if_back back (slot_at slots at)) place) number (listed_at old.current place))) (Has new place n) (slot_back back (slot_at slots at))
            (λ v found alive under. subst (λ k. IsIn k (listed_at new.current place)) (sym here.0) (subst (IsIn number) (sym (removes.current.each place ∙ ap (λ x. removed (is_listed (if_back back x) place) number (listed_at old.current place)) was)) (found alive under)))
            (left place (slot_at slots at) (subst (λ y. IfSome y (Has old place number)) at_number (current.has (sym removes.whole ∙ used) place number)))))
        by (inr other) = along (Has new place n) (version_numbered slots n) (version_numbered (set slots at now) n) (sym other.1)
            (some_more (Has old place n) (Has new place n) (version_numbered slots n)
            (λ v found alive under. subst (IsIn n) (sym (removes.current.each place)) (in_removed (is_listed (if_back back o) place) n number (listed_at old.current place) other.0 (found alive under))) (current.has (sym removes.whole ∙ used) place n))

-- where the first index serves nothing is asked of the second
pub current_whole : (committed : List Bool) (slots : List (Option Version)) (indexes : Indexes) → indexes.whole ≡ true → IsCurrent committed slots indexes
current_whole committed slots indexes whole = record { has = λ used. let never : true ≡ false = sym whole ∙ used in absurd (cc) }

-- a transaction's writes are taken back: if it was committed, the first index serves from then on
or_true : (t : Bool) → (t || true) ≡ true
or_true true = refl
or_true false = refl

or_none : (t : Bool) → (t || false) ≡ false → t ≡ false
or_none true is = is
or_none false is = is

pub current_undone : (committed : List Bool) (xid : Xid) (done : Bool) (slots after : List (Option Version)) (old mid new : Indexes) → done ≡ has_committed committed xid.0 → mid.whole ≡ (old.whole || done) → mid.current ≡ old.current → new.whole ≡ mid.whole
    → ((marks : List Bool) → has_committed marks xid.0 ≡ false → IsCurrent marks slots mid → IsCurrent marks after new) → IsCurrent committed slots old → IsCurrent committed after new
current_undone committed xid true slots after old mid new is whole same stays step current = current_whole committed after new (stays ∙ whole ∙ or_true old.whole)
current_undone committed xid false slots after old mid new is whole same stays step current = step committed (sym is) (record {
  has = λ used place n. subst (λ (x : Index). IfSome (version_numbered slots n) (λ v. is_dead committed v ≡ false → is_under place v.row ≡ true → IsIn n (listed_at x place))) (sym same) (current.has (or_none old.whole (sym whole ∙ used)) place n);
})
