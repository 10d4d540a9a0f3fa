-- What a transaction did is taken back at a slot, and in the lists.
use Rattle.std.proofs.Common.{◌≡◌, ◌<◌, ◌+◌, ◌∙◌, ◌&&◌, ◌==◌, ◌⊎◌, inl, inr, ℕ, zero, suc, Bool, true, false, not, cond, if◌then◌else◌, Option, Some, None, IfSome, List, [], ◌∷◌, nat_le, length, map, filter, set, sym, ap, refl, subst, arith}
use Rattle.std.specs.Option.{option_map_or}
use Rattle.std.proofs.lemmas.Bool.{eqb-true, and_parts}
use Rattle.std.proofs.lemmas.List.{length-map}
use Rattle.catalog_rows.specs.Types.{Xid, Stamp, Version}
use Rattle.catalog_rows.specs.Store.{is_back, restored, taken_back, numbers_where}
use Rattle.catalog_rows.specs.Given.{if_back}
use Rattle.catalog_rows.specs.declared.place.Place.{Place}
use Rattle.catalog_rows.specs.declared.index.Index.{Index}
use Rattle.catalog_rows.specs.declared.lists.Lists.{Lists}
use Rattle.catalog_rows.specs.Numbers.{removed}
use Rattle.catalog_rows.specs.Places.{is_under}
use Rattle.catalog_rows.specs.Slots.{IsIn, slot_at, version_numbered, versions_in, numbers_at, numbers_in, Settles, slot_back}
use Rattle.catalog_rows.specs.Index.{listed_at, own_at, is_listed, RemovesWhere, IsNumbered, IsOnly, IsNoted, IsIndexed}
use Rattle.catalog_rows.proofs.Ascending.{first_out, later_out}
use Rattle.catalog_rows.proofs.Exact.{yes_at, no_at, above_first, numbers_where_at}
use Rattle.catalog_rows.proofs.SlotLists.{settled_numbered, slot_at-map, along}

-- an end is taken back where a test says so
pub restored_yes : (back : Stamp → Bool) (v : Version) → option_map_or back v.ended false ≡ true → restored back v ≡ record { row = v.row; by = v.by; ended = None }
restored_yes back v is = ap (λ (b : Bool). let e : Option Stamp = elim b as (λ t. Option Stamp) [ true ↦ None | false ↦ v.ended ] in let w : Version = record { row = v.row; by = v.by; ended = e } in w) is

pub restored_no : (back : Stamp → Bool) (v : Version) → option_map_or back v.ended false ≡ false → restored back v ≡ v
restored_no back v is = ap (λ (b : Bool). let e : Option Stamp = elim b as (λ t. Option Stamp) [ true ↦ None | false ↦ v.ended ] in let w : Version = record { row = v.row; by = v.by; ended = e } in w) is

pub back_yes : (back : Stamp → Bool) (v : Version) → back v.by ≡ true → slot_back back (Some v) ≡ None
back_yes back v is = ap (λ t. if t then None else Some (restored back v)) is

pub back_no : (back : Stamp → Bool) (v : Version) → back v.by ≡ false → slot_back back (Some v) ≡ Some (restored back v)
back_no back v is = ap (λ t. if t then None else Some (restored back v)) is

-- what is taken back isn't there to be taken back again
pub back_twice : (back : Stamp → Bool) (o : Option Version) → slot_back back (slot_back back o) ≡ slot_back back o
back_twice back None = refl
back_twice back (Some v) = by (back v.by) refl
  where
    again : (t : Bool) → option_map_or back v.ended false ≡ t → restored back (restored back v) ≡ restored back v
    again true is = ap (restored back) (restored_yes back v is) ∙ sym (restored_yes back v is)
    again false is = ap (restored back) (restored_no back v is)

    by : (t : Bool) → back v.by ≡ t → slot_back back (slot_back back (Some v)) ≡ slot_back back (Some v)
    by true is = ap (slot_back back) (back_yes back v is) ∙ sym (back_yes back v is)
    by false is = ap (slot_back back) (back_no back v is) ∙ back_no back (restored back v) is ∙ ap Some (again (option_map_or back v.ended false) refl) ∙ sym (back_no back v is)

-- what is left has noted what it had
back_noted : (back : Stamp → Bool) (touched : List (List ℕ)) (n : ℕ) (o : Option Version) → IfSome o (IsNoted touched n) → IfSome (slot_back back o) (IsNoted touched n)
back_noted back touched n None noted = tt
back_noted back touched n (Some v) noted = by (back v.by) refl (option_map_or back v.ended false) refl
  where
    by : (t : Bool) → back v.by ≡ t → (s : Bool) → option_map_or back v.ended false ≡ s → IfSome (slot_back back (Some v)) (IsNoted touched n)
    by true is s ended = subst (λ o. IfSome o (IsNoted touched n)) (sym (back_yes back v is)) tt
    by false is true ended = subst (λ o. IfSome o (IsNoted touched n)) (sym (back_no back v is ∙ ap Some (restored_yes back v ended))) (record { writer = noted.writer; ender = tt })
    by false is false ended = subst (λ o. IfSome o (IsNoted touched n)) (sym (back_no back v is ∙ ap Some (restored_no back v ended))) noted

-- the list of the transaction has all slots where something is taken back
its_own : (xid : Xid) (from : ℕ) (stamp : Stamp) (P : ℕ → Type 0) → is_back xid from stamp ≡ true → P stamp.xid.0 → P xid.0
its_own xid from stamp P is found = subst P (eqb-true stamp.xid.0 xid.0 (and_parts (stamp.xid.0 == xid.0) (nat_le from stamp.command) is).0) found

ended_own : (xid : Xid) (from : ℕ) (e : Option Stamp) (P : ℕ → Type 0) → option_map_or (is_back xid from) e false ≡ true → IfSome e (λ stamp. P stamp.xid.0) → P xid.0
ended_own xid from None P is found = let never : false ≡ true = is in absurd (cc)
ended_own xid from (Some stamp) P is found = its_own xid from stamp P is found

covers_back : (xid : Xid) (from : ℕ) (touched : List (List ℕ)) (n : ℕ) (o : Option Version) → IfSome o (IsNoted touched n) → (slot_back (is_back xid from) o ≡ o) ⊎ IsIn n (own_at touched xid.0)
covers_back xid from touched n None noted = inl refl
covers_back xid from touched n (Some v) noted = by (is_back xid from v.by) refl (option_map_or (is_back xid from) v.ended false) refl
  where
    by : (t : Bool) → is_back xid from v.by ≡ t → (s : Bool) → option_map_or (is_back xid from) v.ended false ≡ s → (slot_back (is_back xid from) (Some v) ≡ Some v) ⊎ IsIn n (own_at touched xid.0)
    by true is s ended = inr (its_own xid from v.by (λ x. IsIn n (own_at touched x)) is noted.writer)
    by false is true ended = inr (ended_own xid from v.ended (λ x. IsIn n (own_at touched x)) ended noted.ender)
    by false is false ended = inl (back_no (is_back xid from) v is ∙ ap Some (restored_no (is_back xid from) v ended))

-- all is taken back
pub back_all : (xid : Xid) (from : ℕ) (lists : Lists) (list : List ℕ) (old new : List (Option Version)) → list ≡ own_at lists.touched.items xid.0 → IsIndexed old lists → Settles (slot_back (is_back xid from)) list (None ∷ old) (None ∷ new)
    → new ≡ map (slot_back (is_back xid from)) old
back_all xid from lists list old new is_own is settles =
    settled_numbered (slot_back (is_back xid from)) (own_at lists.touched.items xid.0) old new (λ j. covers_back xid from lists.touched.items j (version_numbered old j) (is.noted j))
    (subst (λ l. Settles (slot_back (is_back xid from)) l (None ∷ old) (None ∷ new)) is_own settles)

pub back_indexed : (xid : Xid) (from : ℕ) (old new : Lists) (list : List ℕ) (slots after : List (Option Version)) → list ≡ own_at old.touched.items xid.0 → IsIndexed slots old → new.touched ≡ old.touched → IsNumbered after new.indexes.all → IsOnly new.indexes
    → Settles (slot_back (is_back xid from)) list (None ∷ slots) (None ∷ after) → IsIndexed after new
back_indexed xid from old new list slots after is_own is same numbered only settles = record { numbered = numbered; only = only; noted = λ n. subst (λ t. IfSome (version_numbered after n) (IsNoted t.items n)) (sym same) (each n) }
  where
    step : Option Version → Option Version
    step = slot_back (is_back xid from)

    each : (n : ℕ) → IfSome (version_numbered after n) (IsNoted old.touched.items n)
    each n = along (IsNoted old.touched.items n) (step (version_numbered slots n)) (version_numbered after n)
        (sym (slot_at-map step refl (None ∷ slots) n) ∙ ap (λ (xs : List (Option Version)). version_numbered xs n) (sym (back_all xid from old list slots after is_own is settles)))
        (back_noted (is_back xid from) old.touched.items n (version_numbered slots n) (is.noted n))

-- a version was added in a command whose writes are taken back, and is listed at the place
abbrev is_back_under : (Stamp → Bool) → Place → Option Version → Bool
is_back_under back place None = false
is_back_under back place (Some v) = back v.by && is_under place v.row

back_under : (back : Stamp → Bool) (place : Place) (o : Option Version) → is_listed (if_back back o) place ≡ is_back_under back place o
back_under back place None = refl
back_under back place (Some v) = by (back v.by) refl
  where
    by : (t : Bool) → back v.by ≡ t → is_listed (if_back back (Some v)) place ≡ (back v.by && is_under place v.row)
    by true is = ap (λ b. is_listed (if b then Some v else None) place) is ∙ sym (ap (λ b. b && is_under place v.row) is)
    by false is = ap (λ b. is_listed (if b then Some v else None) place) is ∙ sym (ap (λ b. b && is_under place v.row) is)

-- the numbers where a slot is taken back
numbers_back : (place : Place) (back : Stamp → Bool) (n at : ℕ) (slots : List (Option Version)) → at < length slots
    → numbers_at (λ v. is_under place v.row) n (set slots at (slot_back back (slot_at slots at))) ≡ removed (is_back_under back place (slot_at slots at)) (n + at) (numbers_at (λ v. is_under place v.row) n slots)
numbers_back place back n at [] within = absurd (omega (arith, within))
numbers_back place back n zero (None ∷ slots) within = refl
numbers_back place back n zero (Some v ∷ slots) within = by (back v.by) refl (is_under place v.row) refl
  where
    test : Version → Bool
    test = λ w. is_under place w.row

    here : n + 0 ≡ n
    here = omega arith

    rest : List ℕ
    rest = numbers_at test (n + 1) slots

    by : (t : Bool) → back v.by ≡ t → (s : Bool) → is_under place v.row ≡ s → numbers_at test n (slot_back back (Some v) ∷ slots) ≡ removed (back v.by && is_under place v.row) (n + 0) (numbers_at test n (Some v ∷ slots))
    by true is true under =
        ap (λ o. numbers_at test n (o ∷ slots)) (back_yes back v is) ∙ sym (first_out n rest (above_first test n slots)) ∙ ap (removed true n) (sym (yes_at test n v slots under)) ∙ ap (λ k. removed true k (numbers_at test n (Some v ∷ slots))) (sym here)
        ∙ ap (λ t. removed t (n + 0) (numbers_at test n (Some v ∷ slots))) (λ i. sym is i && sym under i)
    by true is false under =
        ap (λ o. numbers_at test n (o ∷ slots)) (back_yes back v is) ∙ sym (no_at test n v slots under) ∙ ap (λ t. removed t (n + 0) (numbers_at test n (Some v ∷ slots))) (λ i. sym is i && sym under i)
    by false is s under =
        ap (λ o. numbers_at test n (o ∷ slots)) (back_no back v is) ∙ ap (λ t. removed t (n + 0) (numbers_at test n (Some v ∷ slots))) (λ i. sym is i && is_under place v.row)
numbers_back place back n (suc at) (None ∷ slots) within =
    let far : n + 1 + at ≡ n + suc at = omega arith in
    numbers_back place back (n + 1) at slots (omega (arith, within)) ∙ ap (λ k. removed (is_back_under back place (slot_at slots at)) k (numbers_at (λ v. is_under place v.row) (n + 1) slots)) far
numbers_back place back n (suc at) (Some v ∷ slots) within = by (is_under place v.row) refl (numbers_back place back (n + 1) at slots (omega (arith, within)) ∙ ap (λ k. removed (is_back_under back place (slot_at slots at)) k (numbers_at (λ w. is_under place w.row) (n + 1) slots)) far)
  where
    test : Version → Bool
    test = λ w. is_under place w.row

    far : n + 1 + at ≡ n + suc at
    far = omega arith

    after : List (Option Version)
    after = set slots at (slot_back back (slot_at slots at))

    out : Bool
    out = is_back_under back place (slot_at slots at)

    kept : (t : Bool) → removed t (n + suc at) (n ∷ numbers_at test (n + 1) slots) ≡ n ∷ removed t (n + suc at) (numbers_at test (n + 1) slots)
    kept true = later_out (n + suc at) n (numbers_at test (n + 1) slots) (omega arith)
    kept false = refl

    by : (s : Bool) → is_under place v.row ≡ s → numbers_at test (n + 1) after ≡ removed out (n + suc at) (numbers_at test (n + 1) slots) → numbers_at test n (Some v ∷ after) ≡ removed out (n + suc at) (numbers_at test n (Some v ∷ slots))
    by true under more = yes_at test n v after under ∙ ap (λ l. n ∷ l) more ∙ sym (kept out) ∙ ap (removed out (n + suc at)) (sym (yes_at test n v slots under))
    by false under more = no_at test n v after under ∙ more ∙ ap (removed out (n + suc at)) (sym (no_at test n v slots under))

pub numbered_back : (back : Stamp → Bool) (number at : ℕ) (slots : List (Option Version)) (o now : Option Version) (old new : Index) → number ≡ at + 1 → at < length slots → o ≡ slot_at slots at → now ≡ slot_back back (slot_at slots at) → IsNumbered slots old
    → RemovesWhere (is_listed (if_back back o)) number old new → IsNumbered (set slots at now) new
numbered_back back number at slots o now old new is within was made numbered removes place =
    let far : number ≡ 1 + at = omega (arith, is) in
    removes.each place ∙ ap (λ t. removed t number (listed_at old place)) (back_under back place o) ∙ ap (removed (is_back_under back place o) number) (numbered place)
    ∙ (λ i. removed (is_back_under back place (was i)) (far i) (numbers_at (λ v. is_under place v.row) 1 slots))
    ∙ sym (numbers_back place back 1 at slots within) ∙ ap (λ x. numbers_at (λ v. is_under place v.row) 1 (set slots at x)) (sym made)

-- the numbers of what is left
left_numbers : (back : Stamp → Bool) (n : ℕ) (slots : List (Option Version)) → numbers_at (λ v. true) n (map (slot_back back) slots) ≡ numbers_at (λ v. not (back v.by)) n slots
left_numbers back n [] = refl
left_numbers back n (None ∷ slots) = left_numbers back (n + 1) slots
left_numbers back n (Some v ∷ slots) = by (back v.by) refl (left_numbers back (n + 1) slots)
  where
    by : (t : Bool) → back v.by ≡ t → numbers_at (λ v. true) (n + 1) (map (slot_back back) slots) ≡ numbers_at (λ v. not (back v.by)) (n + 1) slots
        → numbers_at (λ v. true) n (slot_back back (Some v) ∷ map (slot_back back) slots) ≡ numbers_at (λ v. not (back v.by)) n (Some v ∷ slots)
    by true is rest = ap (λ o. numbers_at (λ v. true) n (o ∷ map (slot_back back) slots)) (back_yes back v is) ∙ rest ∙ sym (no_at (λ w. not (back w.by)) n v slots (ap not is))
    by false is rest = ap (λ o. numbers_at (λ v. true) n (o ∷ map (slot_back back) slots)) (back_no back v is) ∙ ap (λ l. n ∷ l) rest ∙ sym (yes_at (λ w. not (back w.by)) n v slots (ap not is))

pub numbers_left : (back : Stamp → Bool) (slots : List (Option Version)) → numbers_in (map (slot_back back) slots) ≡ numbers_where (λ v. not (back v.by)) (versions_in slots) (numbers_in slots)
numbers_left back slots = left_numbers back 1 slots ∙ sym (numbers_where_at (λ v. not (back v.by)) 1 slots)

-- the versions that are left, in as many slots
pub versions_left : (back : Stamp → Bool) (slots : List (Option Version)) → versions_in (map (slot_back back) slots) ≡ taken_back back (versions_in slots)
versions_left back [] = refl
versions_left back (None ∷ slots) = versions_left back slots
versions_left back (Some v ∷ slots) = by (back v.by) refl (versions_left back slots)
  where
    by : (t : Bool) → back v.by ≡ t → versions_in (map (slot_back back) slots) ≡ taken_back back (versions_in slots) → versions_in (map (slot_back back) (Some v ∷ slots)) ≡ taken_back back (versions_in (Some v ∷ slots))
    by true is rest = ap (λ t. versions_in ((if t then None else Some (restored back v)) ∷ map (slot_back back) slots)) is ∙ rest
        ∙ sym (ap (λ t. map (restored back) (cond (not t) (v ∷ filter (λ x. not (back x.by)) (versions_in slots)) (filter (λ x. not (back x.by)) (versions_in slots)))) is)
    by false is rest = ap (λ t. versions_in ((if t then None else Some (restored back v)) ∷ map (slot_back back) slots)) is ∙ ap (λ vs. restored back v ∷ vs) rest
        ∙ sym (ap (λ t. map (restored back) (cond (not t) (v ∷ filter (λ x. not (back x.by)) (versions_in slots)) (filter (λ x. not (back x.by)) (versions_in slots)))) is)

pub slots_left : (back : Stamp → Bool) (slots : List (Option Version)) → length (map (slot_back back) slots) ≡ length slots
slots_left back slots = length-map slots (slot_back back)
