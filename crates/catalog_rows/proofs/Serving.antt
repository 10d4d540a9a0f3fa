-- What is looked for is among the numbers of a list that has each version that isn't dead.
use Rattle.std.proofs.Common.{◌≡◌, ◌≢◌, ◌<◌, ◌≤◌, ◌+◌, ◌∙◌, ◌&&◌, ◌||◌, ◌⊎◌, inl, inr, ℕ, zero, suc, Bool, true, false, not, cond, nat_lt, Option, Some, None, IfSome, List, [], ◌∷◌, ◌++◌, length, map, filter, find, filter_map, fold, append_assoc, sym, ap, refl, subst, arith}
use Rattle.std.specs.Option.{option_map_or}
use Rattle.std.specs.List.{AllByRecursion, cons_option}
use Rattle.std.proofs.lemmas.Bool.{and_parts, cases_eq}
use Rattle.std.proofs.lemmas.List.{length_push}
use Rattle.base_types.specs.Scans.{selects, put_in_order}
use Rattle.base_types.specs.RowKeys.{key_of, same_key}
use Rattle.row_visibility.specs.Seen.{is_own, seen_by, sees_stamp, sees_version}
use Rattle.catalog_rows.specs.Types.{RowKey, Purpose, Change, Xid, Stamp, Version, Reader}
use Rattle.catalog_rows.specs.Store.{has_committed, counts, is_claimed, is_running_other, is_ended, ended_key}
use Rattle.catalog_rows.specs.declared.place.Place.{Place}
use Rattle.catalog_rows.specs.declared.index.Index.{Index}
use Rattle.catalog_rows.specs.declared.indexes.Indexes.{Indexes}
use Rattle.catalog_rows.specs.Numbers.{IsAscending}
use Rattle.catalog_rows.specs.Places.{is_under, key_place, scan_place}
use Rattle.catalog_rows.specs.Slots.{IsIn, slot_at, version_numbered, version_for, passes_at, versions_in}
use Rattle.catalog_rows.specs.Index.{listed_at, ends_at, is_dead, IsNumbered, IsOnly, IsCurrent, Serves}
use Rattle.catalog_rows.proofs.Ascending.{all_in, all_more}
use Rattle.catalog_rows.proofs.SlotLists.{some_more}
use Rattle.catalog_rows.proofs.Grown.{in_order}
use Rattle.catalog_rows.proofs.Ended.{covered, ended_under}
use Rattle.catalog_rows.proofs.Given.{given}
use Rattle.catalog_rows.proofs.Under.{selects_under}

-- both indexes serve
pub serves_all : (committed : List Bool) (slots : List (Option Version)) (index : Index) (place : Place) (list : List ℕ) → list ≡ listed_at index place → IsNumbered slots index → Serves committed slots place list
serves_all committed slots index place list is_list is = record {
  order = subst IsAscending (sym is_list) (in_order slots index is place);
  has = λ n. some_more (λ v. is_under place v.row ≡ true → IsIn n (listed_at index place)) (λ v. is_dead committed v ≡ false → is_under place v.row ≡ true → IsIn n list) (version_numbered slots n)
      (λ v found alive under. subst (IsIn n) (sym is_list) (found under)) (covered slots index is place n);
}

pub serves_current : (committed : List Bool) (slots : List (Option Version)) (indexes : Indexes) (place : Place) (list : List ℕ) → list ≡ listed_at indexes.current place → indexes.whole ≡ false → IsOnly indexes → IsCurrent committed slots indexes
    → Serves committed slots place list
serves_current committed slots indexes place list is_list used only current = record {
  order = subst IsAscending (sym is_list) (only.order place);
  has = λ n. some_more (λ v. is_dead committed v ≡ false → is_under place v.row ≡ true → IsIn n (listed_at indexes.current place)) (λ v. is_dead committed v ≡ false → is_under place v.row ≡ true → IsIn n list) (version_numbered slots n)
      (λ v found alive under. subst (IsIn n) (sym is_list) (found alive under)) (current.has used place n);
}

-- who sees what is committed doesn't see a dead version
pub alive_seen : (committed : List Bool) (sees : Stamp → Bool) (v : Version) → ((stamp : Stamp) → has_committed committed stamp.xid.0 ≡ true → sees stamp ≡ true) → seen_by sees v ≡ true → is_dead committed v ≡ false
alive_seen committed sees v all seen = by v.ended refl
  where
    by : (o : Option Stamp) → v.ended ≡ o → is_dead committed v ≡ false
    by None is = ap (λ o. has_committed committed v.by.xid.0 && option_map_or (λ stamp. has_committed committed stamp.xid.0) o false) is ∙ none (has_committed committed v.by.xid.0)
      where
        none : (t : Bool) → (t && false) ≡ false
        none true = refl
        none false = refl
    by (Some stamp) is = at (has_committed committed stamp.xid.0) refl
      where
        at : (t : Bool) → has_committed committed stamp.xid.0 ≡ t → is_dead committed v ≡ false
        at false isnt = ap (λ o. has_committed committed v.by.xid.0 && option_map_or (λ s. has_committed committed s.xid.0) o false) is ∙ ap (λ t. has_committed committed v.by.xid.0 && t) isnt ∙ none (has_committed committed v.by.xid.0)
          where
            none : (t : Bool) → (t && false) ≡ false
            none true = refl
            none false = refl
        at true done =
            let open_end : not (option_map_or sees v.ended false) ≡ true = (and_parts (sees v.by) (not (option_map_or sees v.ended false)) seen).1 in
            let never : false ≡ true = sym (ap (λ o. not (option_map_or sees o false)) is ∙ ap not (all stamp done)) ∙ open_end in
            absurd (cc)

first_true : (a b : Bool) → a ≡ true → (a || b) ≡ true
first_true a b is = ap (λ t. t || b) is

pub alive_sees : (committed : List Bool) (reader : Reader) (v : Version) → sees_version (has_committed committed) reader v ≡ true → is_dead committed v ≡ false
alive_sees committed reader v seen =
    alive_seen committed (sees_stamp (has_committed committed) reader) v (λ stamp done. first_true (has_committed committed stamp.xid.0) (is_own reader.xid stamp && nat_lt stamp.command reader.command) done) seen

pub alive_counts : (committed : List Bool) (own : Option Xid) (v : Version) → seen_by (counts committed own) v ≡ true → is_dead committed v ≡ false
alive_counts committed own v seen = alive_seen committed (counts committed own) v (λ stamp done. first_true (has_committed committed stamp.xid.0) (is_own own stamp) done) seen

-- nobody claims a dead version
pub alive_claimed : (committed : List Bool) (own : Option Xid) (v : Version) → is_claimed committed own v ≡ true → is_dead committed v ≡ false
alive_claimed committed own v claimed = by (is_dead committed v) refl
  where
    settled : (stamp : Stamp) → has_committed committed stamp.xid.0 ≡ true → is_running_other committed own stamp ≡ false
    settled stamp done = ap not (first_true (has_committed committed stamp.xid.0) (is_own own stamp) done)

    of_end : (o : Option Stamp) → option_map_or (λ stamp. has_committed committed stamp.xid.0) o false ≡ true → option_map_or (is_running_other committed own) o false ≡ false
    of_end None done = refl
    of_end (Some stamp) done = settled stamp done

    by : (t : Bool) → is_dead committed v ≡ t → is_dead committed v ≡ false
    by false is = is
    by true is =
        let parts = and_parts (has_committed committed v.by.xid.0) (option_map_or (λ stamp. has_committed committed stamp.xid.0) v.ended false) is in
        let never : false ≡ true = sym (λ i. settled v.by parts.0 i || of_end v.ended parts.1 i) ∙ claimed in
        absurd (cc)

-- a change ends no dead version
pub alive_ended : (committed : List Bool) (stamp : Stamp) (change : Change) (v : Version) → is_ended committed stamp change v ≡ true → is_dead committed v ≡ false
alive_ended committed stamp change v ends = alive_counts committed (Some stamp.xid) v (and_parts (option_map_or (same_key (key_of v.row)) (ended_key change) false) (seen_by (counts committed (Some stamp.xid)) v) ends).1

-- the numbers of the versions that a change ends are in a list that serves at its key
pub serves_ends : (committed : List Bool) (slots : List (Option Version)) (stamp : Stamp) (change : Change) (key : RowKey) (place : Place) (list : List ℕ) → Some key ≡ ended_key change → place ≡ key_place key → Serves committed slots place list
    → (n : ℕ) → ends_at committed stamp change slots n ≡ true → IsIn n list
serves_ends committed slots stamp change key place list is_key is_place serves n ends = of (version_numbered slots n) (serves.has n) ends
  where
    of : (o : Option Version) → IfSome o (λ v. is_dead committed v ≡ false → is_under place v.row ≡ true → IsIn n list) → option_map_or (is_ended committed stamp change) o false ≡ true → IsIn n list
    of None has at = let never : false ≡ true = at in absurd (cc)
    of (Some v) has at = has (alive_ended committed stamp change v at) (ap (λ p. is_under p v.row) is_place ∙ ended_under committed stamp change key v is_key at)

-- a list that has all that passes a test, in order, finds what all versions give
read_past : (before : List (Option Version)) (list : List ℕ) → AllByRecursion (λ m. length before ≤ m) list → filter_map (slot_at before) list ≡ []
read_past before [] all = refl
read_past before (n ∷ list) all = ap (λ o. cons_option o (filter_map (slot_at before) list)) (none before n all.0) ∙ read_past before list all.1
  where
    none : (before : List (Option Version)) (n : ℕ) → length before ≤ n → slot_at before n ≡ None
    none [] n le = refl
    none (o ∷ before) zero le = absurd (omega (arith, le))
    none (o ∷ before) (suc n) le = none before n (omega (arith, le))

at_end : (before : List (Option Version)) (o : Option Version) (slots : List (Option Version)) → slot_at (before ++ o ∷ slots) (length before) ≡ o
at_end [] o slots = refl
at_end (b ∷ before) o slots = at_end before o slots

append_none : (xs : List (Option Version)) → xs ++ [] ≡ xs
append_none [] = refl
append_none (x ∷ xs) = ap (λ l. x ∷ l) (append_none xs)

not_above : (n : ℕ) (list : List ℕ) → AllByRecursion (λ m. n < m) list → IsIn n list → ⊥
not_above n list all is = let no : n < n = all_in (λ m. n < m) list n all is in absurd (omega (arith, no))

-- the list begins with this number, or has only numbers above it
begins : (n : ℕ) (list : List ℕ) → IsAscending list → AllByRecursion (λ m. n ≤ m) list → ((rest : List ℕ) × (list ≡ n ∷ rest) × IsAscending rest × AllByRecursion (λ m. n < m) rest) ⊎ AllByRecursion (λ m. n < m) list
begins n [] up all = inr tt
begins n (m ∷ list) up all = by (cases_eq m n)
  where
    by : (m ≡ n) ⊎ (m ≢ n) → ((rest : List ℕ) × (m ∷ list ≡ n ∷ rest) × IsAscending rest × AllByRecursion (λ k. n < k) rest) ⊎ AllByRecursion (λ k. n < k) (m ∷ list)
    by (inl same) = inl (list, ap (λ k. k ∷ list) same, up.1, subst (λ k. AllByRecursion (λ j. k < j) list) same up.0)
    by (inr other) = inr (omega (arith, all.0, other), all_more (λ k. m < k) (λ k. n < k) list (λ k lt. omega (arith, lt, all.0)) up.0)

served_from : (test : Version → Bool) (before slots : List (Option Version)) (n : ℕ) (list : List ℕ) → n ≡ length before → IsAscending list → AllByRecursion (λ m. n ≤ m) list
    → ((j : ℕ) (v : Version) → slot_at slots j ≡ Some v → test v ≡ true → IsIn (n + j) list) → filter test (filter_map (slot_at (before ++ slots)) list) ≡ filter test (versions_in slots)
served_from test before [] n list is up all has =
    ap (filter test) (ap (λ xs. filter_map (slot_at xs) list) (append_none before) ∙ read_past before list (subst (λ k. AllByRecursion (λ m. k ≤ m) list) is all))
served_from test before (o ∷ slots) n list is up all has = by (λ rest. served_from test (before ++ o ∷ []) slots (n + 1) rest (omega (arith, is, length_push before o))) (begins n list up all)
  where
    skip : (before ++ o ∷ []) ++ slots ≡ before ++ o ∷ slots
    skip = append_assoc before (o ∷ []) slots

    here : slot_at (before ++ o ∷ slots) n ≡ o
    here = ap (slot_at (before ++ o ∷ slots)) is ∙ at_end before o slots

    next : (rest : List ℕ) → AllByRecursion (λ m. n < m) rest → AllByRecursion (λ m. n + 1 ≤ m) rest
    next rest above = all_more (λ m. n < m) (λ m. n + 1 ≤ m) rest (λ m lt. omega (arith, lt)) above

    head_same : (x : Option Version) (vs ws : List Version) → filter test vs ≡ filter test ws → filter test (cons_option x vs) ≡ filter test (cons_option x ws)
    head_same None vs ws same = same
    head_same (Some v) vs ws same = ap (λ l. cond (test v) (v ∷ l) l) same

    versions : (x : Option Version) → versions_in (x ∷ slots) ≡ cons_option x (versions_in slots)
    versions None = refl
    versions (Some v) = refl

    fails : (x : Option Version) → o ≡ x → (filter test (versions_in slots) ≡ filter test (versions_in (x ∷ slots))) ⊎ ((v : Version) × (o ≡ Some v) × (test v ≡ true))
    fails None same = inl refl
    fails (Some v) same = at (test v) refl
      where
        at : (t : Bool) → test v ≡ t → (filter test (versions_in slots) ≡ filter test (versions_in (Some v ∷ slots))) ⊎ ((w : Version) × (o ≡ Some w) × (test w ≡ true))
        at true passes = inr (v, same, passes)
        at false isnt = inl (sym (ap (λ t. cond t (v ∷ filter test (versions_in slots)) (filter test (versions_in slots))) isnt))

    by : ((rest : List ℕ) → IsAscending rest → AllByRecursion (λ m. n + 1 ≤ m) rest → ((j : ℕ) (v : Version) → slot_at slots j ≡ Some v → test v ≡ true → IsIn (n + 1 + j) rest)
        → filter test (filter_map (slot_at ((before ++ o ∷ []) ++ slots)) rest) ≡ filter test (versions_in slots))
        → ((rest : List ℕ) × (list ≡ n ∷ rest) × IsAscending rest × AllByRecursion (λ m. n < m) rest) ⊎ AllByRecursion (λ m. n < m) list
        → filter test (filter_map (slot_at (before ++ o ∷ slots)) list) ≡ filter test (versions_in (o ∷ slots))
    by further_on (inl (rest, parts, up_rest, above)) =
        ap (λ l. filter test (filter_map (slot_at (before ++ o ∷ slots)) l)) parts
        ∙ ap (λ x. filter test (cons_option x (filter_map (slot_at (before ++ o ∷ slots)) rest))) here
        ∙ head_same o (filter_map (slot_at (before ++ o ∷ slots)) rest) (versions_in slots)
        (sym (ap (λ xs. filter test (filter_map (slot_at xs) rest)) skip) ∙ further_on rest up_rest (next rest above) (λ j v at passes. behind j (has (suc j) v at passes)))
        ∙ sym (ap (filter test) (versions o))
      where
        behind : (j : ℕ) → IsIn (n + suc j) list → IsIn (n + 1 + j) rest
        behind j found = of (subst (IsIn (n + suc j)) parts found)
          where
            of : IsIn (n + suc j) (n ∷ rest) → IsIn (n + 1 + j) rest
            of (inl same) = absurd (omega (arith, same))
            of (inr later) = let far : n + suc j ≡ n + 1 + j = omega arith in subst (λ k. IsIn k rest) far later
    by further_on (inr above) = past (fails o refl)
      where
        past : (filter test (versions_in slots) ≡ filter test (versions_in (o ∷ slots))) ⊎ ((v : Version) × (o ≡ Some v) × (test v ≡ true)) → filter test (filter_map (slot_at (before ++ o ∷ slots)) list) ≡ filter test (versions_in (o ∷ slots))
        past (inl same) =
            sym (ap (λ xs. filter test (filter_map (slot_at xs) list)) skip)
            ∙ further_on list up (next list above) (λ j v at passes. let far : n + suc j ≡ n + 1 + j = omega arith in subst (λ k. IsIn k list) far (has (suc j) v at passes))
            ∙ same
        past (inr (v, at, passes)) = let far : n + 0 ≡ n = omega arith in absurd (not_above n list above (subst (λ k. IsIn k list) far (has 0 v at passes)))

-- the same where what passes is at a place, and isn't dead
pub served : (committed : List Bool) (slots : List (Option Version)) (place : Place) (list : List ℕ) (test : Version → Bool) → ((v : Version) → test v ≡ true → (is_dead committed v ≡ false) × (is_under place v.row ≡ true)) → Serves committed slots place list
    → filter test (filter_map (version_numbered slots) list) ≡ filter test (versions_in slots)
served committed slots place list test passes serves = served_from test [] (None ∷ slots) 0 list refl serves.order (all_numbers list) has
  where
    all_numbers : (xs : List ℕ) → AllByRecursion (λ m. 0 ≤ m) xs
    all_numbers [] = tt
    all_numbers (x ∷ xs) = (omega arith, all_numbers xs)

    of : (n : ℕ) (v : Version) (o : Option Version) → o ≡ Some v → test v ≡ true → IfSome o (λ w. is_dead committed w ≡ false → is_under place w.row ≡ true → IsIn n list) → IsIn n list
    of n v None is passed found = let never : None ≡ Some v = is in absurd (cc)
    of n v (Some w) is passed found = let same : w ≡ v = cc in let both = passes w (ap test same ∙ passed) in found both.0 both.1

    has : (j : ℕ) (v : Version) → version_numbered slots j ≡ Some v → test v ≡ true → IsIn (0 + j) list
    has j v at passed = let far : j ≡ 0 + j = omega arith in subst (λ k. IsIn k list) far (of j v (version_numbered slots j) at passed (serves.has j))

-- a search finds the first that passes
find_first : (test : Version → Bool) (xs : List Version) → find test xs ≡ find (λ v. true) (filter test xs)
find_first test [] = refl
find_first test (x ∷ xs) = by (test x) refl (find_first test xs)
  where
    by : (t : Bool) → test x ≡ t → find test xs ≡ find (λ v. true) (filter test xs) → find test (x ∷ xs) ≡ find (λ v. true) (filter test (x ∷ xs))
    by true is rest = (λ i. cond (is i) (Some x) (find test xs)) ∙ sym (ap (λ t. find (λ v. true) (cond t (x ∷ filter test xs) (filter test xs))) is)
    by false is rest = (λ i. cond (is i) (Some x) (find test xs)) ∙ rest ∙ sym (ap (λ t. find (λ v. true) (cond t (x ∷ filter test xs) (filter test xs))) is)

-- the first listed version that passes a test has the first number at which one passes
pub first_passing : (test : Version → Bool) (slots : List (Option Version)) (list : List ℕ) → version_for slots (find (passes_at test slots) list) ≡ find test (filter_map (version_numbered slots) list)
first_passing test slots [] = refl
first_passing test slots (n ∷ list) = by (version_numbered slots n) refl (first_passing test slots list)
  where
    by_test : (v : Version) → version_numbered slots n ≡ Some v → version_for slots (find (passes_at test slots) list) ≡ find test (filter_map (version_numbered slots) list) → (t : Bool)
        → version_for slots (cond t (Some n) (find (passes_at test slots) list)) ≡ cond t (Some v) (find test (filter_map (version_numbered slots) list))
    by_test v is rest true = is
    by_test v is rest false = rest

    by : (o : Option Version) → version_numbered slots n ≡ o → version_for slots (find (passes_at test slots) list) ≡ find test (filter_map (version_numbered slots) list)
        → version_for slots (cond (option_map_or test o false) (Some n) (find (passes_at test slots) list)) ≡ find test (cons_option o (filter_map (version_numbered slots) list))
    by None is rest = rest
    by (Some v) is rest = by_test v is rest (test v)

pub find_served : (committed : List Bool) (slots : List (Option Version)) (place : Place) (list : List ℕ) (test : Version → Bool) → ((v : Version) → test v ≡ true → (is_dead committed v ≡ false) × (is_under place v.row ≡ true)) → Serves committed slots place list
    → find test (filter_map (version_numbered slots) list) ≡ find test (versions_in slots)
find_served committed slots place list test passes serves =
    find_first test (filter_map (version_numbered slots) list) ∙ ap (find (λ v. true)) (served committed slots place list test passes serves) ∙ sym (find_first test (versions_in slots))

-- the rows of a scan
asked_rows : (purpose : Purpose) (seen : Version → Bool) (vs : List Version) → filter (selects purpose) (map (λ v. v.row) (filter seen vs)) ≡ map (λ v. v.row) (filter (λ v. seen v && selects purpose v.row) vs)
asked_rows purpose seen [] = refl
asked_rows purpose seen (v ∷ vs) = by (seen v) refl (selects purpose v.row) refl (asked_rows purpose seen vs)
  where
    both : Version → Bool
    both = λ w. seen w && selects purpose w.row

    by : (s : Bool) → seen v ≡ s → (t : Bool) → selects purpose v.row ≡ t → filter (selects purpose) (map (λ w. w.row) (filter seen vs)) ≡ map (λ w. w.row) (filter both vs)
        → filter (selects purpose) (map (λ w. w.row) (filter seen (v ∷ vs))) ≡ map (λ w. w.row) (filter both (v ∷ vs))
    by true is true asks rest =
        ap (λ b. filter (selects purpose) (map (λ w. w.row) (cond b (v ∷ filter seen vs) (filter seen vs)))) is ∙ ap (λ b. cond b (v.row ∷ filter (selects purpose) (map (λ w. w.row) (filter seen vs))) (filter (selects purpose) (map (λ w. w.row) (filter seen vs)))) asks
        ∙ ap (λ l. v.row ∷ l) rest ∙ sym (ap (λ b. map (λ w. w.row) (cond b (v ∷ filter both vs) (filter both vs))) (λ i. is i && asks i))
    by true is false asks rest =
        ap (λ b. filter (selects purpose) (map (λ w. w.row) (cond b (v ∷ filter seen vs) (filter seen vs)))) is ∙ ap (λ b. cond b (v.row ∷ filter (selects purpose) (map (λ w. w.row) (filter seen vs))) (filter (selects purpose) (map (λ w. w.row) (filter seen vs)))) asks
        ∙ rest ∙ sym (ap (λ b. map (λ w. w.row) (cond b (v ∷ filter both vs) (filter both vs))) (λ i. is i && asks i))
    by false is t asks rest =
        ap (λ b. filter (selects purpose) (map (λ w. w.row) (cond b (v ∷ filter seen vs) (filter seen vs)))) is
        ∙ rest ∙ sym (ap (λ b. map (λ w. w.row) (cond b (v ∷ filter both vs) (filter both vs))) (λ i. is i && selects purpose v.row))

pub given_served : (committed : List Bool) (slots : List (Option Version)) (purpose : Purpose) (list : List ℕ) (seen : Version → Bool) → ((v : Version) → seen v ≡ true → is_dead committed v ≡ false) → Serves committed slots (scan_place purpose) list
    → given purpose seen (filter_map (version_numbered slots) list) ≡ given purpose seen (versions_in slots)
given_served committed slots purpose list seen alive serves = ap (fold (put_in_order purpose) [])
    (asked_rows purpose seen (filter_map (version_numbered slots) list)
    ∙ ap (map (λ v. v.row)) (served committed slots (scan_place purpose) list (λ v. seen v && selects purpose v.row)
    (λ v asked. let parts = and_parts (seen v) (selects purpose v.row) asked in (alive v parts.0, sym (selects_under purpose v.row) ∙ parts.1)) serves)
    ∙ sym (asked_rows purpose seen (versions_in slots)))
