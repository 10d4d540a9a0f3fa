-- Slots of versions: parts of them, and steps at them.
use Rattle.std.proofs.Common.{◌≡◌, ◌≢◌, ◌<◌, ◌+◌, ◌∙◌, ◌⊎◌, inl, inr, ℕ, zero, suc, Bool, true, false, not, cond, if◌then◌else◌, Option, Some, None, IfSome, List, [], ◌∷◌, ◌++◌, length, map, filter, set, take, drop, get_or, sym, ap, refl, subst, get_or-set_same, get_or-set_other, arith}
use Rattle.std.proofs.Math.Seq.{map-set_same}
use Rattle.std.proofs.lemmas.Bool.{cases_eq}
use Rattle.std.proofs.lemmas.List.{take_more}
use Rattle.catalog_rows.specs.Types.{Stamp, Version}
use Rattle.catalog_rows.specs.Store.{restored, taken_back}
use Rattle.catalog_rows.specs.Slots.{IsIn, slot_at, version_numbered, versions_in, Settles, slot_changed, slot_back}

-- an element of two lists
pub in_append : {X : Type 0} (x : X) (xs ys : List X) → IsIn x (xs ++ ys) → IsIn x xs ⊎ IsIn x ys
in_append x [] ys is = inr is
in_append x (y ∷ xs) ys (inl same) = inl (inl same)
in_append x (y ∷ xs) ys (inr rest) = elim (in_append x xs ys rest) [ inl a ↦ inl (inr a) | inr b ↦ inr b ]

pub in_front : {X : Type 0} (x : X) (xs ys : List X) → IsIn x xs → IsIn x (xs ++ ys)
in_front x [] ys is = absurd is
in_front x (y ∷ xs) ys (inl same) = inl same
in_front x (y ∷ xs) ys (inr rest) = inr (in_front x xs ys rest)

pub in_behind : {X : Type 0} (x : X) (xs ys : List X) → IsIn x ys → IsIn x (xs ++ ys)
in_behind x [] ys is = is
in_behind x (y ∷ xs) ys is = inr (in_behind x xs ys is)

-- a slot after another is written, or it itself
pub slot_at-set : (slots : List (Option Version)) (i j : ℕ) (o : Option Version) → i < length slots → ((j ≡ i) × (slot_at (set slots i o) j ≡ o)) ⊎ (slot_at (set slots i o) j ≡ slot_at slots j)
slot_at-set slots i j o within = by (cases_eq j i)
  where
    by : (j ≡ i) ⊎ (j ≢ i) → ((j ≡ i) × (slot_at (set slots i o) j ≡ o)) ⊎ (slot_at (set slots i o) j ≡ slot_at slots j)
    by (inl same) = inl (same, ap (slot_at (set slots i o)) same ∙ get_or-set_same slots i o None within)
    by (inr other) = inr (get_or-set_other slots i j o None other)

pub slot_at-map : (step : Option Version → Option Version) → step None ≡ None → (slots : List (Option Version)) (j : ℕ) → slot_at (map step slots) j ≡ step (slot_at slots j)
slot_at-map step none [] j = sym none
slot_at-map step none (o ∷ slots) zero = refl
slot_at-map step none (o ∷ slots) (suc j) = slot_at-map step none slots j

-- steps at the slots of a list
pub settles_none : (step : Option Version → Option Version) (slots : List (Option Version)) → Settles step [] slots slots
settles_none step slots = record { same = refl; listed = λ j is. absurd is; stays = λ j is. is }

pub settles_both : (step : Option Version → Option Version) (xs ys : List ℕ) (a b d : List (Option Version)) → Settles step xs a b → Settles step ys b d → Settles step (xs ++ ys) a d
settles_both step xs ys a b d s t = record {
  same = t.same ∙ s.same;
  listed = λ j is. elim (in_append j xs ys is) [ inl front ↦ t.stays j (s.listed j front) | inr behind ↦ t.listed j behind ];
  stays = λ j is. t.stays j (s.stays j is);
}

pub settles_one : (step : Option Version → Option Version) → ((o : Option Version) → step (step o) ≡ step o) → (i : ℕ) (slots : List (Option Version)) → i < length slots → Settles step (i ∷ []) slots (set slots i (step (slot_at slots i)))
settles_one step twice i slots within = record {
  same = map-set_same step slots i (step (slot_at slots i)) None (twice (slot_at slots i));
  listed = λ j is. here j is;
  stays = λ j is. from j (slot_at-set slots i j (step (slot_at slots i)) within) is;
}
  where
    written : (j : ℕ) → slot_at (set slots i (step (slot_at slots i))) j ≡ step (slot_at slots i) → step (slot_at (set slots i (step (slot_at slots i))) j) ≡ slot_at (set slots i (step (slot_at slots i))) j
    written j is = ap step is ∙ twice (slot_at slots i) ∙ sym is

    here : (j : ℕ) → IsIn j (i ∷ []) → step (slot_at (set slots i (step (slot_at slots i))) j) ≡ slot_at (set slots i (step (slot_at slots i))) j
    here j (inl same) = written j (ap (slot_at (set slots i (step (slot_at slots i)))) same ∙ get_or-set_same slots i (step (slot_at slots i)) None within)
    here j (inr none) = absurd none

    from : (j : ℕ) → ((j ≡ i) × (slot_at (set slots i (step (slot_at slots i))) j ≡ step (slot_at slots i))) ⊎ (slot_at (set slots i (step (slot_at slots i))) j ≡ slot_at slots j)
        → step (slot_at slots j) ≡ slot_at slots j → step (slot_at (set slots i (step (slot_at slots i))) j) ≡ slot_at (set slots i (step (slot_at slots i))) j
    from j (inl at) is = written j at.1
    from j (inr other) is = ap step other ∙ is ∙ sym other

fixed : (step : Option Version → Option Version) (slots : List (Option Version)) → ((j : ℕ) → step (slot_at slots j) ≡ slot_at slots j) → map step slots ≡ slots
fixed step [] each = refl
fixed step (o ∷ slots) each = λ i. each 0 i ∷ fixed step slots (λ j. each (suc j)) i

-- where the list has all slots at which the step makes a difference, it is made at each
pub settled : (step : Option Version → Option Version) (list : List ℕ) (old new : List (Option Version)) → ((j : ℕ) → (step (slot_at old j) ≡ slot_at old j) ⊎ IsIn j list) → Settles step list old new → new ≡ map step old
settled step list old new covers s = sym (fixed step new (λ j. each j (covers j))) ∙ s.same
  where
    each : (j : ℕ) → (step (slot_at old j) ≡ slot_at old j) ⊎ IsIn j list → step (slot_at new j) ≡ slot_at new j
    each j (inl is) = s.stays j is
    each j (inr is) = s.listed j is

-- the versions after a step at each slot
pub versions_in-changed : (f : Version → Version) (slots : List (Option Version)) → versions_in (map (slot_changed f) slots) ≡ map f (versions_in slots)
versions_in-changed f [] = refl
versions_in-changed f (None ∷ slots) = versions_in-changed f slots
versions_in-changed f (Some v ∷ slots) = ap (λ vs. f v ∷ vs) (versions_in-changed f slots)

pub versions_in-back : (back : Stamp → Bool) (slots : List (Option Version)) → versions_in (map (slot_back back) slots) ≡ taken_back back (versions_in slots)
versions_in-back back [] = refl
versions_in-back back (None ∷ slots) = versions_in-back back slots
versions_in-back back (Some v ∷ slots) = by (back v.by) refl (versions_in-back back slots)
  where
    by : (t : Bool) → back v.by ≡ t → versions_in (map (slot_back back) slots) ≡ taken_back back (versions_in slots) → versions_in (map (slot_back back) (Some v ∷ slots)) ≡ taken_back back (versions_in (Some v ∷ slots))
    by true is rest = ap (λ t. versions_in ((if t then None else Some (restored back v)) ∷ map (slot_back back) slots)) is ∙ rest
        ∙ sym (ap (λ t. map (restored back) (cond (not t) (v ∷ filter (λ x. not (back x.by)) (versions_in slots)) (filter (λ x. not (back x.by)) (versions_in slots)))) is)
    by false is rest = ap (λ t. versions_in ((if t then None else Some (restored back v)) ∷ map (slot_back back) slots)) is ∙ ap (λ vs. restored back v ∷ vs) rest
        ∙ sym (ap (λ t. map (restored back) (cond (not t) (v ∷ filter (λ x. not (back x.by)) (versions_in slots)) (filter (λ x. not (back x.by)) (versions_in slots)))) is)

-- the step at the slot with a number
pub settles_at : (step : Option Version → Option Version) → ((o : Option Version) → step (step o) ≡ step o) → (number at : ℕ) (slots : List (Option Version)) (o : Option Version) → number ≡ at + 1 → at < length slots → o ≡ step (slot_at slots at)
    → Settles step (number ∷ []) (None ∷ slots) (None ∷ set slots at o)
settles_at step twice number at slots o is within made =
    let here : suc at ≡ number = omega (arith, is) in
    subst (λ n. Settles step (n ∷ []) (None ∷ slots) (None ∷ set slots at o)) here
    (subst (λ x. Settles step (suc at ∷ []) (None ∷ slots) (None ∷ set slots at x)) (sym made) (settles_one step twice (suc at) (None ∷ slots) (omega (arith, within))))

-- where there is no version there is nothing to do
pub settles_empty : (step : Option Version → Option Version) → step None ≡ None → (number : ℕ) (slots : List (Option Version)) → version_numbered slots number ≡ None → Settles step (number ∷ []) (None ∷ slots) (None ∷ slots)
settles_empty step none number slots empty = record { same = refl; listed = λ j is. here j is; stays = λ j is. is }
  where
    here : (j : ℕ) → IsIn j (number ∷ []) → step (version_numbered slots j) ≡ version_numbered slots j
    here j (inl same) = let no : version_numbered slots j ≡ None = ap (version_numbered slots) same ∙ empty in ap step no ∙ none ∙ sym no
    here j (inr never) = absurd never

-- a list of which the last number is done first
pub settles_before : (step : Option Version → Option Version) (n : ℕ) (ys : List ℕ) (a b d : List (Option Version)) → Settles step ys a b → Settles step (n ∷ []) b d → Settles step (n ∷ ys) a d
settles_before step n ys a b d s t = record {
  same = t.same ∙ s.same;
  listed = λ j is. each j is;
  stays = λ j is. t.stays j (s.stays j is);
}
  where
    each : (j : ℕ) → IsIn j (n ∷ ys) → step (slot_at d j) ≡ slot_at d j
    each j (inl same) = t.listed j (inl same)
    each j (inr rest) = t.stays j (s.listed j rest)

-- the same of slots that have numbers from 1
pub settled_numbered : (step : Option Version → Option Version) → (list : List ℕ) (old new : List (Option Version)) → ((j : ℕ) → (step (version_numbered old j) ≡ version_numbered old j) ⊎ IsIn j list) → Settles step list (None ∷ old) (None ∷ new)
    → new ≡ map step old
settled_numbered step list old new covers s = ap (drop 1) (settled step list (None ∷ old) (None ∷ new) covers s)

-- slots in two parts
pub slot_in_parts : (xs ys : List (Option Version)) (j : ℕ) → (slot_at (xs ++ ys) j ≡ slot_at xs j) ⊎ ((k : ℕ) × (slot_at (xs ++ ys) j ≡ slot_at ys k))
slot_in_parts [] ys j = inr (j, refl)
slot_in_parts (x ∷ xs) ys zero = inl refl
slot_in_parts (x ∷ xs) ys (suc j) = slot_in_parts xs ys j

pub some_front : (P : Version → Type 0) (xs ys : List (Option Version)) (j : ℕ) → IfSome (slot_at (xs ++ ys) j) P → IfSome (slot_at xs j) P
some_front P [] ys j is = tt
some_front P (x ∷ xs) ys zero is = is
some_front P (x ∷ xs) ys (suc j) is = some_front P xs ys j is

pub numbered_in_parts : (xs ys : List (Option Version)) (n : ℕ) → (version_numbered (xs ++ ys) n ≡ version_numbered xs n) ⊎ ((k : ℕ) × (version_numbered (xs ++ ys) n ≡ slot_at ys k))
numbered_in_parts xs ys zero = inl refl
numbered_in_parts xs ys (suc j) = slot_in_parts xs ys j

pub numbered_front : (P : Version → Type 0) (xs ys : List (Option Version)) (n : ℕ) → IfSome (version_numbered (xs ++ ys) n) P → IfSome (version_numbered xs n) P
numbered_front P xs ys zero is = tt
numbered_front P xs ys (suc j) is = some_front P xs ys j is

pub some_more : {X : Type 0} (P Q : X → Type 0) (o : Option X) → ((x : X) → P x → Q x) → IfSome o P → IfSome o Q
some_more P Q None f is = is
some_more P Q (Some x) f is = f x is

pub along : (P : Version → Type 0) (a b : Option Version) → a ≡ b → IfSome a P → IfSome b P
along P a b same = subst (λ o. IfSome o P) same

-- one more number of a list
pub list_next : (step : Option Version → Option Version) (list : List ℕ) (k n d : ℕ) (old mid new : List (Option Version)) → k < length list → n ≡ get_or list k d → Settles step (take k list) old mid → Settles step (n ∷ []) mid new
    → Settles step (take (k + 1) list) old new
list_next step list k n d old mid new more is s t =
    subst (λ l. Settles step l old new) (sym (take_more list k d more ∙ ap (λ x. take k list ++ x ∷ []) (sym is))) (settles_both step (take k list) (n ∷ []) old mid new s t)

drop_parts : (xs : List ℕ) (k d : ℕ) → k < length xs → drop k xs ≡ get_or xs k d ∷ drop (k + 1) xs
drop_parts [] k d within = absurd (omega arith)
drop_parts (x ∷ xs) zero d within = refl
drop_parts (x ∷ xs) (suc k) d within =
    let far : suc (k + 1) ≡ suc k + 1 = omega arith in
    drop_parts xs k d (omega (arith, within)) ∙ ap (λ m. get_or xs k d ∷ drop m (x ∷ xs)) far

-- one more number of a list, from its end
pub list_before : (step : Option Version → Option Version) (list : List ℕ) (k n d : ℕ) (old mid new : List (Option Version)) → k < length list → n ≡ get_or list k d → Settles step (drop (k + 1) list) old mid → Settles step (n ∷ []) mid new
    → Settles step (drop k list) old new
list_before step list k n d old mid new within is s t =
    subst (λ l. Settles step l old new) (ap (λ x. x ∷ drop (k + 1) list) is ∙ sym (drop_parts list k d within)) (settles_before step n (drop (k + 1) list) old mid new s t)
