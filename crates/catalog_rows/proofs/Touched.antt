-- The slots that are noted for transactions.
use Rattle.std.proofs.Common.{◌≡◌, ◌≢◌, ◌<◌, ◌+◌, ◌∙◌, ◌⊎◌, inl, inr, ℕ, zero, suc, Result, Ok, Err, OnOk, OnErr, List, [], ◌∷◌, ◌++◌, length, get_or, set, take, sym, ap, refl, subst, get_or-set_same, get_or-set_other}
use Rattle.std.proofs.lemmas.Bool.{cases_eq}
use Rattle.std.proofs.lemmas.List.{get_or_default, take_more}
use Rattle.base_types.specs.declared.memory.NoMemory.{NoMemory}
use Rattle.catalog_rows.specs.Index.{own_at}
use Rattle.catalog_rows.specs.Slots.{IsIn}
use Rattle.catalog_rows.proofs.SlotLists.{in_append, in_front, in_behind}

-- one more transaction, without slots
pub own_at-push : (touched : List (List ℕ)) (x : ℕ) → own_at (touched ++ [] ∷ []) x ≡ own_at touched x
own_at-push [] zero = refl
own_at-push [] (suc x) = refl
own_at-push (own ∷ touched) zero = refl
own_at-push (own ∷ touched) (suc x) = own_at-push touched x

-- a transaction gets a list that has all that its list had
pub set_grows : (touched : List (List ℕ)) (a : ℕ) (has : List ℕ) → a < length touched → ((slot : ℕ) → IsIn slot (own_at touched a) → IsIn slot has)
    → (x : ℕ) (slot : ℕ) → IsIn slot (own_at touched x) → IsIn slot (own_at (set touched a has) x)
set_grows touched a has within grows x slot is = by (cases_eq x a)
  where
    by : (x ≡ a) ⊎ (x ≢ a) → IsIn slot (own_at (set touched a has) x)
    by (inl same) = subst (IsIn slot) (sym (ap (own_at (set touched a has)) same ∙ get_or-set_same touched a has [] within)) (grows slot (subst (λ y. IsIn slot (own_at touched y)) same is))
    by (inr other) = subst (IsIn slot) (sym (get_or-set_other touched a x has [] other)) is

pub set_has : (touched : List (List ℕ)) (a : ℕ) (has : List ℕ) (slot : ℕ) → a < length touched → IsIn slot has → IsIn slot (own_at (set touched a has) a)
set_has touched a has slot within is = subst (IsIn slot) (sym (get_or-set_same touched a has [] within)) is

-- the list of a transaction, with one more slot or not
pub noted : (touched : List (List ℕ)) (a : ℕ) (had has : List ℕ) (new : ℕ) (result : Result (Unit {0}) NoMemory) → a < length touched → had ≡ get_or touched a had → OnOk result (has ≡ had ++ new ∷ []) → OnErr result (has ≡ had)
    → (slot : ℕ) → IsIn slot (own_at touched a) → IsIn slot has
noted touched a had has new result within was ok err slot is = by result ok err
  where
    before : IsIn slot had
    before = subst (IsIn slot) (sym (was ∙ get_or_default touched a had [] within)) is

    by : (r : Result (Unit {0}) NoMemory) → OnOk r (has ≡ had ++ new ∷ []) → OnErr r (has ≡ had) → IsIn slot has
    by (Ok done) more same = subst (IsIn slot) (sym more) (in_front slot had (new ∷ []) before)
    by (Err error) more same = subst (IsIn slot) (sym same) before

pub noted_has : (touched : List (List ℕ)) (a : ℕ) (had has : List ℕ) (new : ℕ) (result : Result (Unit {0}) NoMemory) → a < length touched → OnOk result (has ≡ had ++ new ∷ []) → OnOk result (IsIn new (own_at (set touched a has) a))
noted_has touched a had has new (Ok done) within more = set_has touched a has new within (subst (IsIn new) (sym more) (in_behind new had (new ∷ []) (inl refl)))
noted_has touched a had has new (Err error) within more = tt

-- one more slot of a list
pub noted_next : (list : List ℕ) (k slot d x : ℕ) (P : ℕ → Type 0) (old new : List (List ℕ)) → k < length list → slot ≡ get_or list k d → ((y j : ℕ) → IsIn j (own_at old y) → IsIn j (own_at new y)) → (P slot → IsIn slot (own_at new x))
    → ((i : ℕ) → IsIn i (take k list) → P i → IsIn i (own_at old x)) → (i : ℕ) → IsIn i (take (k + 1) list) → P i → IsIn i (own_at new x)
noted_next list k slot d x P old new more is grows here before i at ends =
    elim (in_append i (take k list) (slot ∷ []) (subst (IsIn i) (take_more list k d more ∙ ap (λ y. take k list ++ y ∷ []) (sym is)) at)) [ inl front ↦ grows x i (before i front ends) | inr behind ↦ last behind ]
  where
    last : IsIn i (slot ∷ []) → IsIn i (own_at new x)
    last (inl same) = subst (λ n. IsIn n (own_at new x)) (sym same) (here (subst P same ends))
    last (inr never) = absurd never
