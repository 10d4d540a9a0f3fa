-- The second index stays within the first, in order.
use Rattle.std.proofs.Common.{◌≡◌, ◌≢◌, ◌<◌, ◌∙◌, ◌==◌, inl, inr, ℕ, Bool, true, false, not, cond, if◌then◌else◌, List, [], ◌∷◌, eq-eqb, sym, ap, refl, subst}
use Rattle.std.specs.List.{AllByRecursion}
use Rattle.std.proofs.lemmas.Bool.{eqb-true}
use Rattle.catalog_rows.specs.declared.place.Place.{Place}
use Rattle.catalog_rows.specs.declared.index.Index.{Index}
use Rattle.catalog_rows.specs.declared.indexes.Indexes.{Indexes}
use Rattle.catalog_rows.specs.Numbers.{IsAscending, added, removed}
use Rattle.catalog_rows.specs.Slots.{IsIn}
use Rattle.catalog_rows.specs.Index.{listed_at, AddsWhere, RemovesWhere, AddsBoth, RemovesBoth, AreSame, IsBelow, IsOnly}
use Rattle.catalog_rows.proofs.Ascending.{all_in, ascending_push, ascending_removed, added_removed, append_none}
use Rattle.catalog_rows.proofs.SlotLists.{in_append, in_front, in_behind}

-- members of a list that a number is added to or taken out of
pub in_added : (here : Bool) (n k : ℕ) (xs : List ℕ) → IsIn n xs → IsIn n (added here k xs)
in_added here n k xs is = in_front n xs (if here then k ∷ [] else []) is

pub new_added : (here : Bool) (k : ℕ) (xs : List ℕ) → here ≡ true → IsIn k (added here k xs)
new_added here k xs is = in_behind k xs (if here then k ∷ [] else []) (subst (λ t. IsIn k (if t then k ∷ [] else [])) (sym is) (inl refl))

of_added : (here : Bool) (n k : ℕ) (xs ys : List ℕ) → (IsIn n xs → IsIn n ys) → IsIn n (added here k xs) → IsIn n (added here k ys)
of_added here n k xs ys f is = elim (in_append n xs (if here then k ∷ [] else []) is) [ inl a ↦ in_front n ys (if here then k ∷ [] else []) (f a) | inr b ↦ in_behind n ys (if here then k ∷ [] else []) b ]

out_step : (n k x : ℕ) (xs : List ℕ) (t : Bool) → (x == k) ≡ t → removed true k (x ∷ xs) ≡ (if t then removed true k xs else x ∷ removed true k xs)
out_step n k x xs true is = ap (λ b. cond (not b) (x ∷ removed true k xs) (removed true k xs)) is
out_step n k x xs false is = ap (λ b. cond (not b) (x ∷ removed true k xs) (removed true k xs)) is

stays_out : (n k : ℕ) (xs : List ℕ) → n ≢ k → IsIn n xs → IsIn n (removed true k xs)
stays_out n k [] other is = is
stays_out n k (x ∷ xs) other is = by (stays_out n k xs other) (x == k) refl is
  where
    by : (IsIn n xs → IsIn n (removed true k xs)) → (t : Bool) → (x == k) ≡ t → IsIn n (x ∷ xs) → IsIn n (removed true k (x ∷ xs))
    by rest true same (inl here) = absurd (other (here ∙ eqb-true x k same))
    by rest true same (inr later) = subst (IsIn n) (sym (out_step n k x xs true same)) (rest later)
    by rest false apart (inl here) = subst (IsIn n) (sym (out_step n k x xs false apart)) (inl here)
    by rest false apart (inr later) = subst (IsIn n) (sym (out_step n k x xs false apart)) (inr (rest later))

pub in_removed : (here : Bool) (n k : ℕ) (xs : List ℕ) → n ≢ k → IsIn n xs → IsIn n (removed here k xs)
in_removed true n k xs other is = stays_out n k xs other is
in_removed false n k xs other is = is

was_in : (n k : ℕ) (xs : List ℕ) → IsIn n (removed true k xs) → IsIn n xs × (n ≢ k)
was_in n k [] is = absurd is
was_in n k (x ∷ xs) is = by (was_in n k xs) (x == k) refl
  where
    by : (IsIn n (removed true k xs) → IsIn n xs × (n ≢ k)) → (t : Bool) → (x == k) ≡ t → IsIn n (x ∷ xs) × (n ≢ k)
    by rest true same = let was = rest (subst (IsIn n) (out_step n k x xs true same) is) in (inr was.0, was.1)
    by rest false apart = at (subst (IsIn n) (out_step n k x xs false apart) is)
      where
        at : IsIn n (x ∷ removed true k xs) → IsIn n (x ∷ xs) × (n ≢ k)
        at (inl here) = (inl here, λ same. let never : true ≡ false = sym (eq-eqb x k (sym here ∙ same)) ∙ apart in absurd (cc))
        at (inr later) = let was = rest later in (inr was.0, was.1)

of_removed : (here : Bool) (n k : ℕ) (xs ys : List ℕ) → (IsIn n xs → IsIn n ys) → IsIn n (removed here k xs) → IsIn n (removed here k ys)
of_removed true n k xs ys f is = let was = was_in n k xs is in stays_out n k ys was.1 (f was.0)
of_removed false n k xs ys f is = f is

all_from_in : (P : ℕ → Type 0) (xs : List ℕ) → ((n : ℕ) → IsIn n xs → P n) → AllByRecursion P xs
all_from_in P [] f = tt
all_from_in P (x ∷ xs) f = (f x (inl refl), all_from_in P xs (λ n is. f n (inr is)))

-- the second index stays within the first
pub below_current : (number : ℕ) (indexes : Indexes) → IsOnly indexes → IsBelow number indexes.all → IsBelow number indexes.current
below_current number indexes only below = record {
  order = only.order;
  below = λ place. all_from_in (λ n. n < number) (listed_at indexes.current place) (λ n is. all_in (λ m. m < number) (listed_at indexes.all place) n (below.below place) (only.only place n is));
}

pub only_same : (old new : Indexes) → AreSame old new → IsOnly old → IsOnly new
only_same old new same only = record {
  order = λ place. subst IsAscending (sym (same.current place)) (only.order place);
  only = λ place n is. subst (IsIn n) (sym (same.all place)) (only.only place n (subst (IsIn n) (same.current place) is));
}

pub only_added : (test : Place → Bool) (number : ℕ) (old new : Indexes) → AddsBoth test number old new → IsBelow number old.current → IsOnly old → IsOnly new
only_added test number old new adds below only = record {
  order = λ place. subst IsAscending (sym (adds.current.each place)) (longer (test place) place);
  only = λ place n is. subst (IsIn n) (sym (adds.all.each place)) (of_added (test place) n number (listed_at old.current place) (listed_at old.all place) (only.only place n) (subst (IsIn n) (adds.current.each place) is));
}
  where
    longer : (t : Bool) (place : Place) → IsAscending (added t number (listed_at old.current place))
    longer true place = ascending_push (listed_at old.current place) number (only.order place) (below.below place)
    longer false place = subst IsAscending (sym (append_none (listed_at old.current place))) (only.order place)

pub only_removed : (test : Place → Bool) (number : ℕ) (old new : Indexes) → RemovesBoth test number old new → IsOnly old → IsOnly new
only_removed test number old new removes only = record {
  order = λ place. subst IsAscending (sym (removes.current.each place)) (ascending_removed (test place) number (listed_at old.current place) (only.order place));
  only = λ place n is. subst (IsIn n) (sym (removes.all.each place)) (of_removed (test place) n number (listed_at old.current place) (listed_at old.all place) (only.only place n) (subst (IsIn n) (removes.current.each place) is));
}

pub only_dropped : (test : Place → Bool) (number : ℕ) (old new : Indexes) → RemovesWhere test number old.current new.current → new.all ≡ old.all → IsOnly old → IsOnly new
only_dropped test number old new removes same only = record {
  order = λ place. subst IsAscending (sym (removes.each place)) (ascending_removed (test place) number (listed_at old.current place) (only.order place));
  only = λ place n is. subst (λ (x : Index). IsIn n (listed_at x place)) (sym same) (only.only place n (was (test place) n place (subst (IsIn n) (removes.each place) is)));
}
  where
    was : (t : Bool) (n : ℕ) (place : Place) → IsIn n (removed t number (listed_at old.current place)) → IsIn n (listed_at old.current place)
    was true n place is = (was_in n number (listed_at old.current place) is).0
    was false n place is = is

-- added in the first index and taken out again
pub added_out : (test : Place → Bool) (number : ℕ) (old mid new : Index) → IsBelow number old → AddsWhere test number old mid → RemovesWhere test number mid new → (place : Place) → listed_at new place ≡ listed_at old place
added_out test number old mid new below adds removes place = removes.each place ∙ ap (removed (test place) number) (adds.each place) ∙ by (test place)
  where
    by : (t : Bool) → removed t number (added t number (listed_at old place)) ≡ listed_at old place
    by true = added_removed number (listed_at old place) (below.order place) (below.below place)
    by false = append_none (listed_at old place)

pub order_added_where : (test : Place → Bool) (number : ℕ) (old new : Index) → IsBelow number old → AddsWhere test number old new → (place : Place) → IsAscending (listed_at new place)
order_added_where test number old new below adds place = subst IsAscending (sym (adds.each place)) (by (test place))
  where
    by : (t : Bool) → IsAscending (added t number (listed_at old place))
    by true = ascending_push (listed_at old place) number (below.order place) (below.below place)
    by false = subst IsAscending (sym (append_none (listed_at old place))) (below.order place)
