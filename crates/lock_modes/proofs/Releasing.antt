-- What is held after a release.
use Rattle.std.proofs.Common.{◌≡◌, ◌<◌, ◌+◌, ◌∙◌, ◌==◌, ◌&&◌, ◌||◌, ℕ, Bool, true, false, not, cond, List, [], ◌∷◌, ◌++◌, length, filter, take, get_or, sym, ap, refl}
use Rattle.std.specs.List.{list_any}
use Rattle.std.proofs.lemmas.Bool.{eqb-true, eq-eqb}
use Rattle.std.proofs.lemmas.List.{take_more}
use Rattle.std.proofs.lemmas.List.Folds.{list_any-append}
use Rattle.lock_modes.specs.Types.{Grant, Released}
use Rattle.lock_modes.specs.Changes.{is_released, is_kept, is_out}
use Rattle.lock_modes.specs.GrantLists.{grants_at}
use Rattle.lock_modes.specs.Kept.{Holds}
use Rattle.lock_modes.specs.declared.grant_lists.GrantLists.{GrantLists}
use Rattle.lock_modes.proofs.Filters.{filter_step, filter-filter, filter_twice, filter_all}

module _ (released : Released) (b : ℕ) where
  -- the backend's grants on the relation that are released, with one more grant before the others
  rest_none : (rel : ℕ) (g : Grant) (own : List Grant) (s : Bool) → is_out released rel g ≡ false → list_any (is_out released rel) (cond s (g ∷ own) own) ≡ false → list_any (is_out released rel) own ≡ false
  rest_none rel g own true kept none = sym (ap (λ t. t || list_any (is_out released rel) own) kept) ∙ none
  rest_none rel g own false kept none = none

  first_out : (rel : ℕ) (g : Grant) (own : List Grant) (s : Bool) → s ≡ true → is_out released rel g ≡ true → list_any (is_out released rel) (cond s (g ∷ own) own) ≡ false → ⊥
  first_out rel g own true mine out none = let never : false ≡ true = sym none ∙ ap (λ t. t || list_any (is_out released rel) own) out in absurd (cc)
  first_out rel g own false mine out none = absurd (cc)

  -- a relation of which the backend releases nothing keeps its grants
  untouched : ((g : Grant) → is_released released g ≡ true → (g.backend == b) ≡ true) → (rel : ℕ) (held : List Grant) → list_any (is_out released rel) (filter (λ g. g.backend == b) held) ≡ false
      → filter (is_kept released) (filter (λ g. g.rel.0 == rel) held) ≡ filter (λ g. g.rel.0 == rel) held
  untouched mine rel [] none = refl
  untouched mine rel (g ∷ held) none = by (g.rel.0 == rel) refl (is_released released g) refl (untouched mine rel held)
    where
      own : List Grant
      own = filter (λ x. x.backend == b) held

      there : List Grant
      there = filter (λ x. x.rel.0 == rel) held

      by : (t : Bool) → (g.rel.0 == rel) ≡ t → (u : Bool) → is_released released g ≡ u → (list_any (is_out released rel) own ≡ false → filter (is_kept released) there ≡ there)
          → filter (is_kept released) (filter (λ x. x.rel.0 == rel) (g ∷ held)) ≡ filter (λ x. x.rel.0 == rel) (g ∷ held)
      by false away u out more =
          ap (filter (is_kept released)) (filter_step (λ x. x.rel.0 == rel) g held false away)
          ∙ more (rest_none rel g own (g.backend == b) (ap (λ t. t && is_released released g) away) none) ∙ sym (filter_step (λ x. x.rel.0 == rel) g held false away)
      by true here true out more = absurd (first_out rel g own (g.backend == b) (mine g out) (λ i. here i && out i) none)
      by true here false kept more =
          ap (filter (is_kept released)) (filter_step (λ x. x.rel.0 == rel) g held true here) ∙ filter_step (is_kept released) g there true (ap not kept)
          ∙ ap (λ l. g ∷ l) (more (rest_none rel g own (g.backend == b) (λ i. here i && kept i) none)) ∙ sym (filter_step (λ x. x.rel.0 == rel) g held true here)

  -- what is held after the backend's release
  pub holds_released : ((g : Grant) → is_released released g ≡ true → (g.backend == b) ≡ true) → (rels backends new_rels new_backends : GrantLists) (held own : List Grant) → own ≡ grants_at backends b
      → ((rel : ℕ) → grants_at new_rels rel ≡ cond (list_any (is_out released rel) own) (filter (is_kept released) (grants_at rels rel)) (grants_at rels rel))
      → ((other : ℕ) → grants_at new_backends other ≡ cond (b == other) (filter (is_kept released) (grants_at backends other)) (grants_at backends other))
      → Holds rels backends held → Holds new_rels new_backends (filter (is_kept released) held)
  holds_released mine rels backends new_rels new_backends held own is_own by_rel by_backend holds = record {
    rels = λ rel. by_rel rel ∙ at_rel rel (list_any (is_out released rel) own) refl;
    backends = λ other. by_backend other ∙ at_backend other (b == other) refl;
  }
    where
      at_rel : (rel : ℕ) (t : Bool) → list_any (is_out released rel) own ≡ t → cond t (filter (is_kept released) (grants_at rels rel)) (grants_at rels rel) ≡ filter (λ g. g.rel.0 == rel) (filter (is_kept released) held)
      at_rel rel true is = ap (filter (is_kept released)) (holds.rels rel) ∙ filter-filter (is_kept released) (λ g. g.rel.0 == rel) held
      at_rel rel false is =
          holds.rels rel ∙ sym (untouched mine rel held (sym (ap (list_any (is_out released rel)) (is_own ∙ holds.backends b)) ∙ is)) ∙ filter-filter (is_kept released) (λ g. g.rel.0 == rel) held

      apart : (other : ℕ) → (b == other) ≡ false → (g : Grant) → (g.backend == other) ≡ true → is_kept released g ≡ true
      apart other differs g is = of (is_released released g) refl
        where
          of : (t : Bool) → is_released released g ≡ t → is_kept released g ≡ true
          of false kept = ap not kept
          of true out = let same : b ≡ other = sym (eqb-true g.backend b (mine g out)) ∙ eqb-true g.backend other is in let never : true ≡ false = sym (eq-eqb b other same) ∙ differs in absurd (cc)

      at_backend : (other : ℕ) (t : Bool) → (b == other) ≡ t → cond t (filter (is_kept released) (grants_at backends other)) (grants_at backends other) ≡ filter (λ g. g.backend == other) (filter (is_kept released) held)
      at_backend other true is = ap (filter (is_kept released)) (holds.backends other) ∙ filter-filter (is_kept released) (λ g. g.backend == other) held
      at_backend other false is = holds.backends other ∙ sym (filter_all (is_kept released) (λ g. g.backend == other) (apart other is) held) ∙ filter-filter (is_kept released) (λ g. g.backend == other) held

-- one more of the backend's grants is seen
pub released_next : (released : Released) (own : List Grant) (i : ℕ) (g d : Grant) (old mid new : ℕ → List Grant) → i < length own → g ≡ get_or own i d
    → ((rel : ℕ) → mid rel ≡ cond (list_any (is_out released rel) (take i own)) (filter (is_kept released) (old rel)) (old rel)) → ((rel : ℕ) → new rel ≡ cond (is_out released rel g) (filter (is_kept released) (mid rel)) (mid rel))
    → (rel : ℕ) → new rel ≡ cond (list_any (is_out released rel) (take (i + 1) own)) (filter (is_kept released) (old rel)) (old rel)
released_next released own i g d old mid new within is before step rel =
    step rel ∙ ap (λ l. cond (is_out released rel g) (filter (is_kept released) l) l) (before rel) ∙ both (is_out released rel g) (list_any (is_out released rel) (take i own)) ∙ sym (ap (λ t. cond t (filter (is_kept released) (old rel)) (old rel)) longer)
  where
    longer : list_any (is_out released rel) (take (i + 1) own) ≡ (list_any (is_out released rel) (take i own) || (is_out released rel g || false))
    longer = ap (list_any (is_out released rel)) (take_more own i d within ∙ ap (λ x. take i own ++ x ∷ []) (sym is)) ∙ list_any-append (is_out released rel) (take i own) (g ∷ [])

    both : (s t : Bool) → cond s (filter (is_kept released) (cond t (filter (is_kept released) (old rel)) (old rel))) (cond t (filter (is_kept released) (old rel)) (old rel)) ≡ cond (t || (s || false)) (filter (is_kept released) (old rel)) (old rel)
    both true true = filter_twice (is_kept released) (old rel)
    both true false = refl
    both false true = refl
    both false false = refl
