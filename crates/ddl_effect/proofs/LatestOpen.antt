-- The latest relation that was opened under a name, found in one pass.
use Rattle.std.proofs.Common.{◌≡◌, ◌<◌, ◌≤◌, ◌+◌, ◌∙◌, ℕ, Bool, true, false, if◌then◌else◌, Option, Some, IfSome, List, ◌∷◌, length, drop, get_or, ap, sym, subst}
use Rattle.std.specs.Str.{bytes_eq}
use Rattle.std.proofs.lemmas.List.{drop_more}
use Rattle.std.proofs.Math.ListN.{drop_of_length-le}
use Rattle.ddl_effect.specs.Types.{OpenRelation}
use Rattle.ddl_effect.specs.Opens.{place_in, place_latest}

-- how far a pass is: it goes on from the place that it has found, which lies in the list
pub record FindsLatest (name : List ℕ) (opens : List OpenRelation) (at : ℕ) (place : Option ℕ) : Type 0 where
  pub so : place_in name at place (drop at opens) ≡ place_latest name opens
  pub within : IfSome place (λ p. p < length opens)

-- one relation more
goes_on : (name : List ℕ) (opens : List OpenRelation) (at : ℕ) (place next : Option ℕ) (o : OpenRelation) (same : Bool) → at < length opens → o ≡ get_or opens at o
    → bytes_eq name o.name ≡ same → next ≡ (if same then Some at else place) → place_in name at place (drop at opens) ≡ place_latest name opens → place_in name (at + 1) next (drop (at + 1) opens) ≡ place_latest name opens
goes_on name opens at place next o same inside is named went so =
    ap (λ p. place_in name (at + 1) p (drop (at + 1) opens)) (went ∙ ap (λ (b : Bool). if b then Some at else place) (sym named))
    ∙ sym (ap (place_in name at place) (drop_more opens at o inside ∙ ap (λ x. x ∷ drop (at + 1) opens) (sym is)))
    ∙ so

-- one of that name
pub finds_there : (name : List ℕ) (opens : List OpenRelation) (at : ℕ) (place next : Option ℕ) (o : OpenRelation) → at < length opens → o ≡ get_or opens at o
    → bytes_eq name o.name ≡ true → next ≡ Some at → FindsLatest name opens at place → FindsLatest name opens (at + 1) next
finds_there name opens at place next o inside is named went finds = record {
  so = goes_on name opens at place next o true inside is named went finds.so;
  within = subst (λ p. IfSome p (λ q. q < length opens)) (sym went) inside;
}

-- and one of another
pub finds_past : (name : List ℕ) (opens : List OpenRelation) (at : ℕ) (place next : Option ℕ) (o : OpenRelation) → at < length opens → o ≡ get_or opens at o
    → bytes_eq name o.name ≡ false → next ≡ place → FindsLatest name opens at place → FindsLatest name opens (at + 1) next
finds_past name opens at place next o inside is named went finds = record {
  so = goes_on name opens at place next o false inside is named went finds.so;
  within = subst (λ p. IfSome p (λ q. q < length opens)) (sym went) finds.within;
}

-- at the end it is the place of the latest
pub finds_last : (name : List ℕ) (opens : List OpenRelation) (at : ℕ) (place : Option ℕ) → length opens ≤ at → FindsLatest name opens at place → place ≡ place_latest name opens
finds_last name opens at place past finds = sym (ap (place_in name at place) (drop_of_length-le opens past)) ∙ finds.so
