-- Grants that are added one by one.
use Rattle.std.proofs.Common.{◌≡◌, ◌<◌, ◌+◌, ◌==◌, ◌∙◌, ℕ, cond, List, [], ◌∷◌, ◌++◌, filter, length, take, get_or, sym, ap, append_assoc}
use Rattle.std.proofs.lemmas.List.{take_more}
use Rattle.std.proofs.lemmas.List.Elements.{filter-append}
use Rattle.lock_modes.specs.Types.{Grant}
use Rattle.lock_modes.specs.GrantLists.{grants_at}
use Rattle.lock_modes.specs.Kept.{Holds}
use Rattle.lock_modes.specs.declared.grant_lists.GrantLists.{GrantLists}

-- one more is held
pub held_next : (old held now grants : List Grant) (i : ℕ) (any : Grant) → i < length grants → held ≡ old ++ take i grants → now ≡ held ++ get_or grants i any ∷ [] → now ≡ old ++ take (i + 1) grants
held_next old held now grants i any within before added =
    added ∙ ap (λ l. l ++ get_or grants i any ∷ []) before ∙ append_assoc old (take i grants) (get_or grants i any ∷ []) ∙ ap (λ l. old ++ l) (sym (take_more grants i any within))

-- and stands in the lists of its relation and its backend
pub holds_next : (rels0 backends0 rels backends : GrantLists) (held now : List Grant) (g : Grant) → ((rel : ℕ) → grants_at rels rel ≡ grants_at rels0 rel ++ cond (g.rel.0 == rel) (g ∷ []) []) → ((b : ℕ) → grants_at backends b ≡ grants_at backends0 b ++ cond (g.backend == b) (g ∷ []) []) → now ≡ held ++ g ∷ [] → Holds rels0 backends0 held → Holds rels backends now
holds_next rels0 backends0 rels backends held now g at_rel at_backend added holds = record {
  rels = λ rel. at_rel rel ∙ ap (λ l. l ++ cond (g.rel.0 == rel) (g ∷ []) []) (holds.rels rel) ∙ sym (ap (filter (λ (x : Grant). x.rel.0 == rel)) added ∙ filter-append (λ (x : Grant). x.rel.0 == rel) held (g ∷ []));
  backends = λ b. at_backend b ∙ ap (λ l. l ++ cond (g.backend == b) (g ∷ []) []) (holds.backends b) ∙ sym (ap (filter (λ (x : Grant). x.backend == b)) added ∙ filter-append (λ (x : Grant). x.backend == b) held (g ∷ []));
}
