-- Room for grants.
use Rattle.std.proofs.Common.{◌≡◌, ◌≤◌, ◌<◌, ◌+◌, ◌-◌, ◌∙◌, ◌⊎◌, inl, inr, ℕ, List, [], length, get_or, sym, ap, subst, arith}
use Rattle.std.proofs.lemmas.Bool.{cases_lt}
use Rattle.std.proofs.lemmas.List.{get_or_read}
use Rattle.lock_modes.specs.Types.{Grant}
use Rattle.lock_modes.specs.GrantLists.{room_at}
use Rattle.lock_modes.specs.Kept.{HasRoom}
use Rattle.lock_modes.specs.declared.grant_lists.GrantLists.{GrantLists}

-- where nothing is prepared there is room
pub room_for_none : (rels backends : GrantLists) (prepared : List Grant) → prepared ≡ [] → HasRoom rels backends prepared (length prepared) (length prepared)
room_for_none rels backends prepared none =
    subst (λ grants. HasRoom rels backends grants (length grants) (length grants)) (sym none) (record { rels = λ i g within is. absurd (omega (arith, within)); backends = λ i g within is. absurd (omega (arith, within)) })

-- room is made for one more of them
pub room_next : (rels0 backends0 rels backends : GrantLists) (grants : List Grant) (i count : ℕ) (any : Grant) → ((rel : ℕ) → room_at rels0 rel ≤ room_at rels rel) → ((b : ℕ) → room_at backends0 b ≤ room_at backends b) → i < length grants → count ≤ room_at rels (get_or grants i any).rel.0 → count ≤ room_at backends (get_or grants i any).backend → HasRoom rels0 backends0 grants i count → HasRoom rels backends grants (i + 1) count
room_next rels0 backends0 rels backends grants i count any more_rels more_backends within at_rel at_backend room =
    record { rels = λ j g before is. by_rel j g before is (cases_lt j i); backends = λ j g before is. by_backend j g before is (cases_lt j i) }
  where
    last : (j : ℕ) (g : Grant) → j < i + 1 → i ≤ j → g ≡ get_or grants j g → g ≡ get_or grants i any
    last j g before late is = let now : j ≡ i = omega (arith, before, late) in get_or_read grants i g within (is ∙ ap (λ k. get_or grants k g) now) any

    by_rel : (j : ℕ) (g : Grant) → j < i + 1 → g ≡ get_or grants j g → (j < i) ⊎ (i ≤ j) → count ≤ room_at rels g.rel.0
    by_rel j g before is (inl early) = let old = room.rels j g early is in let more = more_rels g.rel.0 in omega (arith, old, more)
    by_rel j g before is (inr late) = subst (λ (x : Grant). count ≤ room_at rels x.rel.0) (sym (last j g before late is)) at_rel

    by_backend : (j : ℕ) (g : Grant) → j < i + 1 → g ≡ get_or grants j g → (j < i) ⊎ (i ≤ j) → count ≤ room_at backends g.backend
    by_backend j g before is (inl early) = let old = room.backends j g early is in let more = more_backends g.backend in omega (arith, old, more)
    by_backend j g before is (inr late) = subst (λ (x : Grant). count ≤ room_at backends x.backend) (sym (last j g before late is)) at_backend

-- room for one is taken
pub room_taken : (rels0 backends0 rels backends : GrantLists) (grants : List Grant) (first count i : ℕ) → ((rel : ℕ) → room_at rels0 rel ≤ room_at rels rel + 1) → ((b : ℕ) → room_at backends0 b ≤ room_at backends b + 1) → HasRoom rels0 backends0 grants first (count - i) → HasRoom rels backends grants first (count - (i + 1))
room_taken rels0 backends0 rels backends grants first count i less_rels less_backends room = record {
  rels = λ j g before is. let old = room.rels j g before is in let less = less_rels g.rel.0 in omega (arith, old, less);
  backends = λ j g before is. let old = room.backends j g before is in let less = less_backends g.backend in omega (arith, old, less);
}
