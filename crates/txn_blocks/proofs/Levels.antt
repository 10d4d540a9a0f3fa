-- The levels of a block, and the latest savepoint of a name.
use Rattle.std.proofs.Common.{◌≡◌, ◌≤◌, ◌<◌, ◌+◌, ℕ, suc, zero, true, false, None, Some, List, [], ◌∷◌, refl, sym, ap, ◌∙◌, add-one, ◌-◌, subst, length, take, drop, slice_get, get_or, arith}
use Rattle.std.proofs.lemmas.Option.{slice_get_read}
use Rattle.txn_blocks.specs.Blocks.{Level, innermost, is_savepoint, place_with, place_of, levels_up_to}
use Rattle.std.specs.Option.{option_map_or}

-- the innermost of the first levels up to a place is that at the place
pub innermost_at : (number : ℕ) (levels : List Level) (at : ℕ) (level : Level) → slice_get levels at ≡ Some level → innermost number (take (suc at) levels) ≡ level.first
innermost_at number [] at level h = absurd (cc h)
innermost_at number (own ∷ levels) zero level h = ap (λ o. elim o as (λ x. ℕ) [ Some l ↦ l.first | None ↦ number ]) h
innermost_at number (own ∷ levels) (suc at) level h = innermost_at own.first levels at level h

-- the innermost is the last
pub innermost_last : (number : ℕ) (levels : List Level) (level : Level) → slice_get levels (length levels - 1) ≡ Some level → innermost number levels ≡ level.first
innermost_last number [] level h = absurd (cc h)
innermost_last number (own ∷ []) level h = innermost_at number (own ∷ []) zero level h
innermost_last number (own ∷ next ∷ levels) level h = innermost_last own.first (next ∷ levels) level (search arith)

-- the same of the levels that are lent
pub innermost_lent : (number : ℕ) (levels lent : List Level) (level : Level) → lent ≡ levels → Some level ≡ slice_get lent (length lent - 1) → level.first ≡ innermost number levels
innermost_lent number levels lent level same last = sym (ap (innermost number) (sym same) ∙ innermost_last number lent level (sym last))

-- that of the level at a place
pub first_at : (number : ℕ) (name : List ℕ) (levels : List Level) (at : ℕ) (level : Level) → Some at ≡ place_of name levels → at < length levels → level ≡ get_or levels at level → level.first ≡ innermost number (levels_up_to name levels)
first_at number name levels at level place inside is = sym (ap (λ o. innermost number (option_map_or (λ at. take (at + 1) levels) o levels)) (sym place) ∙ (ap (λ n. innermost number (take n levels)) (add-one at) ∙ innermost_at number levels at level (slice_get_read levels (length levels) at level refl inside is)))

-- the same of the levels that are lent
pub first_lent : (number : ℕ) (name : List ℕ) (levels lent : List Level) (at : ℕ) (level : Level) → lent ≡ levels → Some at ≡ place_of name lent → at < length lent → level ≡ get_or levels at level → level.first ≡ innermost number (levels_up_to name levels)
first_lent number name levels lent at level same place inside is = first_at number name levels at level (subst (λ l. Some at ≡ place_of name l) same place) (subst (λ l. at < length l) same inside) is

-- there is a savepoint of the name at a place, and none after it: it is the latest
pub place_found : (name : List ℕ) (levels : List Level) (at : ℕ) (level : Level) → slice_get levels at ≡ Some level → is_savepoint name level ≡ true → place_of name (drop (suc at) levels) ≡ None → place_of name levels ≡ Some at
place_found name [] at level h begins after = absurd (cc h)
place_found name (own ∷ levels) zero level h begins after = search arith
place_found name (own ∷ levels) (suc at) level h begins after = ap (place_with (is_savepoint name own)) (place_found name levels at level h begins after) ∙ ap Some (add-one at)

-- none from a place on, where the one there is of another name and none after it has this one
pub place_passed : (name : List ℕ) (levels : List Level) (at : ℕ) (level : Level) → slice_get levels at ≡ Some level → is_savepoint name level ≡ false → place_of name (drop (suc at) levels) ≡ None → place_of name (drop at levels) ≡ None
place_passed name [] at level h begins after = absurd (cc h)
place_passed name (own ∷ levels) zero level h begins after = search arith
place_passed name (own ∷ levels) (suc at) level h begins after = place_passed name levels at level h begins after

-- the same as the search from the innermost level on comes to it
pub found_before : (name : List ℕ) (levels : List Level) (after at : ℕ) (level : Level) → suc at ≡ after → after ≤ length levels → level ≡ get_or levels at level → true ≡ is_savepoint name level → place_of name (drop after levels) ≡ None → Some at ≡ place_of name levels
found_before name levels after at level next within is begins none =
    let inside : at < length levels = omega arith in
    sym (place_found name levels at level (slice_get_read levels (length levels) at level refl inside is) (sym begins) (subst (λ n. place_of name (drop n levels) ≡ None) (sym next) none))
