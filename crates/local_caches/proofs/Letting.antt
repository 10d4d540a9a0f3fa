-- What is left pinned where all but some relations are let go.
use Rattle.std.proofs.Common.{◌≡◌, ◌≢◌, ◌≤◌, ◌<◌, ◌+◌, ◌∙◌, ◌⊎◌, inl, inr, ◌||◌, ◌&&◌, ℕ, Bool, true, false, Option, Some, None, is_some, nat_lt, List, [], ◌∷◌, ◌++◌, cond, length, take, drop, get_or, slice_get, sym, ap, subst, refl, arith, if◌then◌else◌, eqb-true}
use Rattle.std.proofs.lemmas.List.{drop_more, drop_all, drop_at, length-append, length-take-le}
use Rattle.std.proofs.lemmas.Option.{slice_get_within, get_or_from_slice_get}
use Rattle.base_types.specs.Scans.{same_oid}
use Rattle.rel_cache.proofs.Whole.{by_number}
use Rattle.rel_cache.specs.Caches.{held_of}
use Rattle.local_caches.specs.Types.{Oid, Purpose, Held}
use Rattle.local_caches.specs.declared.home.Home.TheVariants as homes
use Rattle.local_caches.specs.declared.part.Part.{Part}
use Rattle.local_caches.specs.declared.descriptors.Descriptors.{Descriptors}
use Rattle.local_caches.specs.declared.local_caches.LocalCaches.{LocalCaches}
use Rattle.local_caches.specs.Kept.{is_kept}
use Rattle.local_caches.specs.Homes.{home_of}
use Rattle.local_caches.specs.Parts.{part_kept, parts_held}
use Rattle.local_caches.specs.Descriptors.{has_descriptor, parts_of, pins_of, HasParts}
use Rattle.local_caches.specs.Caches.{read_at, kept_of}
use Rattle.local_caches.specs.Whole.{times, is_one_of}

-- all but these are let go, of those that are pinned from a place on
pub record LetsGoFrom (old new : Descriptors) (kept : List Oid) (at : ℕ) : Type 0 where
  pub parts : HasParts old new
  pub within : at ≤ length new.pinned.items
  pub stay : (rel : Oid) → is_one_of rel kept ≡ true → pins_of new rel ≡ pins_of old rel
  pub gone : (rel : Oid) → is_one_of rel kept ≡ false → times rel (drop at new.pinned.items) ≡ 0

-- of two relations one is one of these, and one isn't
are_two : (kept : List Oid) (a b : Oid) (t : Bool) → same_oid a b ≡ t → is_one_of a kept ≡ true → is_one_of b kept ≡ false → t ≡ false
are_two kept a b true is one none = let never : true ≡ false = sym one ∙ ap (λ o. is_one_of o kept) (by_number a b (eqb-true a.0 b.0 is)) ∙ none in absurd (cc)
are_two kept a b false is one none = refl

-- one that is kept stays
pub stays : (old new : Descriptors) (kept : List Oid) (at : ℕ) (rel : Oid) → slice_get new.pinned.items at ≡ Some rel → is_one_of rel kept ≡ true → LetsGoFrom old new kept (at + 1) → LetsGoFrom old new kept at
stays old new kept at rel is one so = record {
  parts = so.parts;
  within = omega (arith, so.within);
  stay = so.stay;
  gone = λ other none. ap (times other) here ∙ ap (λ n. n + (if same_oid rel other then 1 else 0)) (so.gone other none) ∙ ap (λ t. 0 + (if t then 1 else 0)) (are_two kept rel other (same_oid rel other) refl one none);
}
  where
    xs : List Oid
    xs = new.pinned.items

    here : drop at xs ≡ rel ∷ drop (at + 1) xs
    here = drop_more xs at rel (slice_get_within xs at rel is) ∙ ap (λ x. x ∷ drop (at + 1) xs) (get_or_from_slice_get xs at rel rel is)

-- another one is let go
pub goes : (old mid new : Descriptors) (kept : List Oid) (at : ℕ) (rel : Oid) → slice_get mid.pinned.items at ≡ Some rel → is_one_of rel kept ≡ false → HasParts mid new → new.pinned.items ≡ take at mid.pinned.items ++ drop (at + 1) mid.pinned.items → ((other : Oid) → other ≢ rel → pins_of new other ≡ pins_of mid other) → LetsGoFrom old mid kept (at + 1) → LetsGoFrom old new kept at
goes old mid new kept at rel is none keeps left others so = record {
  parts = λ other. keeps other ∙ so.parts other;
  within = subst (λ l. at ≤ length l) (sym left) (omega (arith, within, length-append (take at xs) (drop (at + 1) xs)));
  stay = λ other one. others other (λ same. let never : true ≡ false = sym one ∙ ap (λ o. is_one_of o kept) same ∙ none in absurd (cc)) ∙ so.stay other one;
  gone = λ other apart. ap (times other) (ap (drop at) left ∙ drop_at (take at xs) (drop (at + 1) xs) at within) ∙ so.gone other apart;
}
  where
    xs : List Oid
    xs = mid.pinned.items

    within : length (take at xs) ≡ at
    within = length-take-le at xs (let below = slice_get_within xs at rel is in omega (arith, below))

-- where all is passed, no other has a pin
pub let_go : (old new : Descriptors) (kept : List Oid) → LetsGoFrom old new kept 0 → (rel : Oid) → pins_of new rel ≡ cond (is_one_of rel kept) (pins_of old rel) 0
unfolding pins_of
let_go old new kept so rel = by (is_one_of rel kept) refl
  where
    by : (t : Bool) → is_one_of rel kept ≡ t → pins_of new rel ≡ cond t (pins_of old rel) 0
    by true one = so.stay rel one
    by false none = new.pins rel ∙ so.gone rel none

-- before, all is as it was
pub none_passed : (d : Descriptors) (kept : List Oid) → LetsGoFrom d d kept (length d.pinned.items)
none_passed d kept = record {
  parts = λ rel. refl;
  within = omega arith;
  stay = λ rel one. refl;
  gone = λ rel none. ap (times rel) (drop_all (length d.pinned.items) d.pinned.items (omega arith));
}

-- it has a pin where it is one of these and had one
pub pinned_left : (t : Bool) (n : ℕ) → nat_lt 0 (cond t n 0) ≡ (t && nat_lt 0 n)
pinned_left true n = refl
pinned_left false n = refl

-- a relation has a descriptor where something is kept of a scan for it
pub has_kept : (c : LocalCaches) (rel : Oid) (scan : Purpose) → home_of scan ≡ homes.Rel rel → is_kept (kept_of c) scan ≡ true → has_descriptor c.descriptors rel ≡ true
unfolding kept_of has_descriptor parts_of
has_kept c rel scan home kept = by (held_of c.descriptors.relations rel) (sym (ap (λ h. is_some (read_at c scan h)) home) ∙ kept)
  where
    by : (o : Option (Held (List Part))) → is_some (part_kept (parts_held o) scan) ≡ true → is_some o ≡ true
    by None none = absurd (cc none)
    by (Some h) some = refl
