-- How often the relations are pinned.
use Rattle.std.proofs.Common.{◌≡◌, ◌≢◌, ◌<◌, ◌+◌, ◌∙◌, ◌⊎◌, inl, inr, ◌||◌, ℕ, Bool, true, false, Option, Some, None, IsSome, IsSomeAnd, List, [], ◌∷◌, ◌++◌, take, drop, slice_get, sym, ap, subst, refl, arith, if◌then◌else◌}
use Rattle.std.proofs.lemmas.List.{drop_more, take-append-drop}
use Rattle.std.proofs.lemmas.Option.{slice_get_within, get_or_from_slice_get}
use Rattle.std.proofs.lemmas.Bool.{or_parts, eq-eqb, ne_eqb}
use Rattle.std.specs.List.{list_any}
use Rattle.std.specs.Option.{option_map}
use Rattle.base_types.specs.Scans.{same_oid}
use Rattle.pin_pool.specs.declared.reference.Ref.{Ref}
use Rattle.rel_cache.specs.declared.opened.Opened.{Opened}
use Rattle.rel_cache.specs.declared.opened.Opened.TheVariants.{Valid, Invalid, Unknown}
use Rattle.rel_cache.specs.Descriptors.{opened, opened_once, closed_once}
use Rattle.rel_cache.specs.Caches.{held_of, ChangesHeld}
use Rattle.rel_cache.proofs.Whole.{by_number}
use Rattle.local_caches.specs.Types.{Oid, Held, RelCache}
use Rattle.local_caches.specs.declared.part.Part.{Part}
use Rattle.local_caches.specs.Parts.{parts_held, pins_held}
use Rattle.local_caches.specs.Whole.{times, ArePinned, is_one_of}
use Rattle.local_caches.proofs.OfDescriptors.{same_or_other}

-- a relation that isn't among these stands there never
pub times_none : (rel : Oid) (xs : List Oid) → list_any (λ other. same_oid other rel) xs ≡ false → times rel xs ≡ 0
times_none rel [] none = refl
times_none rel (x ∷ xs) none =
    let parts = or_parts (same_oid x rel) (list_any (λ other. same_oid other rel) xs) none in
    ap (λ n. n + (if same_oid x rel then 1 else 0)) (times_none rel xs parts.1) ∙ ap (λ t. 0 + (if t then 1 else 0)) parts.0

-- a relation that is among these stands there
pub times_some : (rel : Oid) (xs : List Oid) → list_any (λ other. same_oid other rel) xs ≡ true → 0 < times rel xs
times_some rel [] some = absurd (cc)
times_some rel (x ∷ xs) some = by (same_oid x rel) refl (times_some rel xs)
  where
    by : (t : Bool) → same_oid x rel ≡ t → (list_any (λ other. same_oid other rel) xs ≡ true → 0 < times rel xs) → 0 < times rel xs + (if same_oid x rel then 1 else 0)
    by true is more = let one : times rel xs + (if same_oid x rel then 1 else 0) ≡ times rel xs + 1 = ap (λ t. times rel xs + (if t then 1 else 0)) is in omega (arith, one)
    by false is more =
        let rest = more (sym (ap (λ t. t || list_any (λ other. same_oid other rel) xs) is) ∙ some) in
        omega (arith, rest)

-- one more at the end
pub times_more : (rel other : Oid) (xs : List Oid) → times rel (xs ++ other ∷ []) ≡ times rel xs + (if same_oid other rel then 1 else 0)
times_more rel other [] = refl
times_more rel other (x ∷ xs) =
    ap (λ n. n + (if same_oid x rel then 1 else 0)) (times_more rel other xs) ∙ swap (times rel xs) (if same_oid other rel then 1 else 0) (if same_oid x rel then 1 else 0)
  where
    swap : (a b c : ℕ) → a + b + c ≡ a + c + b
    swap a b c = omega arith

-- a descriptor that isn't pinned may be
pub few_pins : (relations : RelCache (List Part)) (pinned : List Oid) (rel : Oid) → ArePinned relations pinned → list_any (λ other. same_oid other rel) pinned ≡ false → (h : Held (List Part)) → held_of relations rel ≡ Some h → h.pins < 4294967295
few_pins relations pinned rel pins none h is =
    let zero : h.pins ≡ 0 = sym (ap pins_held is) ∙ pins rel ∙ times_none rel pinned none in
    omega (arith, zero)

-- the relation itself, or another one at the end
times_own : (rel : Oid) (xs : List Oid) → times rel (xs ++ rel ∷ []) ≡ times rel xs + 1
times_own rel xs = times_more rel rel xs ∙ ap (λ t. times rel xs + (if t then 1 else 0)) (eq-eqb rel.0 rel.0 refl)

times_other : (rel other : Oid) (xs : List Oid) → rel ≢ other → times rel (xs ++ other ∷ []) ≡ times rel xs
times_other rel other xs differs =
    let nothing : times rel xs + 0 ≡ times rel xs = omega arith in
    times_more rel other xs ∙ ap (λ t. times rel xs + (if t then 1 else 0)) (ne_eqb other.0 rel.0 (λ same. differs (by_number rel other (sym same)))) ∙ nothing

-- where a descriptor is opened there is one
pub is_there : (o : Option (Held (List Part))) (answer : Opened) → answer ≡ opened o → ((r : Ref) × (answer ≡ Valid r)) ⊎ ((r : Ref) × (answer ≡ Invalid r)) → IsSome o
is_there None answer is (inl valid) = let never : Unknown ≡ Valid valid.0 = sym is ∙ valid.1 in absurd (cc)
is_there None answer is (inr invalid) = let never : Unknown ≡ Invalid invalid.0 = sym is ∙ invalid.1 in absurd (cc)
is_there (Some h) answer is there = refl

-- where none is opened there is none
pub is_absent : (o : Option (Held (List Part))) (answer : Opened) → answer ≡ opened o → answer ≡ Unknown → o ≡ None
is_absent None answer is unknown = refl
is_absent (Some h) answer is unknown = by h.valid (sym is ∙ unknown)
  where
    by : (valid : Bool) → (if valid then Valid h.at else Invalid h.at) ≡ Unknown → Some h ≡ None
    by true never = absurd (cc)
    by false never = absurd (cc)

-- each descriptor has the scans that it had
pub opened_parts : (old new : RelCache (List Part)) (rel : Oid) → ChangesHeld old new rel (option_map opened_once (held_of old rel)) → (other : Oid) → parts_held (held_of new other) ≡ parts_held (held_of old other)
opened_parts old new rel changes other = by (same_or_other other rel)
  where
    same : (o : Option (Held (List Part))) → parts_held (option_map opened_once o) ≡ parts_held o
    same None = refl
    same (Some h) = refl

    by : (other ≡ rel) ⊎ (other ≢ rel) → parts_held (held_of new other) ≡ parts_held (held_of old other)
    by (inl is) = ap (λ o. parts_held (held_of new o)) is ∙ ap parts_held changes.at ∙ same (held_of old rel) ∙ sym (ap (λ o. parts_held (held_of old o)) is)
    by (inr differs) = ap parts_held (changes.others other differs)

-- and the one that is opened a pin
pub opened_pinned : (old new : RelCache (List Part)) (rel : Oid) → IsSome (held_of old rel) → ChangesHeld old new rel (option_map opened_once (held_of old rel)) → 0 < pins_held (held_of new rel)
opened_pinned old new rel there changes = subst (λ o. 0 < pins_held o) (sym changes.at) (by (held_of old rel) there)
  where
    by : (o : Option (Held (List Part))) → IsSome o → 0 < pins_held (option_map opened_once o)
    by None none = absurd (cc)
    by (Some h) some = omega arith

-- a descriptor that is opened has one pin more
pub opened_pins : (old new : RelCache (List Part)) (rel : Oid) (pinned now : List Oid) → ArePinned old pinned → IsSome (held_of old rel) → ChangesHeld old new rel (option_map opened_once (held_of old rel)) → now ≡ pinned ++ rel ∷ [] → ArePinned new now
opened_pins old new rel pinned now pins there changes is other = by (same_or_other other rel) ∙ sym (ap (times other) is)
  where
    more : (o : Option (Held (List Part))) → IsSome o → pins_held (option_map opened_once o) ≡ pins_held o + 1
    more None none = absurd (cc)
    more (Some h) some = refl

    by : (other ≡ rel) ⊎ (other ≢ rel) → pins_held (held_of new other) ≡ times other (pinned ++ rel ∷ [])
    by (inl same) =
        ap (λ o. pins_held (held_of new o)) same ∙ ap pins_held changes.at ∙ more (held_of old rel) there ∙ ap (λ n. n + 1) (pins rel) ∙ sym (times_own rel pinned) ∙ sym (ap (λ o. times o (pinned ++ rel ∷ [])) same)
    by (inr differs) = ap pins_held (changes.others other differs) ∙ pins other ∙ sym (times_other other rel pinned differs)

-- these are those but for one, which is this relation
pub record IsOneLess (rel : Oid) (pinned left : List Oid) : Type 0 where
  pub own : times rel pinned ≡ times rel left + 1
  pub others : (other : Oid) → other ≢ rel → times other pinned ≡ times other left

-- so it is where the one at a place is taken out
pub taken_out : (rel : Oid) (xs : List Oid) (at : ℕ) → slice_get xs at ≡ Some rel → IsOneLess rel xs (take at xs ++ drop (at + 1) xs)
taken_out rel xs at is = record {
  own = apart rel ∙ between rel (take at xs) (drop (at + 1) xs) ∙ ap (λ t. times rel (take at xs ++ drop (at + 1) xs) + (if t then 1 else 0)) (eq-eqb rel.0 rel.0 refl);
  others = λ other differs. apart other ∙ between other (take at xs) (drop (at + 1) xs) ∙ ap (λ t. times other (take at xs ++ drop (at + 1) xs) + (if t then 1 else 0)) (ne_eqb rel.0 other.0 (λ same. differs (by_number other rel (sym same)))) ∙ nothing (times other (take at xs ++ drop (at + 1) xs));
}
  where
    nothing : (n : ℕ) → n + 0 ≡ n
    nothing n = omega arith

    swap : (a b c : ℕ) → a + b + c ≡ a + c + b
    swap a b c = omega arith

    here : drop at xs ≡ rel ∷ drop (at + 1) xs
    here = drop_more xs at rel (slice_get_within xs at rel is) ∙ ap (λ x. x ∷ drop (at + 1) xs) (get_or_from_slice_get xs at rel rel is)

    apart : (other : Oid) → times other xs ≡ times other (take at xs ++ rel ∷ drop (at + 1) xs)
    apart other = ap (times other) (sym (take-append-drop at xs) ∙ ap (λ l. take at xs ++ l) here)

    between : (other : Oid) (front back : List Oid) → times other (front ++ rel ∷ back) ≡ times other (front ++ back) + (if same_oid rel other then 1 else 0)
    between other [] back = refl
    between other (x ∷ front) back = ap (λ n. n + (if same_oid x other then 1 else 0)) (between other front back) ∙ swap (times other (front ++ back)) (if same_oid rel other then 1 else 0) (if same_oid x other then 1 else 0)

-- one that is pinned has a pin
pub has_pin : (relations : RelCache (List Part)) (pinned left : List Oid) (rel : Oid) → ArePinned relations pinned → IsOneLess rel pinned left → IsSomeAnd (held_of relations rel) (λ h. 0 < h.pins)
has_pin relations pinned left rel pins less = by (held_of relations rel) (pins rel ∙ less.own)
  where
    by : (o : Option (Held (List Part))) → pins_held o ≡ times rel left + 1 → IsSomeAnd o (λ h. 0 < h.pins)
    by None none = absurd (omega (arith, none))
    by (Some h) some = omega (arith, some)

-- and is held
pub is_held : (relations : RelCache (List Part)) (pinned left : List Oid) (rel : Oid) → ArePinned relations pinned → IsOneLess rel pinned left → option_map (λ h. h.at) (held_of relations rel) ≡ None → ⊥
is_held relations pinned left rel pins less gone = by (held_of relations rel) (has_pin relations pinned left rel pins less) gone
  where
    by : (o : Option (Held (List Part))) → IsSomeAnd o (λ h. 0 < h.pins) → option_map (λ h. h.at) o ≡ None → ⊥
    by None some none = some
    by (Some h) some none = absurd (cc)

-- and one pin less once it is closed
pub closed_pins : (old new : RelCache (List Part)) (rel : Oid) (pinned left : List Oid) → ArePinned old pinned → IsOneLess rel pinned left → ChangesHeld old new rel (option_map closed_once (held_of old rel)) → ArePinned new left
closed_pins old new rel pinned left pins less changes other = by (same_or_other other rel)
  where
    fewer : (o : Option (Held (List Part))) (n : ℕ) → pins_held o ≡ n + 1 → pins_held (option_map closed_once o) ≡ n
    fewer None n none = absurd (omega (arith, none))
    fewer (Some h) n some = omega (arith, some)

    by : (other ≡ rel) ⊎ (other ≢ rel) → pins_held (held_of new other) ≡ times other left
    by (inl same) =
        ap (λ o. pins_held (held_of new o)) same ∙ ap pins_held changes.at ∙ fewer (held_of old rel) (times rel left) (pins rel ∙ less.own) ∙ sym (ap (λ o. times o left) same)
    by (inr differs) = ap pins_held (changes.others other differs) ∙ pins other ∙ less.others other differs
