-- What is held after messages for the places of the index, from the last one down.
use Rattle.std.proofs.Common.{◌≡◌, ◌≢◌, ◌∙◌, ◌⊎◌, inl, inr, ◌<◌, ◌≤◌, ◌+◌, ◌-◌, ◌==◌, ℕ, Bool, true, false, Option, Some, None, List, length, sym, ap, subst, refl, nat_eq, if◌then◌else◌, slice_index, slice_get, arith}
use Rattle.std.proofs.lemmas.Bool.{eqb-true, cases_eq, eq-eqb, ne_eqb}
use Rattle.std.proofs.lemmas.Grind.{common_steps}
use Rattle.std.proofs.lemmas.List.{get_or-map}
use Rattle.std.proofs.lemmas.Option.{slice_get-map, slice_get_within, get_or_from_slice_get}
use Rattle.std.proofs.lemmas.Map.Entries.{place_from_lookup, length-keys_of}
use Rattle.std.specs.Option.{option_map, option_and_then}
use Rattle.std.specs.List.{swap_remove}
use Rattle.std.specs.Map.{keys_of}
use Rattle.indexmap.specs.IndexMap.{IndexMap, get, keys, index_map_len}
use Rattle.pin_pool.specs.Entries.{Entry, marked}
use Rattle.pin_pool.specs.Pools.{entry_of, Changes}
use Rattle.pin_pool.specs.declared.pool.Pool.{Pool}
use Rattle.rel_cache.specs.Descriptors.{Held, told, need}
use Rattle.rel_cache.specs.Named.{AreIndexed, ArePlaced, with_mark}
use Rattle.rel_cache.specs.declared.opened.Need.{Need}
use Rattle.rel_cache.specs.declared.opened.Need.TheVariants.{Nothing, Rebuild}
use Rattle.rel_cache.specs.Caches.{held_at}
use Rattle.rel_cache.specs.declared.kept.Kept.{Kept}
use Rattle.rel_cache.specs.declared.kept.Place.{Place}
use Rattle.rel_cache.proofs.Agreeing.{Leaves, stands_at, held_there}
use Rattle.rel_cache.proofs.Calls.{marking, removing}

module _ {D : Type 0} where
  -- a second message leaves what the first has left
  pub told_twice : (o : Option (Held D)) → option_and_then told (option_and_then told o) ≡ option_and_then told o
  told_twice None = refl
  told_twice (Some h) = by (h.pins == 0) refl
    where
      by : (t : Bool) → (h.pins == 0) ≡ t → option_and_then told (told h) ≡ told h
      by true none = let gone : told h ≡ None = ap (λ t. if t then None else Some (record h { valid = false })) none in ap (option_and_then told) gone ∙ sym gone
      by false some =
          let stays : told h ≡ Some (record h { valid = false }) = ap (λ t. if t then None else Some (record h { valid = false })) some in
          ap (option_and_then told) stays ∙ ap (λ t. if t then None else Some (record h { valid = false })) some ∙ sym stays

  -- the pins that are counted
  counted : (o : Option (Entry (Kept D))) (e : Entry (Kept D)) (n : ℕ) → option_map (λ e. e.pins) o ≡ Some n → o ≡ Some e → n ≡ e.pins
  counted o e n is there = let one : Some n ≡ Some e.pins = sym is ∙ ap (option_map (λ e. e.pins)) there in cc

module _ {X : Type 0} where
  -- where an element was before the last one took the place of another
  pub before_swap : (es : List (ℕ × X)) (i : ℕ) (d : ℕ × X) (k : ℕ) → i < length es → i ≤ k → k < length (swap_remove es i d)
      → (j : ℕ) × (i + 1 ≤ j) × (j < length es) × (slice_index (keys_of (swap_remove es i d)) k ≡ slice_index (keys_of es) j)
  before_swap es i d k within from inside = by (cases_eq k i)
    where
      len : length (swap_remove es i d) ≡ length es - 1
      len = grind (arith, common_steps)

      by : (k ≡ i) ⊎ (k ≢ i) → (j : ℕ) × (i + 1 ≤ j) × (j < length es) × (slice_index (keys_of (swap_remove es i d)) k ≡ slice_index (keys_of es) j)
      by (inl same) = (
        length es - 1,
        omega (arith, inside, len, same),
        omega (arith, within),
        get_or-map (λ e. e.0) (swap_remove es i d) k d 0 inside ∙ grind (arith, common_steps, same, len, inside) ∙ sym (get_or-map (λ e. e.0) es (length es - 1) d 0 (omega (arith, within))),
      )
      by (inr other) = (
        k,
        omega (arith, from, other),
        omega (arith, inside, len),
        get_or-map (λ e. e.0) (swap_remove es i d) k d 0 inside ∙ grind (arith, common_steps, other, len, inside) ∙ sym (get_or-map (λ e. e.0) es k d 0 (omega (arith, inside, len))),
      )

module _ {S : Type 0} where
  -- where a key is found
  pub key_place : (index : IndexMap ℕ Place S) (key : ℕ) (place : Place) → get nat_eq index key ≡ Some place → (i : ℕ) × (i < index_map_len index) × (slice_index (keys index) i ≡ key)
  key_place index key place found =
      let p = place_from_lookup (nat_eq key) index.entries place found in
      let at : slice_get (keys_of index.entries) p.0 ≡ Some p.1 = slice_get-map (λ e. e.0) index.entries p.0 ∙ ap (option_map (λ e. e.0)) p.2 in
      (p.0, slice_get_within index.entries p.0 (p.1, place) p.2, get_or_from_slice_get (keys_of index.entries) p.0 p.1 0 at ∙ sym (eqb-true key p.1 p.3))

  -- the key at a place
  pub key_at : (index : IndexMap ℕ Place S) (i key : ℕ) (place : Place) → slice_get index.entries i ≡ Some (key, place) → slice_index (keys index) i ≡ key
  key_at index i key place at = get_or_from_slice_get (keys index) i key 0 (slice_get-map (λ e. e.0) index.entries i ∙ ap (option_map (λ e. e.0)) at)

  -- where a place was, if the keys are the same
  pub kept_place : (before after : IndexMap ℕ Place S) (i rel k : ℕ) → slice_index (keys before) i ≡ rel → keys after ≡ keys before → i ≤ k → k < index_map_len after
      → (slice_index (keys after) k ≡ rel) ⊎ ((j : ℕ) × (i + 1 ≤ j) × (j < index_map_len before) × (slice_index (keys after) k ≡ slice_index (keys before) j))
  kept_place before after i rel k key same from within = by (cases_eq k i)
    where
      len : index_map_len after ≡ index_map_len before
      len = sym (length-keys_of after.entries) ∙ ap length same ∙ length-keys_of before.entries

      by : (k ≡ i) ⊎ (k ≢ i) → (slice_index (keys after) k ≡ rel) ⊎ ((j : ℕ) × (i + 1 ≤ j) × (j < index_map_len before) × (slice_index (keys after) k ≡ slice_index (keys before) j))
      by (inl one) = inl (ap (λ n. slice_index (keys after) n) one ∙ ap (λ ks. slice_index ks i) same ∙ key)
      by (inr other) = inr (k, omega (arith, from, other), omega (arith, within, len), ap (λ ks. slice_index ks k) same)

module _ {D S : Type 0} where
  -- what is held of the relations from a place of the index on is as a message leaves it
  abbrev pub AreToldIn : Pool (Kept D) → IndexMap ℕ Place S → ℕ → Type 0
  AreToldIn pool index from = (place : ℕ) → from ≤ place → place < index_map_len index
      → option_and_then told (option_and_then (held_at pool) (get nat_eq index (slice_index (keys index) place))) ≡ option_and_then (held_at pool) (get nat_eq index (slice_index (keys index) place))

  -- after a message for one place, all from there on are told
  pub told_next : (old new : Pool (Kept D)) (before after : IndexMap ℕ Place S) (i rel : ℕ) (o : Option (Held D)) → Leaves old new before after rel (option_and_then told o)
      → ((k : ℕ) → i ≤ k → k < index_map_len after → (slice_index (keys after) k ≡ rel) ⊎ ((j : ℕ) × (i + 1 ≤ j) × (j < index_map_len before) × (slice_index (keys after) k ≡ slice_index (keys before) j)))
      → AreToldIn old before (i + 1) → AreToldIn new after i
  told_next old new before after i rel o leaves was told_before k from within = by (was k from within)
    where
      here : (key : ℕ) → key ≡ rel → option_and_then told (option_and_then (held_at new) (get nat_eq after key)) ≡ option_and_then (held_at new) (get nat_eq after key)
      here key same =
          let at : option_and_then (held_at new) (get nat_eq after key) ≡ option_and_then told o = ap (λ n. option_and_then (held_at new) (get nat_eq after n)) same ∙ leaves.at in
          ap (option_and_then told) at ∙ told_twice o ∙ sym at

      there : (key j : ℕ) → key ≢ rel → i + 1 ≤ j → j < index_map_len before → key ≡ slice_index (keys before) j → option_and_then told (option_and_then (held_at new) (get nat_eq after key)) ≡ option_and_then (held_at new) (get nat_eq after key)
      there key j other past inside is =
          let at : option_and_then (held_at new) (get nat_eq after key) ≡ option_and_then (held_at old) (get nat_eq before (slice_index (keys before) j)) = leaves.others key other ∙ ap (λ n. option_and_then (held_at old) (get nat_eq before n)) is in
          ap (option_and_then told) at ∙ told_before j past inside ∙ sym at

      by : (slice_index (keys after) k ≡ rel) ⊎ ((j : ℕ) × (i + 1 ≤ j) × (j < index_map_len before) × (slice_index (keys after) k ≡ slice_index (keys before) j))
          → option_and_then told (option_and_then (held_at new) (get nat_eq after (slice_index (keys after) k))) ≡ option_and_then (held_at new) (get nat_eq after (slice_index (keys after) k))
      by (inl same) = here (slice_index (keys after) k) same
      by (inr moved) = split (cases_eq (slice_index (keys after) k) rel)
        where
          split : (slice_index (keys after) k ≡ rel) ⊎ (slice_index (keys after) k ≢ rel)
              → option_and_then told (option_and_then (held_at new) (get nat_eq after (slice_index (keys after) k))) ≡ option_and_then (held_at new) (get nat_eq after (slice_index (keys after) k))
          split (inl same) = here (slice_index (keys after) k) same
          split (inr other) = there (slice_index (keys after) k) moved.0 other moved.1 moved.2 moved.3

  -- where all places are told, all relations are
  pub told_all : (pool : Pool (Kept D)) (index : IndexMap ℕ Place S) → AreToldIn pool index 0 → (key : ℕ) → option_and_then told (option_and_then (held_at pool) (get nat_eq index key)) ≡ option_and_then (held_at pool) (get nat_eq index key)
  told_all pool index all key = by (get nat_eq index key) refl
    where
      by : (o : Option Place) → get nat_eq index key ≡ o → option_and_then told (option_and_then (held_at pool) (get nat_eq index key)) ≡ option_and_then (held_at pool) (get nat_eq index key)
      by None none = ap (λ x. option_and_then told (option_and_then (held_at pool) x)) none ∙ sym (ap (option_and_then (held_at pool)) none)
      by (Some place) found =
          let p = key_place index key place found in
          subst (λ n. option_and_then told (option_and_then (held_at pool) (get nat_eq index n)) ≡ option_and_then (held_at pool) (get nat_eq index n)) p.2 (all p.0 (omega arith) p.1)

  -- what a message for one place answers and leaves
  pub record Notes (old new : Pool (Kept D)) (before after : IndexMap ℕ Place S) (i : ℕ) (answer : Need) : Type 0 where
    pub leaves : Leaves old new before after (slice_index (keys before) i) (option_and_then told (option_and_then (held_at old) (get nat_eq before (slice_index (keys before) i))))
    pub answers : answer ≡ need (option_and_then (held_at old) (get nat_eq before (slice_index (keys before) i)))
    pub told : AreToldIn old before (i + 1) → AreToldIn new after i

  module _ (old new : Pool (Kept D)) (before after : IndexMap ℕ Place S) (i rel n : ℕ) (place : Place) where
    -- a descriptor that is pinned
    pub notes_pinned : AreIndexed old before → ArePlaced old before → slice_get before.entries i ≡ Some (rel, place) → get nat_eq before rel ≡ Some place → option_map (λ e. e.pins) (entry_of old place.at) ≡ Some n → 0 < n
        → get nat_eq after rel ≡ option_map (with_mark false) (get nat_eq before rel) → ((k : ℕ) → k ≢ rel → get nat_eq after k ≡ get nat_eq before k) → keys after ≡ keys before → Notes old old before after i (Rebuild place.at)
    notes_pinned indexed placed entry there pins held at rest same =
        let key : slice_index (keys before) i ≡ rel = key_at before i rel place entry in
        let s = stands_at old before rel place indexed there in
        let some : n ≡ s.entry.pins = counted (entry_of old place.at) s.entry n pins s.is in
        let leaves = marking old before after rel place.at indexed placed s (subst (λ m. 0 < m) some held) at rest in
        let test : (s.entry.pins == 0) ≡ false = ne_eqb s.entry.pins 0 (λ none. omega (arith, none, some, held)) in
        let answers : need (option_and_then (held_at old) (get nat_eq before rel)) ≡ Rebuild place.at = ap need (held_there old before rel place s.entry there s.is) ∙ ap (λ t. if t then Nothing else Rebuild place.at) test in
        record {
          leaves = subst (λ k. Leaves old old before after k (option_and_then told (option_and_then (held_at old) (get nat_eq before k)))) (sym key) leaves;
          answers = sym (ap (λ k. need (option_and_then (held_at old) (get nat_eq before k))) key ∙ answers);
          told = told_next old old before after i rel (option_and_then (held_at old) (get nat_eq before rel)) leaves (λ k from within. kept_place before after i rel k key same from within);
        }

    -- a descriptor that nobody pins
    pub notes_free : AreIndexed old before → ArePlaced old before → i < index_map_len before → slice_get before.entries i ≡ Some (rel, place) → get nat_eq before rel ≡ Some place → option_map (λ e. e.pins) (entry_of old place.at) ≡ Some n → n ≡ 0
        → Changes old new place.at (option_and_then marked (entry_of old place.at)) → get nat_eq after rel ≡ None → ((k : ℕ) → k ≢ rel → get nat_eq after k ≡ get nat_eq before k) → after.entries ≡ swap_remove before.entries i (rel, place)
        → Notes old new before after i Nothing
    notes_free indexed placed inside entry there pins free changes at rest swapped =
        let key : slice_index (keys before) i ≡ rel = key_at before i rel place entry in
        let s = stands_at old before rel place indexed there in
        let none : s.entry.pins ≡ 0 = sym (counted (entry_of old place.at) s.entry n pins s.is) ∙ free in
        let leaves = removing old new before after rel place.at indexed placed s none changes at rest in
        let answers : need (option_and_then (held_at old) (get nat_eq before rel)) ≡ Nothing = ap need (held_there old before rel place s.entry there s.is) ∙ ap (λ t. if t then Nothing else Rebuild place.at) (eq-eqb s.entry.pins 0 none) in
        record {
          leaves = subst (λ k. Leaves old new before after k (option_and_then told (option_and_then (held_at old) (get nat_eq before k)))) (sym key) leaves;
          answers = sym (ap (λ k. need (option_and_then (held_at old) (get nat_eq before k))) key ∙ answers);
          told = told_next old new before after i rel (option_and_then (held_at old) (get nat_eq before rel)) leaves (λ k from within.
              let p = before_swap before.entries i (rel, place) k inside from (subst (λ es. k < length es) swapped within) in
              inr (p.0, p.1, p.2, ap (λ es. slice_index (keys_of es) k) swapped ∙ p.3));
        }
