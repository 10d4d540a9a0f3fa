-- The same of whole caches.
use Rattle.std.proofs.Common.{◌≡◌, ◌≢◌, ◌∙◌, ◌⊎◌, inl, inr, ◌<◌, ◌≤◌, ◌&&◌, ◌+◌, ℕ, Bool, true, false, not, nat_lt, Option, Some, None, IsTrue, IsSomeAnd, IfSome, IfNone, slice_index, slice_get, sym, ap, subst, refl, nat_eq, arith}
use Rattle.std.proofs.lemmas.Bool.{cases_eq, and_parts, both_ways}
use Rattle.std.specs.Option.{option_map, option_and_then, option_map_or, ForSome}
use Rattle.indexmap.specs.IndexMap.{get, keys, index_map_len}
use Rattle.base_types.specs.declared.ids.Oid.{Oid}
use Rattle.pin_pool.specs.Pools.{entry_of}
use Rattle.rel_cache.specs.Descriptors.{Held, told}
use Rattle.rel_cache.specs.Caches.{held_at, held_of, ChangesHeld, awaits, AreTold, relation_at}
use Rattle.rel_cache.specs.declared.kept.Place.{Place}
use Rattle.rel_cache.specs.declared.rel_cache.RelCache.{RelCache}
use Rattle.rel_cache.proofs.Agreeing.{Leaves, mapped_from, held_there}
use Rattle.rel_cache.proofs.Messages.{key_place, key_at, told_all, told_twice}

-- a relation by its number
pub by_number : (a b : Oid) → a.0 ≡ b.0 → a ≡ b
by_number a b same = let make : ℕ → Oid = λ n. record { 0 = n } in ap make same

-- what holds of something holds of what is there
pub at_some : {X : Type 0} (P : X → Type 0) (o : Option X) (x : X) → o ≡ Some x → IfSome o P → P x
at_some P o x is holds = subst (λ o. IfSome o P) is holds

module _ {D : Type 0} where
  pub changes : (old new : RelCache D) (rel : Oid) (held : Option (Held D)) → Leaves old.descriptors new.descriptors old.index new.index rel.0 held → ChangesHeld old new rel held
  unfolding held_of
  changes old new rel held leaves = record { at = leaves.at; others = λ other differs. leaves.others other.0 (λ same. differs (by_number other rel same)) }

  -- one more place is told, and what is held is still told alike
  pub told_alike : (old new : RelCache D) (rel : Oid) (was : Oid → Option (Held D)) → ChangesHeld old new rel (option_and_then told (held_of old rel)) → ((r : Oid) → option_and_then told (held_of old r) ≡ option_and_then told (was r))
      → (r : Oid) → option_and_then told (held_of new r) ≡ option_and_then told (was r)
  told_alike old new rel was changed same r = by (cases_eq r.0 rel.0)
    where
      by : (r.0 ≡ rel.0) ⊎ (r.0 ≢ rel.0) → option_and_then told (held_of new r) ≡ option_and_then told (was r)
      by (inl one) =
          let is : r ≡ rel = by_number r rel one in
          ap (λ o. option_and_then told (held_of new o)) is ∙ ap (option_and_then told) changed.at ∙ told_twice (held_of old rel) ∙ ap (λ o. option_and_then told (held_of old o)) (sym is) ∙ same r
      by (inr other) = ap (option_and_then told) (changed.others r (λ is. other (ap (λ (o : Oid). o.0) is))) ∙ same r

  -- where all places are told, what is held is what was, told
  pub told_whole : (cache : RelCache D) (was : Oid → Option (Held D)) → AreTold cache 0 → ((r : Oid) → option_and_then told (held_of cache r) ≡ option_and_then told (was r)) → (r : Oid) → held_of cache r ≡ option_and_then told (was r)
  unfolding held_of
  told_whole cache was all same r = sym (told_all cache.descriptors cache.index all r.0) ∙ same r

  -- a relation that awaits a build has its place
  waiting_place : (cache : RelCache D) (above : Option Oid) (rel : Oid) → IsTrue (awaits cache above rel) → (k : ℕ) × (k < index_map_len cache.index) × (relation_at cache k ≡ rel)
  unfolding held_of
  waiting_place cache above rel is = by (get nat_eq cache.index rel.0) refl
    where
      by : (o : Option Place) → get nat_eq cache.index rel.0 ≡ o → (k : ℕ) × (k < index_map_len cache.index) × (relation_at cache k ≡ rel)
      by None none =
          let parts = and_parts (option_map_or (λ other. nat_lt other.0 rel.0) above true) (option_map_or (λ h. not h.valid && nat_lt 0 h.pins) (held_of cache rel) false) is in
          let never : option_map_or (λ h. not h.valid && nat_lt 0 h.pins) (held_of cache rel) false ≡ false = ap (λ o. option_map_or (λ h. not h.valid && nat_lt 0 h.pins) (option_and_then (held_at cache.descriptors) o) false) none in
          absurd (both_ways (option_map_or (λ h. not h.valid && nat_lt 0 h.pins) (held_of cache rel) false) never parts.1)
      by (Some place) found = let p = key_place cache.index rel.0 place found in (p.0, p.1, by_number (relation_at cache p.0) rel p.2)

  -- the least of all places is the least of all relations
  pub least_all : (cache : RelCache D) (above least : Option Oid) → ((k : ℕ) → k < index_map_len cache.index → IsTrue (awaits cache above (relation_at cache k)) → IsSomeAnd least (λ rel. rel.0 ≤ slice_index (keys cache.index) k))
      → (other : Oid) → IsTrue (awaits cache above other) → IsSomeAnd least (λ rel. rel.0 ≤ other.0)
  least_all cache above least each other is =
      let p = waiting_place cache above other is in
      subst (λ (o : Oid). IsSomeAnd least (λ rel. rel.0 ≤ o.0)) p.2 (each p.0 p.1 (subst (λ o. IsTrue (awaits cache above o)) (sym p.2) is))

  pub is_least : (cache : RelCache D) (above least : Option Oid) → ((other : Oid) → IsTrue (awaits cache above other) → IsSomeAnd least (λ rel. rel.0 ≤ other.0)) → IfSome least (λ rel. (other : Oid) → IsTrue (awaits cache above other) → rel.0 ≤ other.0)
  is_least cache above None all = tt
  is_least cache above (Some rel) all = all

  pub is_none : (cache : RelCache D) (above least : Option Oid) → ((other : Oid) → IsTrue (awaits cache above other) → IsSomeAnd least (λ rel. rel.0 ≤ other.0)) → IfNone least ((rel : Oid) → awaits cache above rel ≡ false)
  is_none cache above None all = λ rel. by rel (awaits cache above rel) refl
    where
      by : (rel : Oid) (t : Bool) → awaits cache above rel ≡ t → awaits cache above rel ≡ false
      by rel true is = absurd (all rel is)
      by rel false is = is
  is_none cache above (Some rel) all = tt

  -- of the relations at the first places that await a build, this is the least
  pub record IsLeast (cache : RelCache D) (above found : Option Oid) (n : ℕ) : Type 0 where
    pub waits : IfSome found (λ rel. IsTrue (awaits cache above rel))
    pub least : (k : ℕ) → k < n → IsTrue (awaits cache above (relation_at cache k)) → IsSomeAnd found (λ rel. rel.0 ≤ slice_index (keys cache.index) k)

  pub none_least : (cache : RelCache D) (above : Option Oid) → IsLeast cache above None 0
  none_least cache above = record { waits = tt; least = λ k within is. absurd (omega (arith, within)) }

  -- the next place has a relation that awaits a build
  pub next_waits : (cache : RelCache D) (above found : Option Oid) (n : ℕ) (rel next : Oid) → IsLeast cache above found n → IsTrue (awaits cache above (relation_at cache n)) → rel ≡ relation_at cache n → (next ≡ rel) ⊎ (found ≡ Some next)
      → next.0 ≤ rel.0 → ForSome found (λ o. next.0 ≤ o.0) → IsLeast cache above (Some next) (n + 1)
  next_waits cache above found n rel next before is here one least less = record { waits = waits one; least = λ k within there. by k there (cases_eq k n) within }
    where
      waits : (next ≡ rel) ⊎ (found ≡ Some next) → IsTrue (awaits cache above next)
      waits (inl same) = subst (λ o. IsTrue (awaits cache above o)) (sym (same ∙ here)) is
      waits (inr same) = at_some (λ rel. IsTrue (awaits cache above rel)) found next same before.waits

      lesser : (o : Option Oid) (m : ℕ) → ForSome o (λ x. next.0 ≤ x.0) → IsSomeAnd o (λ x. x.0 ≤ m) → next.0 ≤ m
      lesser None m all some = absurd some
      lesser (Some x) m all some = omega (arith, all x refl, some)

      by : (k : ℕ) → IsTrue (awaits cache above (relation_at cache k)) → (k ≡ n) ⊎ (k ≢ n) → k < n + 1 → next.0 ≤ slice_index (keys cache.index) k
      by k there (inl same) within = subst (λ m. next.0 ≤ slice_index (keys cache.index) m) (sym same) (subst (λ (o : Oid). next.0 ≤ o.0) here least)
      by k there (inr other) within = lesser found (slice_index (keys cache.index) k) less (before.least k (omega (arith, within, other)) there)

  -- or it has not
  pub next_passes : (cache : RelCache D) (above found : Option Oid) (n : ℕ) → IsLeast cache above found n → awaits cache above (relation_at cache n) ≡ false → IsLeast cache above found (n + 1)
  next_passes cache above found n before is = record { waits = before.waits; least = λ k within there. by k there (cases_eq k n) within }
    where
      by : (k : ℕ) → IsTrue (awaits cache above (relation_at cache k)) → (k ≡ n) ⊎ (k ≢ n) → k < n + 1 → IsSomeAnd found (λ rel. rel.0 ≤ slice_index (keys cache.index) k)
      by k there (inl same) within = absurd (both_ways (awaits cache above (relation_at cache k)) (ap (λ m. awaits cache above (relation_at cache m)) same ∙ is) there)
      by k there (inr other) within = before.least k (omega (arith, within, other)) there

  -- whether the relation at a place awaits a build
  pub awaits_there : (cache : RelCache D) (above : Option Oid) (i rel n : ℕ) (place : Place) → slice_get cache.index.entries i ≡ Some (rel, place) → get nat_eq cache.index rel ≡ Some place → option_map (λ e. e.pins) (entry_of cache.descriptors place.at) ≡ Some n
      → awaits cache above (relation_at cache i) ≡ (option_map_or (λ other. nat_lt other.0 rel) above true && (not place.valid && nat_lt 0 n))
  unfolding held_of
  awaits_there cache above i rel n place at found pins =
      let e = mapped_from (λ e. e.pins) (entry_of cache.descriptors place.at) n pins in
      let held = held_there cache.descriptors cache.index rel place e.0 found e.1 in
      ap (λ k. awaits cache above (record { 0 = k })) (key_at cache.index i rel place at)
      ∙ ap (λ o. option_map_or (λ other. nat_lt other.0 rel) above true && option_map_or (λ h. not h.valid && nat_lt 0 h.pins) o false) held
      ∙ ap (λ m. option_map_or (λ other. nat_lt other.0 rel) above true && (not place.valid && nat_lt 0 m)) e.2
