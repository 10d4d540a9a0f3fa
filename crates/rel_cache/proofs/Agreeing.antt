-- The index and the pool after a change of one relation's descriptor.
use Rattle.std.proofs.Common.{◌≡◌, ◌≢◌, ◌∙◌, ◌⊎◌, inl, inr, ◌==◌, ℕ, Bool, true, false, Option, Some, None, [], sym, ap, refl, nat_eq, unwrap_or}
use Rattle.std.proofs.lemmas.Bool.{eqb-true, eqb-false}
use Rattle.std.specs.Option.{option_map, option_and_then}
use Rattle.std.specs.Map.{lookup}
use Rattle.indexmap.specs.IndexMap.{IndexMap, get}
use Rattle.pin_pool.specs.Entries.{Entry}
use Rattle.pin_pool.specs.Pools.{entry_of, Changes}
use Rattle.pin_pool.specs.declared.pool.Pool.{Pool}
use Rattle.pin_pool.specs.declared.reference.Ref.{Ref}
use Rattle.pin_pool.proofs.Refs.{same_or_other}
use Rattle.rel_cache.specs.Descriptors.{Held}
use Rattle.rel_cache.specs.Named.{whose, named, AreIndexed, ArePlaced}
use Rattle.rel_cache.specs.Caches.{held_at}
use Rattle.rel_cache.specs.declared.kept.Kept.{Kept}
use Rattle.rel_cache.specs.declared.kept.Place.{Place}

-- what is mapped to something is something
pub mapped_from : {X Y : Type 0} (f : X → Y) (o : Option X) (y : Y) → option_map f o ≡ Some y → (x : X) × (o ≡ Some x) × (f x ≡ y)
mapped_from f None y is = absurd (cc)
mapped_from f (Some x) y is = (x, refl, cc)

-- two names of one reference are of one relation
first_of : (o : Option (ℕ × Bool)) (a b : ℕ) (s t : Bool) → o ≡ Some (a, s) → o ≡ Some (b, t) → a ≡ b
first_of o a b s t is also = let relation : Option (ℕ × Bool) → ℕ = λ x. (unwrap_or x (a, s)).0 in ap relation (sym is ∙ also)

module _ {D S : Type 0} where
  -- the relation's descriptor is under the reference
  pub record Stands (pool : Pool (Kept D)) (index : IndexMap ℕ Place S) (rel : ℕ) (r : Ref) : Type 0 where
    pub place : Place
    pub there : get nat_eq index rel ≡ Some place
    pub at : place.at ≡ r
    pub entry : Entry (Kept D)
    pub is : entry_of pool r ≡ Some entry
    pub own : whose entry ≡ (rel, false)

  pub stands_at : (pool : Pool (Kept D)) (index : IndexMap ℕ Place S) (rel : ℕ) (place : Place) → AreIndexed pool index → get nat_eq index rel ≡ Some place → Stands pool index rel place.at
  stands_at pool index rel place indexed found =
      let e = mapped_from whose (entry_of pool place.at) (rel, false) (indexed rel place found) in
      record { place = place; there = found; at = refl; entry = e.0; is = e.1; own = e.2 }

  -- the entry under one reference is this one now, and the relation's place is there or gone with it
  pub record Moves (old new : Pool (Kept D)) (before after : IndexMap ℕ Place S) (rel : ℕ) (r : Ref) (entry : Option (Entry (Kept D))) : Type 0 where
    pub changes : Changes old new r entry
    pub rest : (k : ℕ) → k ≢ rel → get nat_eq after k ≡ get nat_eq before k
    pub was : option_map (λ place. place.at) (get nat_eq before rel) ≡ option_map (λ _. r) (entry_of old r)
    pub now : option_map (λ place. place.at) (get nat_eq after rel) ≡ option_map (λ _. r) entry
    pub own : option_map whose entry ≡ option_map (λ _. (rel, false)) entry

  -- the place of a relation has an entry of the relation
  pub named_there : (pool : Pool (Kept D)) (index : IndexMap ℕ Place S) (k : ℕ) (r : Ref) → AreIndexed pool index → option_map (λ place. place.at) (get nat_eq index k) ≡ Some r → named pool r ≡ Some (k, false)
  named_there pool index k r indexed there =
      let p = mapped_from (λ place. place.at) (get nat_eq index k) r there in
      ap (named pool) (sym p.2) ∙ indexed k p.0 p.1

  module _ (old new : Pool (Kept D)) (before after : IndexMap ℕ Place S) (rel : ℕ) (r : Ref) (entry : Option (Entry (Kept D))) where
    -- another relation's descriptor is under another reference
    apart : Moves old new before after rel r entry → AreIndexed old before → (k : ℕ) (place : Place) → k ≢ rel → get nat_eq before k ≡ Some place → place.at ≢ r
    apart moves indexed k place other there same =
        let here : named old r ≡ Some (k, false) = ap (named old) (sym same) ∙ indexed k place there in
        let e = mapped_from whose (entry_of old r) (k, false) here in
        let own : named old r ≡ Some (rel, false) = named_there old before rel r indexed (moves.was ∙ ap (option_map (λ _. r)) e.1) in
        other (first_of (named old r) k rel false false here own)

    pub indexed_after : Moves old new before after rel r entry → AreIndexed old before → AreIndexed new after
    indexed_after moves indexed k place there = by (k == rel) refl
      where
        by : (t : Bool) → (k == rel) ≡ t → named new place.at ≡ Some (k, false)
        by true same =
            let one : k ≡ rel = eqb-true k rel same in
            let at : option_map (λ _. r) entry ≡ Some place.at = sym moves.now ∙ ap (λ n. option_map (λ p. p.at) (get nat_eq after n)) (sym one) ∙ ap (option_map (λ p. p.at)) there in
            let e = mapped_from (λ _. r) entry place.at at in
            ap (named new) (sym e.2) ∙ ap (option_map whose) moves.changes.at ∙ moves.own ∙ ap (option_map (λ _. (rel, false))) e.1 ∙ ap (λ n. Some (n, false)) (sym one)
        by false differs =
            let other : k ≢ rel = eqb-false k rel differs in
            let was : get nat_eq before k ≡ Some place = sym (moves.rest k other) ∙ there in
            ap (option_map whose) (moves.changes.others place.at (apart moves indexed k place other was)) ∙ indexed k place was

    pub placed_after : Moves old new before after rel r entry → ArePlaced old before → ArePlaced new after
    placed_after moves placed s k dead is = by (same_or_other s r)
      where
        by : (s ≡ r) ⊎ (s ≢ r) → option_map (λ place. place.at) (get nat_eq after k) ≡ Some s
        by (inl same) =
            let here : option_map whose entry ≡ Some (k, dead) = ap (option_map whose) (sym moves.changes.at) ∙ ap (named new) (sym same) ∙ is in
            let e = mapped_from whose entry (k, dead) here in
            let one : k ≡ rel = first_of (option_map whose entry) k rel dead false here (moves.own ∙ ap (option_map (λ _. (rel, false))) e.1) in
            ap (λ n. option_map (λ p. p.at) (get nat_eq after n)) one ∙ moves.now ∙ ap (option_map (λ _. r)) e.1 ∙ ap Some (sym same)
        by (inr other) =
            let was : option_map (λ place. place.at) (get nat_eq before k) ≡ Some s = placed s k dead (ap (option_map whose) (sym (moves.changes.others s other)) ∙ is) in
            let differs : k ≢ rel = λ one.
            let at : option_map (λ _. r) (entry_of old r) ≡ Some s = sym moves.was ∙ ap (λ n. option_map (λ p. p.at) (get nat_eq before n)) (sym one) ∙ was in
            other (sym (mapped_from (λ _. r) (entry_of old r) s at).2) in
            ap (option_map (λ p. p.at)) (moves.rest k differs) ∙ was

    -- what is held of another relation stays
    pub held_others : Moves old new before after rel r entry → AreIndexed old before → (k : ℕ) → k ≢ rel → option_and_then (held_at new) (get nat_eq after k) ≡ option_and_then (held_at old) (get nat_eq before k)
    held_others moves indexed k other = ap (option_and_then (held_at new)) (moves.rest k other) ∙ by (get nat_eq before k) refl
      where
        by : (o : Option Place) → get nat_eq before k ≡ o → option_and_then (held_at new) o ≡ option_and_then (held_at old) o
        by None none = refl
        by (Some place) there =
            ap (option_map (λ e. record { at = place.at; value = e.value.value; pins = e.pins; valid = place.valid })) (moves.changes.others place.at (apart moves indexed k place other there))

  -- what is held of a relation, by its place and entry
  pub held_there : (pool : Pool (Kept D)) (index : IndexMap ℕ Place S) (rel : ℕ) (place : Place) (e : Entry (Kept D)) → get nat_eq index rel ≡ Some place → entry_of pool place.at ≡ Some e
      → option_and_then (held_at pool) (get nat_eq index rel) ≡ Some (record { at = place.at; value = e.value.value; pins = e.pins; valid = place.valid })
  held_there pool index rel place e there is =
      ap (option_and_then (held_at pool)) there ∙ ap (option_map (λ e. record { at = place.at; value = e.value.value; pins = e.pins; valid = place.valid })) is

  -- a descriptor that is held under a reference stands there
  pub stands : (pool : Pool (Kept D)) (index : IndexMap ℕ Place S) (rel : ℕ) (r : Ref) → AreIndexed pool index → option_map (λ h. h.at) (option_and_then (held_at pool) (get nat_eq index rel)) ≡ Some r → Stands pool index rel r
  stands pool index rel r indexed under = by (get nat_eq index rel) refl
    where
      by : (o : Option Place) → get nat_eq index rel ≡ o → Stands pool index rel r
      by None none = let never : None ≡ Some r = ap (λ o. option_map (λ h. h.at) (option_and_then (held_at pool) o)) (sym none) ∙ under in absurd (cc)
      by (Some place) found =
          let s = stands_at pool index rel place indexed found in
          let same : Some place.at ≡ Some r = ap (option_map (λ h. h.at)) (sym (held_there pool index rel place s.entry found s.is)) ∙ under in
          let one : place.at ≡ r = cc in
          record { place = place; there = found; at = one; entry = s.entry; is = ap (entry_of pool) (sym one) ∙ s.is; own = s.own }

  -- a place and an entry that agree before
  pub stood : (pool : Pool (Kept D)) (index : IndexMap ℕ Place S) (rel : ℕ) (r : Ref) → Stands pool index rel r → option_map (λ place. place.at) (get nat_eq index rel) ≡ option_map (λ _. r) (entry_of pool r)
  stood pool index rel r s = ap (option_map (λ p. p.at)) s.there ∙ ap Some s.at ∙ sym (ap (option_map (λ _. r)) s.is)

  -- what a call leaves of one relation, and of the others
  pub record Leaves (old new : Pool (Kept D)) (before after : IndexMap ℕ Place S) (rel : ℕ) (held : Option (Held D)) : Type 0 where
    pub indexed : AreIndexed new after
    pub placed : ArePlaced new after
    pub at : option_and_then (held_at new) (get nat_eq after rel) ≡ held
    pub others : (k : ℕ) → k ≢ rel → option_and_then (held_at new) (get nat_eq after k) ≡ option_and_then (held_at old) (get nat_eq before k)

  module _ (old new : Pool (Kept D)) (before after : IndexMap ℕ Place S) (rel : ℕ) (r : Ref) where
    -- an entry of the relation is left at its place
    pub leaves_one : AreIndexed old before → ArePlaced old before → option_map (λ place. place.at) (get nat_eq before rel) ≡ option_map (λ _. r) (entry_of old r)
        → (e : Entry (Kept D)) (place : Place) → whose e ≡ (rel, false) → place.at ≡ r → Changes old new r (Some e) → get nat_eq after rel ≡ Some place → ((k : ℕ) → k ≢ rel → get nat_eq after k ≡ get nat_eq before k)
        → Leaves old new before after rel (Some (record { at = r; value = e.value.value; pins = e.pins; valid = place.valid }))
    leaves_one indexed placed was e place own at changes there rest =
        let moves : Moves old new before after rel r (Some e) = record { changes = changes; rest = rest; was = was; now = ap (option_map (λ p. p.at)) there ∙ ap Some at; own = ap Some own } in
        record {
          indexed = indexed_after old new before after rel r (Some e) moves indexed;
          placed = placed_after old new before after rel r (Some e) moves placed;
          at = held_there new after rel place e there (ap (entry_of new) at ∙ changes.at) ∙ ap (λ a. Some (record { at = a; value = e.value.value; pins = e.pins; valid = place.valid })) at;
          others = held_others old new before after rel r (Some e) moves indexed;
        }

    -- nothing is left of it
    pub leaves_none : AreIndexed old before → ArePlaced old before → Stands old before rel r → Changes old new r None → get nat_eq after rel ≡ None → ((k : ℕ) → k ≢ rel → get nat_eq after k ≡ get nat_eq before k)
        → Leaves old new before after rel None
    leaves_none indexed placed stands changes gone rest =
        let moves : Moves old new before after rel r None = record { changes = changes; rest = rest; was = stood old before rel r stands; now = ap (option_map (λ p. p.at)) gone; own = refl } in
        record {
          indexed = indexed_after old new before after rel r None moves indexed;
          placed = placed_after old new before after rel r None moves placed;
          at = ap (option_and_then (held_at new)) gone;
          others = held_others old new before after rel r None moves indexed;
        }

module _ {D S : Type 0} where
  -- an empty index has no place that would want an entry
  pub none_indexed : (pool : Pool (Kept D)) (index : IndexMap ℕ Place S) → index.entries ≡ [] → AreIndexed pool index
  none_indexed pool index empty rel place is = let never : None ≡ Some place = sym (ap (lookup (nat_eq rel)) empty) ∙ is in absurd (cc)

  -- nor an empty pool an entry that would want a place
  pub none_placed : (pool : Pool (Kept D)) (index : IndexMap ℕ Place S) → ((r : Ref) → entry_of pool r ≡ None) → ArePlaced pool index
  none_placed pool index empty r rel dead is = absurd (by (entry_of pool r) (empty r) is)
    where
      by : (o : Option (Entry (Kept D))) → o ≡ None → option_map whose o ≡ Some (rel, dead) → ⊥
      by None none some = absurd (cc)
      by (Some e) some is = absurd (cc)
