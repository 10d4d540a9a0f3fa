-- What each call leaves in the index and in the pool.
use Rattle.std.proofs.Common.{◌≡◌, ◌≢◌, ◌∙◌, ◌<◌, ◌-◌, ◌==◌, ◌&&◌, ℕ, true, false, Option, Some, None, sym, ap, subst, refl, nat_eq, if◌then◌else◌, arith}
use Rattle.std.proofs.lemmas.Bool.{ne_eqb, eq-eqb}
use Rattle.std.specs.Option.{option_map, option_and_then}
use Rattle.indexmap.specs.IndexMap.{IndexMap, get}
use Rattle.pin_pool.specs.Entries.{Entry, new_entry, pinned, unpinned, with_value, marked}
use Rattle.pin_pool.specs.Pools.{entry_of, Changes}
use Rattle.pin_pool.specs.declared.pool.Pool.{Pool}
use Rattle.pin_pool.specs.declared.reference.Ref.{Ref}
use Rattle.rel_cache.specs.Descriptors.{Held, opened_once, closed_once, renewed, told, new_held}
use Rattle.rel_cache.specs.Named.{whose, AreIndexed, ArePlaced, with_mark}
use Rattle.rel_cache.specs.Caches.{held_at}
use Rattle.rel_cache.specs.declared.kept.Kept.{Kept}
use Rattle.rel_cache.specs.declared.kept.Place.{Place}
use Rattle.rel_cache.proofs.Agreeing.{Stands, stands_at, stood, held_there, Leaves, leaves_one, leaves_none}

-- something is not nothing
some_none : {X : Type 0} (x : X) → Some x ≡ None → ⊥
some_none x is = absurd (cc)

module _ {D S : Type 0} where
  -- what stands under a reference is held
  pub held_under : (pool : Pool (Kept D)) (index : IndexMap ℕ Place S) (rel : ℕ) (r : Ref) (s : Stands pool index rel r)
      → option_and_then (held_at pool) (get nat_eq index rel) ≡ Some (record { at = r; value = s.entry.value.value; pins = s.entry.pins; valid = s.place.valid })
  held_under pool index rel r s =
      held_there pool index rel s.place s.entry s.there (ap (entry_of pool) s.at ∙ s.is) ∙ ap (λ a. Some (record { at = a; value = s.entry.value.value; pins = s.entry.pins; valid = s.place.valid })) s.at

  -- nothing stands under a reference that names nothing
  pub unnamed_under : (pool : Pool (Kept D)) (index : IndexMap ℕ Place S) (rel : ℕ) (r : Ref) → Stands pool index rel r → entry_of pool r ≡ None → ⊥
  unnamed_under pool index rel r s unnamed = some_none s.entry (sym s.is ∙ unnamed)

  -- what stands under a reference is of one relation
  pub one_relation : (pool : Pool (Kept D)) (index : IndexMap ℕ Place S) (rel other : ℕ) (r : Ref) → Stands pool index rel r → Stands pool index other r → other ≡ rel
  one_relation pool index rel other r s t =
      let same : Some t.entry ≡ Some s.entry = sym t.is ∙ s.is in
      let entries : t.entry ≡ s.entry = cc in
      ap (λ p. p.0) (sym t.own ∙ ap whose entries ∙ s.own)

  -- the relation has a place then
  pub not_there : (pool : Pool (Kept D)) (index : IndexMap ℕ Place S) (rel : ℕ) (r : Ref) → Stands pool index rel r → get nat_eq index rel ≡ None → ⊥
  not_there pool index rel r s none = some_none s.place (sym s.there ∙ none)

  -- its mark is the one at the relation's place
  pub mark_under : (pool : Pool (Kept D)) (index : IndexMap ℕ Place S) (rel : ℕ) (r : Ref) (place : Place) → Stands pool index rel r → get nat_eq index rel ≡ Some place → option_map (λ h. h.valid) (option_and_then (held_at pool) (get nat_eq index rel)) ≡ Some place.valid
  mark_under pool index rel r place s found =
      let same : Some s.place ≡ Some place = sym s.there ∙ found in
      let places : s.place ≡ place = cc in
      ap (option_map (λ (h : Held D). h.valid)) (held_under pool index rel r s) ∙ ap (λ p. Some p.valid) places

  -- the value under a reference is the relation's
  pub own_relation : (pool : Pool (Kept D)) (index : IndexMap ℕ Place S) (rel : ℕ) (r : Ref) (v : Kept D) → Stands pool index rel r → option_map (λ e. e.value) (entry_of pool r) ≡ Some v → v.rel.0 ≡ rel
  own_relation pool index rel r v s is =
      let one : Some v ≡ Some s.entry.value = sym is ∙ ap (option_map (λ e. e.value)) s.is in
      let same : v ≡ s.entry.value = cc in
      ap (λ (k : Kept D). k.rel.0) same ∙ ap (λ p. p.0) s.own

  module _ (old new : Pool (Kept D)) (before after : IndexMap ℕ Place S) (rel : ℕ) (r : Ref) where
    -- the same, by another name of what is held
    leaves_as : (a b : Option (Held D)) → a ≡ b → Leaves old new before after rel a → Leaves old new before after rel b
    leaves_as a b is l = record { indexed = l.indexed; placed = l.placed; at = l.at ∙ is; others = l.others }

    pub opening : AreIndexed old before → ArePlaced old before → Stands old before rel r → Changes old new r (option_map pinned (entry_of old r)) → after ≡ before
        → Leaves old new before after rel (option_map opened_once (option_and_then (held_at old) (get nat_eq before rel)))
    opening indexed placed s changes same =
        leaves_as _ _ (sym (ap (option_map opened_once) (held_under old before rel r s)))
        (leaves_one old new before after rel r indexed placed (stood old before rel r s) (pinned s.entry) s.place s.own s.at (subst (Changes old new r) (ap (option_map pinned) s.is) changes) (ap (λ m. get nat_eq m rel) same ∙ s.there) (λ k other. ap (λ m. get nat_eq m k) same))

    -- an entry that isn't dead stays as a pin goes
    unpinned_live : (e : Entry (Kept D)) → e.dead ≡ false → unpinned e ≡ Some (record e { pins = e.pins - 1 })
    unpinned_live e live = ap (λ d. if d && (e.pins == 1) then None else Some (record e { pins = e.pins - 1 })) live

    pub closing : AreIndexed old before → ArePlaced old before → Stands old before rel r → Changes old new r (option_and_then unpinned (entry_of old r)) → after ≡ before
        → Leaves old new before after rel (option_map closed_once (option_and_then (held_at old) (get nat_eq before rel)))
    closing indexed placed s changes same =
        leaves_as _ _ (sym (ap (option_map closed_once) (held_under old before rel r s)))
        (leaves_one old new before after rel r indexed placed (stood old before rel r s) (record s.entry { pins = s.entry.pins - 1 }) s.place s.own s.at
        (subst (Changes old new r) (ap (option_and_then unpinned) s.is ∙ unpinned_live s.entry (ap (λ p. p.1) s.own)) changes) (ap (λ m. get nat_eq m rel) same ∙ s.there) (λ k other. ap (λ m. get nat_eq m k) same))

    pub renewing : (v : Kept D) → v.rel.0 ≡ rel → AreIndexed old before → ArePlaced old before → Stands old before rel r → Changes old new r (option_map (with_value v) (entry_of old r))
        → get nat_eq after rel ≡ option_map (with_mark true) (get nat_eq before rel) → ((k : ℕ) → k ≢ rel → get nat_eq after k ≡ get nat_eq before k)
        → Leaves old new before after rel (option_map (renewed v.value) (option_and_then (held_at old) (get nat_eq before rel)))
    renewing v own indexed placed s changes there rest =
        leaves_as _ _ (sym (ap (option_map (renewed v.value)) (held_under old before rel r s)))
        (leaves_one old new before after rel r indexed placed (stood old before rel r s) (with_value v s.entry) (with_mark true s.place) (ap (λ k. (k, s.entry.dead)) own ∙ ap (λ d. (rel, d)) (ap (λ p. p.1) s.own)) s.at
        (subst (Changes old new r) (ap (option_map (with_value v)) s.is) changes) (there ∙ ap (option_map (with_mark true)) s.there) rest)

    pub adding : (v : Kept D) → v.rel.0 ≡ rel → AreIndexed old before → ArePlaced old before → option_and_then (held_at old) (get nat_eq before rel) ≡ None → entry_of old r ≡ None → Changes old new r (Some (new_entry v))
        → get nat_eq after rel ≡ Some (record { at = r; valid = true }) → ((k : ℕ) → k ≢ rel → get nat_eq after k ≡ get nat_eq before k) → Leaves old new before after rel (Some (new_held r v.value))
    adding v own indexed placed none unnamed changes there rest =
        leaves_one old new before after rel r indexed placed (by (get nat_eq before rel) refl) (new_entry v) (record { at = r; valid = true }) (ap (λ k. (k, false)) own) refl changes there rest
      where
        by : (o : Option Place) → get nat_eq before rel ≡ o → option_map (λ place. place.at) (get nat_eq before rel) ≡ option_map (λ _. r) (entry_of old r)
        by None is = ap (option_map (λ p. p.at)) is ∙ sym (ap (option_map (λ _. r)) unnamed)
        by (Some place) is = let s = stands_at old before rel place indexed is in absurd (some_none _ (sym (held_under old before rel place.at s) ∙ none))

    -- a message leaves nothing of what has no pin
    pub removing : AreIndexed old before → ArePlaced old before → (s : Stands old before rel r) → s.entry.pins ≡ 0 → Changes old new r (option_and_then marked (entry_of old r)) → get nat_eq after rel ≡ None
        → ((k : ℕ) → k ≢ rel → get nat_eq after k ≡ get nat_eq before k) → Leaves old new before after rel (option_and_then told (option_and_then (held_at old) (get nat_eq before rel)))
    removing indexed placed s free changes gone rest =
        let test : (s.entry.pins == 0) ≡ true = eq-eqb s.entry.pins 0 free in
        let none : option_and_then told (option_and_then (held_at old) (get nat_eq before rel)) ≡ None = ap (option_and_then told) (held_under old before rel r s) ∙ ap (λ t. if t then None else Some (record { at = r; value = s.entry.value.value; pins = s.entry.pins; valid = false })) test in
        leaves_as _ _ (sym none)
        (leaves_none old new before after rel r indexed placed s (subst (Changes old new r) (ap (option_and_then marked) s.is ∙ ap (λ t. if t then None else Some (record s.entry { dead = true })) test) changes) gone rest)

  -- and marks what has one
  pub marking : (pool : Pool (Kept D)) (before after : IndexMap ℕ Place S) (rel : ℕ) (r : Ref) → AreIndexed pool before → ArePlaced pool before → (s : Stands pool before rel r) → 0 < s.entry.pins
      → get nat_eq after rel ≡ option_map (with_mark false) (get nat_eq before rel) → ((k : ℕ) → k ≢ rel → get nat_eq after k ≡ get nat_eq before k)
      → Leaves pool pool before after rel (option_and_then told (option_and_then (held_at pool) (get nat_eq before rel)))
  marking pool before after rel r indexed placed s held there rest =
      let test : (s.entry.pins == 0) ≡ false = ne_eqb s.entry.pins 0 (λ none. omega (arith, none, held)) in
      let some : option_and_then told (option_and_then (held_at pool) (get nat_eq before rel)) ≡ Some (record { at = r; value = s.entry.value.value; pins = s.entry.pins; valid = false }) =
      ap (option_and_then told) (held_under pool before rel r s) ∙ ap (λ t. if t then None else Some (record { at = r; value = s.entry.value.value; pins = s.entry.pins; valid = false })) test in
      let same : Changes pool pool r (Some s.entry) = record { at = s.is; went = λ none. absurd (some_none _ none); others = λ other differs. refl; gone = λ other gone. gone; no_more = λ other differs gone. gone } in
      leaves_as pool pool before after rel r _ _ (sym some) (leaves_one pool pool before after rel r indexed placed (stood pool before rel r s) s.entry (with_mark false s.place) s.own s.at same (there ∙ ap (option_map (with_mark false)) s.there) rest)
