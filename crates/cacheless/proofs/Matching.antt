-- Items of a write are compared one after another with what a draft says.
use Rattle.std.proofs.Common.{◌≡◌, ◌≤◌, ◌<◌, ◌+◌, ◌∙◌, ◌&&◌, ◌||◌, ℕ, Bool, true, false, List, [], ◌∷◌, refl, sym, ap, length, take, drop, map, get_or, suc, arith}
use Rattle.std.specs.List.{list_any, flat_map}
use Rattle.std.proofs.lemmas.List.{drop_more, drop_all}
use Rattle.std.proofs.lemmas.List.Folds.{list_any-append}
use Rattle.base_types.specs.declared.change.Change.{Change}
use Rattle.event_kinds.specs.declared.entry.Item.TheVariants as items
use Rattle.ddl_effect.specs.Drawing.{drawn_change}
use Rattle.history_model.specs.Changes.{item_of, items_of}
use Rattle.cacheless.specs.Types.{Oid, Item}
use Rattle.cacheless.specs.SameItems.{same_item, same_items, changes_match, forced_match}

-- from a place on
pub changes_at : (next new_oids : ℕ) (given : List Item) (changes : List Change) (i : ℕ) (item : Item) (change : Change) → i < length given → i < length changes → item ≡ get_or given i item → change ≡ get_or changes i change
    → changes_match next new_oids (drop i given) (drop i changes) ≡ (same_item item (item_of (drawn_change next new_oids change)) && changes_match next new_oids (drop (i + 1) given) (drop (i + 1) changes))
changes_at next new_oids given changes i item change within among is at =
    (λ j. changes_match next new_oids (drop_more given i item within j) (drop_more changes i change among j))
    ∙ (λ j. same_item (sym is j) (item_of (drawn_change next new_oids (sym at j))) && changes_match next new_oids (drop (i + 1) given) (drop (i + 1) changes))

pub changes_end : (next new_oids : ℕ) (given : List Item) (changes : List Change) (i : ℕ) → length given ≤ i → length changes ≤ i → changes_match next new_oids (drop i given) (drop i changes) ≡ true
changes_end next new_oids given changes i past over = λ j. changes_match next new_oids (drop_all i given past j) (drop_all i changes over j)

pub forced_at : (given : List Item) (forced : List Oid) (i : ℕ) (item : Item) (d : Oid) → i < length given → i < length forced → item ≡ get_or given i item
    → forced_match (drop i given) (drop i forced) ≡ (same_item item (items.Force (get_or forced i d)) && forced_match (drop (i + 1) given) (drop (i + 1) forced))
forced_at given forced i item d within among is =
    (λ j. forced_match (drop_more given i item within j) (drop_more forced i d among j))
    ∙ (λ j. same_item (sym is j) (items.Force (get_or forced i d)) && forced_match (drop (i + 1) given) (drop (i + 1) forced))

pub forced_end : (given : List Item) (forced : List Oid) (i : ℕ) → length given ≤ i → length forced ≤ i → forced_match (drop i given) (drop i forced) ≡ true
forced_end given forced i past over = λ j. forced_match (drop_all i given past j) (drop_all i forced over j)

-- as many items are wanted
pub forced_long : (given : List Item) (forced : List Oid) → (length given ≡ length forced → ⊥) → forced_match given forced ≡ false
forced_long [] [] other = absurd (other refl)
forced_long [] (rel ∷ forced) other = refl
forced_long (item ∷ given) [] other = refl
forced_long (item ∷ given) (rel ∷ forced) other = ap (λ t. same_item item (items.Force rel) && t) (forced_long given forced (λ is. other (ap suc is))) ∙ none (same_item item (items.Force rel))
  where
    none : (t : Bool) → (t && false) ≡ false
    none true = refl
    none false = refl

-- these are the items of changes and of relations
forced_is : (given : List Item) (forced : List Oid) → forced_match given forced ≡ same_items given (map items.Force forced)
forced_is [] [] = refl
forced_is [] (rel ∷ forced) = refl
forced_is (item ∷ given) [] = refl
forced_is (item ∷ given) (rel ∷ forced) = ap (λ t. same_item item (items.Force rel) && t) (forced_is given forced)

grouped : (a b c : Bool) → ((a && b) && c) ≡ (a && (b && c))
grouped true b c = refl
grouped false b c = refl

pub drafted_is : (next new_oids : ℕ) (given : List Item) (changes : List Change) (forced : List Oid) → length changes ≤ length given
    → (changes_match next new_oids (take (length changes) given) changes && forced_match (drop (length changes) given) forced) ≡ same_items given (items_of (map (drawn_change next new_oids) changes) forced)
drafted_is next new_oids given [] forced fits = forced_is given forced
drafted_is next new_oids [] (change ∷ changes) forced fits = absurd (omega (arith, fits))
drafted_is next new_oids (item ∷ given) (change ∷ changes) forced fits =
    grouped (same_item item (item_of (drawn_change next new_oids change))) (changes_match next new_oids (take (length changes) given) changes) (forced_match (drop (length changes) given) forced)
    ∙ ap (λ t. same_item item (item_of (drawn_change next new_oids change)) && t) (drafted_is next new_oids given changes forced (omega (arith, fits)))

pub drafted_short : (next new_oids : ℕ) (given : List Item) (changes : List Change) (forced : List Oid) → length given < length changes → same_items given (items_of (map (drawn_change next new_oids) changes) forced) ≡ false
drafted_short next new_oids given [] forced short = absurd (omega (arith, short))
drafted_short next new_oids [] (change ∷ changes) forced short = refl
drafted_short next new_oids (item ∷ given) (change ∷ changes) forced short = ap (λ t. same_item item (item_of (drawn_change next new_oids change)) && t) (drafted_short next new_oids given changes forced (omega (arith, short))) ∙ none (same_item item (item_of (drawn_change next new_oids change)))
  where
    none : (t : Bool) → (t && false) ≡ false
    none true = refl
    none false = refl

-- a test of what each of some things gives
pub any_given : {X Y : Type 0} (p : Y → Bool) (f : X → List Y) (xs : List X) → list_any (λ x. list_any p (f x)) xs ≡ list_any p (flat_map f xs)
any_given p f [] = refl
any_given p f (x ∷ xs) = ap (λ t. list_any p (f x) || t) (any_given p f xs) ∙ sym (list_any-append p (f x) (flat_map f xs))
