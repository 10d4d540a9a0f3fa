-- A new name that is taken.
use Rattle.std.proofs.Common.{◌≡◌, ◌<◌, ◌+◌, ◌∙◌, ◌||◌, ℕ, true, false, Option, List, ◌∷◌, ◌++◌, length, take, drop, get_or, ap, sym, subst}
use Rattle.std.specs.List.{flat_map, list_any}
use Rattle.std.specs.Str.{bytes_eq}
use Rattle.std.proofs.lemmas.Cmp.{nat_list_eq_equiv}
use Rattle.std.proofs.lemmas.List.{drop_more, take-append-drop}
use Rattle.std.proofs.lemmas.Grind.{flat_map-append}
use Rattle.base_types.specs.declared.ids.Xid.{Xid}
use Rattle.event_kinds.specs.declared.entry.Item.{Item}
use Rattle.catalog_rows.specs.Store.{Store}
use Rattle.history_model.proofs.Every.{any-left, any-right}
use Rattle.shared_seg.specs.declared.naming.Taken.{Taken}
use Rattle.shared_seg.specs.Naming.{new_name_of, NamesFree, IsTaken, IsTakenBy}

pub bytes_eq-same : (xs : List ℕ) → bytes_eq xs xs ≡ true
bytes_eq-same xs = nat_list_eq_equiv.refl xs

-- a change whose new name is taken, after changes whose new names are free
pub taken_at : (store : Store) (own : Option Xid) (items : List Item) (i : ℕ) (item : Item) (taken : Taken) → i < length items → item ≡ get_or items i item → NamesFree store own (take i items) → IsTakenBy store own item taken → IsTaken store own items taken
taken_at store own items i item taken within is free by = record {
  before = take i items;
  item = item;
  after = drop (i + 1) items;
  parts = sym (ap (λ x. take i items ++ x ∷ drop (i + 1) items) is ∙ ap (λ l. take i items ++ l) (sym (drop_more items i item within)) ∙ take-append-drop i items);
  free = free;
  by = by;
}

-- is one that gives a new name
pub taken_new : (store : Store) (own : Option Xid) (items : List Item) (taken : Taken) → IsTaken store own items taken → list_any (bytes_eq taken.name) (flat_map (new_name_of store own) items) ≡ true
taken_new store own items taken at = subst (λ l. list_any (bytes_eq taken.name) (flat_map f l) ≡ true) (sym at.parts)
    (ap (list_any (bytes_eq taken.name)) (flat_map-append f at.before (at.item ∷ at.after)) ∙ any-right (bytes_eq taken.name) (flat_map f at.before) (flat_map f (at.item ∷ at.after))
    (any-left (bytes_eq taken.name) (f at.item) (flat_map f at.after) (subst (λ l. list_any (bytes_eq taken.name) l ≡ true) (sym at.by.is_new) (ap (λ t. t || false) (bytes_eq-same taken.name)))))
  where
    f : Item → List (List ℕ)
    f = new_name_of store own
