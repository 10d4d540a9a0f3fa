-- What it makes of a catalog cache that a key's row is put into it.
use Rattle.std.proofs.Common.{◌≡◌, ◌≤◌, ◌∙◌, ℕ, List, [], ◌∷◌, Some, None, length, refl, sym, ap, arith}
use Rattle.std.specs.List.{slice_get}
use Rattle.std.specs.Option.{option_map}
use Rattle.cat_cache.specs.Caches.{HasSame, ChangesEntry}
use Rattle.cat_cache.specs.Entries.{Positive, Negative}
use Rattle.local_caches.specs.Types.{CatCache, KeyPart, Row}
use Rattle.pin_pool.specs.declared.reference.Ref.{Ref}
use Rattle.local_caches.specs.Keyed.{PutsKey}
use Rattle.local_caches.specs.Reads.{read_in}

-- a row that is put and let go again
pub row_put : (old mid new : CatCache) (key : List KeyPart) (rows : List Row) (row : Row) (r : Ref) (place : ℕ) → slice_get rows 0 ≡ Some row → length rows ≤ 1 → ChangesEntry old mid key (Positive r row place) → HasSame mid new → PutsKey old new key rows place
row_put old mid new key rows row r place first few puts same = record {
  id = same.id ∙ puts.id;
  at = ap (option_map read_in) (same.entries key ∙ puts.at) ∙ ap (λ xs. Some (record { rows = xs; at = place })) (sym (alone rows first few));
  others = λ other differs. same.entries other ∙ puts.others other differs;
  lists = λ prefix. same.lists prefix ∙ puts.lists prefix;
}
  where
    alone : (xs : List Row) → slice_get xs 0 ≡ Some row → length xs ≤ 1 → xs ≡ row ∷ []
    alone [] is fits = absurd (cc)
    alone (x ∷ []) is fits = cc
    alone (x ∷ y ∷ rest) is fits = absurd (omega (arith, fits))

-- that there is none
pub none_put : (old new : CatCache) (key : List KeyPart) (rows : List Row) (place : ℕ) → slice_get rows 0 ≡ None → ChangesEntry old new key (Negative place) → PutsKey old new key rows place
none_put old new key rows place none puts = record {
  id = puts.id;
  at = ap (option_map read_in) puts.at ∙ ap (λ xs. Some (record { rows = xs; at = place })) (sym (empty rows none));
  others = puts.others;
  lists = puts.lists;
}
  where
    empty : (xs : List Row) → slice_get xs 0 ≡ None → xs ≡ []
    empty [] is = refl
    empty (x ∷ rest) is = absurd (cc)
