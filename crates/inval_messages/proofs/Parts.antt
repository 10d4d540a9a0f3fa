-- Which messages of a change are for the catalog caches, and which for a descriptor.
use Rattle.std.proofs.Common.{◌≡◌, Bool, true, false, Option, Some, None, List, [], ◌∷◌, ◌++◌, cond, refl}
use Rattle.std.specs.Option.{option_and_then, option_to_list}
use Rattle.std.specs.List.{AllByRecursion}
use Rattle.base_types.specs.declared.row.ConKind.TheVariants as kinds
use Rattle.base_types.specs.declared.row.Row.TheVariants as rows
use Rattle.inval_messages.specs.Types.{CacheId, RelName, RelOid, AttName, Row, Message}
use Rattle.inval_messages.specs.Messages.{is_for_descriptor, same_message}
use Rattle.inval_messages.specs.Changes.{cat_for, rel_for, old_then_new, cats_at, cats_of, rels_of}

abbrev pub ForCaches : List Message → Type 0
ForCaches messages = AllByRecursion (λ m. is_for_descriptor m ≡ false) messages

abbrev pub ForDescriptors : List Message → Type 0
ForDescriptors messages = AllByRecursion (λ m. is_for_descriptor m ≡ true) messages

caches-append : (xs ys : List Message) → ForCaches xs → ForCaches ys → ForCaches (xs ++ ys)
caches-append [] ys all also = also
caches-append (x ∷ xs) ys all also = (all.0, caches-append xs ys all.1 also)

row-caches : (cache : CacheId) (row : Row) → ForCaches (option_to_list (cat_for cache row))
row-caches RelName (rows.Class oid name kind fill) = (refl, tt)
row-caches RelOid (rows.Class oid name kind fill) = (refl, tt)
row-caches AttName (rows.Att rel num name col_type stat live) = (refl, tt)
row-caches cache row = tt

of-option : (cache : CacheId) (row : Option Row) → ForCaches (option_to_list (option_and_then (cat_for cache) row))
of-option cache None = tt
of-option cache (Some row) = row-caches cache row

then-caches : (old new : Option Message) → ForCaches (option_to_list old) → ForCaches (option_to_list new) → ForCaches (old_then_new old new)
then-caches None new first second = second
then-caches (Some old) None first second = first
then-caches (Some old) (Some new) first second = (first.0, by_test (same_message old new))
  where
    by_test : (same : Bool) → ForCaches (cond same [] (new ∷ []))
    by_test true = tt
    by_test false = second

at-caches : (cache : CacheId) (old new : Option Row) → ForCaches (cats_at cache old new)
at-caches cache old new = then-caches (option_and_then (cat_for cache) old) (option_and_then (cat_for cache) new) (of-option cache old) (of-option cache new)

-- the first part of a change is for the catalog caches
pub cats_of-caches : (old new : Option Row) → ForCaches (cats_of old new)
cats_of-caches old new =
    caches-append (cats_at RelName old new ++ cats_at RelOid old new) (cats_at AttName old new)
    (caches-append (cats_at RelName old new) (cats_at RelOid old new) (at-caches RelName old new) (at-caches RelOid old new)) (at-caches AttName old new)

row-descriptors : (row : Row) → ForDescriptors (option_to_list (rel_for row))
row-descriptors (rows.Class oid name kind fill) = (refl, tt)
row-descriptors (rows.Att rel num name col_type stat live) = (refl, tt)
row-descriptors (rows.Ind index table state nums) = (refl, tt)
row-descriptors (rows.Con oid rel name valid (kinds.Foreign num refrel refnum)) = (refl, tt)
row-descriptors (rows.Con oid rel name valid (kinds.Check text)) = tt
row-descriptors row = tt

-- and the second for a descriptor
pub rels_of-descriptors : (old new : Option Row) → ForDescriptors (rels_of old new)
rels_of-descriptors old (Some new) = row-descriptors new
rels_of-descriptors None None = tt
rels_of-descriptors (Some old) None = row-descriptors old
