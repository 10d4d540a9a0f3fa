use Rattle.std.proofs.Common.{◌≡◌, ◌∙◌, ◌<◌, ◌==◌, ℕ, List, inl, Some, None, cond, refl, sym, ap, subst, arith}
use Rattle.std.specs.Option.{option_and_then, IsSome, IsSomeAnd}
use Rattle.std.proofs.lemmas.Bool.{eq-eqb}
use Rattle.base_types.specs.CacheKeys.{key_hash}
use Rattle.base_types.specs.declared.key.KeyPart.{KeyPart}
use Rattle.pin_pool.specs.declared.reference.Ref.{Ref}
use Rattle.cat_cache.specs.declared.cat_cache.CatCache.{CatCache}
use Rattle.pin_pool.specs.Entries.{marked}
use Rattle.cat_cache.specs.Caches.{cache_id, entry_of, shown, LetsGo}
use Rattle.cat_cache.specs.Entries.{under, row_in}
use Rattle.catsync_tests.proofs.cat_caches.in_use.Goals as goal

-- what a message for the hash of its key leaves of a row that is in use
left_of : (old new : CatCache) (key : List KeyPart) (hash : ℕ) (r : Ref) → option_and_then under (entry_of old key) ≡ Some r → hash ≡ key_hash (cache_id old) key → entry_of new key ≡ cond (hash == key_hash (cache_id old) key) None (entry_of old key)
    → LetsGo old new → shown new r ≡ option_and_then marked (shown old r)
left_of old new key hash r there same is lets = lets.gone r (inl (key, there, is ∙ ap (λ t. cond t None (entry_of old key)) (eq-eqb hash (key_hash (cache_id old) key) same)))

pub row-requires-2 : goal.row-requires-2
row-requires-2 c =
    subst (λ o. IsSome (option_and_then (λ e. row_in e.value) o)) (sym (left_of c.put_row.new.self c.invalidate.new.self c.new-key.result c.key_hash.result c.in-Ok-put_row.r (ap (option_and_then under) c.in-Ok-put_row.ensures.entry.at)
    (c.key_hash.ensures ∙ ap (λ id. key_hash id c.new-key.result) (sym (c.in-Ok-put_row.ensures.entry.id ∙ c.in-Ok.ensures.id))) (c.invalidate.ensures.entries c.new-key.result) c.invalidate.ensures.shown ∙ ap (option_and_then marked) c.in-Ok-put_row.ensures.shown.at)) refl

pub release-requires : goal.release-requires
release-requires c =
    subst (λ o. IsSomeAnd o (λ e. 0 < e.pins)) (sym (left_of c.put_row.new.self c.invalidate.new.self c.new-key.result c.key_hash.result c.in-Ok-put_row.r (ap (option_and_then under) c.in-Ok-put_row.ensures.entry.at)
    (c.key_hash.ensures ∙ ap (λ id. key_hash id c.new-key.result) (sym (c.in-Ok-put_row.ensures.entry.id ∙ c.in-Ok.ensures.id))) (c.invalidate.ensures.entries c.new-key.result) c.invalidate.ensures.shown ∙ ap (option_and_then marked) c.in-Ok-put_row.ensures.shown.at)) (omega arith)
