-- What has gone from a pool stays gone, and nothing else goes but what was named.
use Rattle.std.proofs.Common.{◌≡◌, ◌≢◌, ◌∙◌, ◌⊎◌, inl, inr, Option, Some, None, IsSome, IsSomeAnd, refl, sym, subst}
use Rattle.pin_pool.specs.Pools.{entry_of as pooled, HasGone, IsSame, Changes}
use Rattle.pin_pool.proofs.Gone.{gone_same, gone_as_it_is, gone_changed, gone_twice}
use Rattle.pin_pool.proofs.Refs.{same_or_other}
use Rattle.cat_cache.specs.Types.{Pool, Ref, Entry, Cached}
use Rattle.cat_cache.specs.Going.{GoesNamed, OnlyGoes}

-- what has a value with a property has a value
pub some_and : (o : Option (Entry Cached)) (P : Entry Cached → Type 0) → IsSomeAnd o P → IsSome o
some_and None P holds = absurd holds
some_and (Some e) P holds = refl

-- where nothing changes
pub goes_same : (old new : Pool Cached) → IsSame old new → GoesNamed old new
goes_same old new same = record { keeps = gone_same old new same; no_more = λ r gone. inl (same.no_more r gone) }

pub goes_as_it_is : (pool : Pool Cached) → GoesNamed pool pool
goes_as_it_is pool = record { keeps = gone_as_it_is pool; no_more = λ r gone. inl gone }

pub only_as_it_is : (pool : Pool Cached) → OnlyGoes pool pool
only_as_it_is pool = record { goes = goes_as_it_is pool; fewer = λ r some. some }

-- where one is added
pub goes_added : (old new : Pool Cached) (r : Ref) (e : Entry Cached) → Changes old new r (Some e) → GoesNamed old new
goes_added old new r e changes = record { keeps = gone_changed old new r (Some e) changes; no_more = λ other gone. by other gone (same_or_other other r) }
  where
    by : (other : Ref) → HasGone new other → (other ≡ r) ⊎ (other ≢ r) → HasGone old other ⊎ IsSome (pooled old other)
    by other gone (inl same) = let never : Some e ≡ None = sym changes.at ∙ subst (λ s. pooled new s ≡ None) same gone.gone in absurd (cc)
    by other gone (inr differs) = inl (changes.no_more other differs gone)

-- where one entry changes that was there
module _ (old new : Pool Cached) (r : Ref) (entry : Option (Entry Cached)) (changes : Changes old new r entry) (there : IsSome (pooled old r)) where
  pub goes_changed : GoesNamed old new
  goes_changed = record { keeps = gone_changed old new r entry changes; no_more = λ other gone. by other gone (same_or_other other r) }
    where
      by : (other : Ref) → HasGone new other → (other ≡ r) ⊎ (other ≢ r) → HasGone old other ⊎ IsSome (pooled old other)
      by other gone (inl same) = inr (subst (λ s. IsSome (pooled old s)) (sym same) there)
      by other gone (inr differs) = inl (changes.no_more other differs gone)

  pub only_changed : OnlyGoes old new
  only_changed = record { goes = goes_changed; fewer = λ other some. by other some (same_or_other other r) }
    where
      by : (other : Ref) → IsSome (pooled new other) → (other ≡ r) ⊎ (other ≢ r) → IsSome (pooled old other)
      by other some (inl same) = subst (λ s. IsSome (pooled old s)) (sym same) there
      by other some (inr differs) = subst IsSome (changes.others other differs) some

-- after one call and another
pub only_twice : (old middle new : Pool Cached) → OnlyGoes old middle → OnlyGoes middle new → OnlyGoes old new
only_twice old middle new one two = record {
  goes = record { keeps = gone_twice old middle new one.goes.keeps two.goes.keeps; no_more = λ r gone. by r (two.goes.no_more r gone) };
  fewer = λ r some. one.fewer r (two.fewer r some);
}
  where
    by : (r : Ref) → HasGone middle r ⊎ IsSome (pooled middle r) → HasGone old r ⊎ IsSome (pooled old r)
    by r (inl gone) = one.goes.no_more r gone
    by r (inr some) = inr (one.fewer r some)
