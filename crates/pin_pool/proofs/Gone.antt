-- What has gone stays gone.
use Rattle.std.proofs.Common.{◌≡◌, ◌≢◌, ◌∙◌, ◌⊎◌, inl, inr, false, Option, Some, None, IsSome, refl, sym, subst}
use Rattle.std.proofs.lemmas.Bool.{false≢true}
use Rattle.pin_pool.specs.Entries.{Entry}
use Rattle.pin_pool.specs.Pools.{entry_of, HasGone, IsSame, Changes, KeepsGone}
use Rattle.pin_pool.specs.declared.pool.Pool.{Pool}
use Rattle.pin_pool.specs.declared.reference.Ref.{Ref}
use Rattle.pin_pool.proofs.Refs.{same_or_other}

module _ {T : Type 0} where
  never : {X : Type 0} (o : Option (Entry T)) → IsSome o → o ≡ None → X
  never o some none = absurd (false≢true (subst IsSome none some))

  -- where nothing changes
  pub gone_same : (old new : Pool T) → IsSame old new → KeepsGone old new
  gone_same old new same = record { stays = same.gone; goes = λ r some none. never (entry_of old r) some (sym (same.entries r) ∙ none) }

  pub gone_as_it_is : (pool : Pool T) → KeepsGone pool pool
  gone_as_it_is pool = record { stays = λ r gone. gone; goes = λ r some none. never (entry_of pool r) some none }

  -- where one entry changes
  pub gone_changed : (old new : Pool T) (r : Ref) (entry : Option (Entry T)) → Changes old new r entry → KeepsGone old new
  gone_changed old new r entry changes = record { stays = changes.gone; goes = λ other some none. by other some none (same_or_other other r) }
    where
      by : (other : Ref) → IsSome (entry_of old other) → entry_of new other ≡ None → (other ≡ r) ⊎ (other ≢ r) → HasGone new other
      by other some none (inl same) = subst (HasGone new) (sym same) (changes.went (sym changes.at ∙ subst (λ x. entry_of new x ≡ None) same none))
      by other some none (inr differs) = never (entry_of old other) some (sym (changes.others other differs) ∙ none)

  -- after one call and another
  pub gone_twice : (old middle new : Pool T) → KeepsGone old middle → KeepsGone middle new → KeepsGone old new
  gone_twice old middle new one two = record { stays = λ r gone. two.stays r (one.stays r gone); goes = λ r some none. by r some none (entry_of middle r) refl }
    where
      by : (r : Ref) → IsSome (entry_of old r) → entry_of new r ≡ None → (o : Option (Entry T)) → entry_of middle r ≡ o → HasGone new r
      by r some none None is = two.stays r (one.goes r some is)
      by r some none (Some e) is = two.goes r (subst IsSome (sym is) refl) none
