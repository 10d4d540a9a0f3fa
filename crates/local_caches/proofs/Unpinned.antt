-- What the references of a catalog cache show stays without pins.
use Rattle.std.proofs.Common.{◌≡◌, ◌≢◌, ◌∙◌, ◌⊎◌, inl, inr, true, Option, Some, None, sym, ap, subst, refl, if◌then◌else◌}
use Rattle.std.proofs.lemmas.Bool.{eq-eqb}
use Rattle.std.specs.Option.{option_and_then, option_map_or}
use Rattle.pin_pool.specs.Entries.{Entry, new_entry, unpinned, marked}
use Rattle.pin_pool.specs.declared.reference.Ref.{Ref}
use Rattle.pin_pool.proofs.Refs.{same_or_other}
use Rattle.cat_cache.specs.declared.cached.Cached.{Cached}
use Rattle.cat_cache.specs.Caches.{shown, ShowsSame, ChangesShown, IsTakenOut, LetsGo}
use Rattle.local_caches.specs.Types.{CatCache}
use Rattle.local_caches.specs.Whole.{IsUnpinned}

-- there is no pin
abbrev NoPin : Option (Entry Cached) → Type 0
NoPin o = option_map_or (λ e. e.pins) o 0 ≡ 0

-- where nothing is shown, there is no pin
pub nothing_pinned : (cache : CatCache) → ((r : Ref) → shown cache r ≡ None) → IsUnpinned cache
nothing_pinned cache nothing = record { none = λ r. subst NoPin (sym (nothing r)) refl }

-- every reference shows what it showed
pub same_unpinned : (old new : CatCache) → ShowsSame old new → IsUnpinned old → IsUnpinned new
same_unpinned old new same u = record { none = λ r. subst NoPin (sym (same r)) (u.none r) }

-- what is put is let go again
pub put_unpinned : (old mid new : CatCache) (r : Ref) (value : Cached) → ChangesShown old mid r (Some (new_entry value)) → ChangesShown mid new r (option_and_then unpinned (shown mid r)) → IsUnpinned old → IsUnpinned new
put_unpinned old mid new r value puts goes u = record { none = λ other. by other (same_or_other other r) }
  where
    by : (other : Ref) → (other ≡ r) ⊎ (other ≢ r) → NoPin (shown new other)
    by other (inl same) = subst NoPin (sym (ap (shown new) same ∙ goes.at ∙ ap (option_and_then unpinned) puts.at)) refl
    by other (inr differs) = subst NoPin (sym (goes.others other differs ∙ puts.others other differs)) (u.none other)

-- what is taken out without a pin has gone
pub gone_unpinned : (old new : CatCache) → LetsGo old new → IsUnpinned old → IsUnpinned new
gone_unpinned old new goes u = record { none = λ r. by r (shown new r) refl }
  where
    left : (o : Option (Entry Cached)) → NoPin o → option_and_then marked o ≡ None
    left None none = refl
    left (Some e) none = ap (λ t. if t then None else Some (record e { dead = true })) (eq-eqb e.pins 0 none)

    kept : (r : Ref) (e : Entry Cached) → shown new r ≡ Some e → IsTakenOut old new r → ⊥
    kept r e is out = let never : Some e ≡ None = sym is ∙ goes.gone r out ∙ left (shown old r) (u.none r) in absurd (cc)

    by : (r : Ref) (o : Option (Entry Cached)) → shown new r ≡ o → NoPin (shown new r)
    by r None is = subst NoPin (sym is) refl
    by r (Some e) is = subst NoPin (sym (goes.others r (kept r e is))) (u.none r)
