-- A descriptor that the cache holds, and what each call makes of it.
use Rattle.std.specs.Prelude.{ℕ, ◌+◌, ◌-◌, ◌==◌, Bool, true, false, Option, Some, None, if◌then◌else◌}
use Rattle.pin_pool.specs.declared.reference.Ref.{Ref}
use Rattle.rel_cache.specs.declared.opened.Opened.{Opened}
use Rattle.rel_cache.specs.declared.opened.Opened.TheVariants.{Valid, Invalid, Unknown}
use Rattle.rel_cache.specs.declared.opened.Need.{Need}
use Rattle.rel_cache.specs.declared.opened.Need.TheVariants.{Nothing, Rebuild}

-- the reference, the descriptor, how many pins it has, and whether nothing has made it out of date
pub record Held (D : Type 0) : Type 0 where
  pub at : Ref
  pub value : D
  pub pins : ℕ
  pub valid : Bool

module _ {D : Type 0} where
  -- a descriptor as it is inserted
  abbrev pub new_held : Ref → D → Held D
  new_held r value = record { at = r; value = value; pins = 1; valid = true }

  -- a descriptor that nothing has made out of date
  abbrev pub valid_value : Held D → Option D
  valid_value h = if h.valid then Some h.value else None

  -- what opening a relation answers
  abbrev pub opened : Option (Held D) → Opened
  opened None = Unknown
  opened (Some h) = if h.valid then Valid h.at else Invalid h.at

  -- a descriptor with one more pin
  abbrev pub opened_once : Held D → Held D
  opened_once h = record h { pins = h.pins + 1 }

  -- a descriptor with one pin less
  abbrev pub closed_once : Held D → Held D
  closed_once h = record h { pins = h.pins - 1 }

  -- what a message answers
  abbrev pub need : Option (Held D) → Need
  need None = Nothing
  need (Some h) = if h.pins == 0 then Nothing else Rebuild h.at

  -- what is left of a descriptor after a message: nothing, where nobody pins it
  abbrev pub told : Held D → Option (Held D)
  told h = if h.pins == 0 then None else Some (record h { valid = false })

  -- a descriptor that was built anew in its place
  abbrev pub renewed : D → Held D → Held D
  renewed value h = record h { value = value; valid = true }
