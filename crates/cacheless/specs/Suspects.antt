-- The held descriptors that may lack a scan, as they are noted.
use Rattle.std.specs.Prelude.{◌≡◌, ◌∷◌, ◌&&◌, ◌||◌, Bool, true, false, not, Option, Some, None, List, [], drop, is_some, nat_lt}
use Rattle.std.specs.List.{find, list_any}
use Rattle.base_types.specs.Scans.{same_oid, build_scans}
use Rattle.base_types.specs.declared.kind.Kind.TheVariants.{Table, Index}
use Rattle.cacheless.specs.Types.{Kind, Purpose, Opening}
use Rattle.cacheless.specs.declared.suspects.Suspects.{Suspects}

-- a descriptor lacks a scan
abbrev pub lacks : (Purpose → Bool) → Opening → Bool
lacks has o = is_some (find (λ scan. not (has scan)) (build_scans o.kind o.rel))

-- two descriptors are one
abbrev pub same_kind : Kind → Kind → Bool
same_kind Table Table = true
same_kind Index Index = true
same_kind kind other = false

abbrev pub same_opening : Opening → Opening → Bool
same_opening o other = same_kind o.kind other.kind && same_oid o.rel other.rel

-- one has a greater oid than the last, or is that again
abbrev pub follows : Option Opening → Opening → Bool
follows None o = true
follows (Some last) o = nat_lt last.rel.0 o.rel.0 || same_opening last o

-- so it is of each
abbrev pub ascend : Option Opening → List Opening → Bool
ascend last [] = true
ascend last (o ∷ os) = follows last o && ascend (Some o) os

-- those of the second that lack a scan are those of the first that do, and their oids ascend
pub record AreSuspects (has : Purpose → Bool) (held found : List Opening) : Type 0 where
  pub same : (p : Opening → Bool) → list_any (λ o. lacks has o && p o) found ≡ list_any (λ o. lacks has o && p o) held
  pub ascending : ascend None found ≡ true

-- so it is of those that are noted, where any are
abbrev pub AreKnown : (Purpose → Bool) → List Opening → Suspects → Type 0
AreKnown has held s = s.known ≡ true → AreSuspects has held (drop s.from s.items.items)
