-- Nobody is in the way of a lock on a new relation.
use Rattle.std.proofs.Common.{◌≡◌, ◌<◌, ◌+◌, ◌==◌, ◌&&◌, ℕ, Bool, true, false, not, List, [], ◌∷◌, ◌++◌, zero, suc, refl, ap, arith}
use Rattle.std.specs.List.{flat_map, range_with_len, AllByRecursion}
use Rattle.std.proofs.lemmas.Bool.{ne_eqb}
use Rattle.base_types.specs.Modes.{same_mode, conflicts}
use Rattle.base_types.specs.declared.mode.Mode.TheVariants.{AccessExclusive}
use Rattle.base_types.specs.declared.ids.Oid.{Oid}
use Rattle.base_types.specs.declared.row.Row.TheVariants.{Class, Def, Con, Trg}
use Rattle.event_kinds.specs.declared.entry.Item.{Item}
use Rattle.event_kinds.specs.declared.entry.Item.TheVariants.{Add}
use Rattle.lock_modes.specs.declared.grant.Grant.{Grant}
use Rattle.lock_modes.specs.Excluding.{IsApart, IsFree, AreFree}
use Rattle.history_model.specs.Drawn.{drawn_by}
use Rattle.history_model.specs.Held.{granted_by}

-- the grants are of relations whose oids are below this one
abbrev AreBelow : ℕ → List Grant → Type 0
AreBelow next held = AllByRecursion (λ g. g.rel.0 < next) held

below_next : (next : ℕ) (held : List Grant) → AreBelow next held → AreBelow (next + 1) held
below_next next [] below = tt
below_next next (g ∷ held) below = (omega (arith, below.0), below_next next held below.1)

below_more : (next : ℕ) (held : List Grant) (g : Grant) → AreBelow next held → g.rel.0 ≡ next → AreBelow (next + 1) (held ++ g ∷ [])
below_more next [] g below is = (omega (arith, is), tt)
below_more next (x ∷ held) g below is = (omega (arith, below.0), below_more next held g below.1 is)

-- so none of them is of the next relation
not_mid : (a b c : Bool) → b ≡ false → (a && b && c) ≡ false
not_mid true b c is = ap (λ t. t && c) is
not_mid false b c is = refl

apart_below : (next : ℕ) (other g : Grant) → other.rel.0 < next → g.rel.0 ≡ next → IsApart other g
apart_below next other g below is =
    let differs : (other.rel.0 == g.rel.0) ≡ false = ne_eqb other.rel.0 g.rel.0 (λ same. absurd (omega (arith, same, below, is))) in
    record {
      once = not_mid (other.backend == g.backend) (other.rel.0 == g.rel.0) (same_mode other.mode g.mode) differs;
      way = not_mid (not (other.backend == g.backend)) (other.rel.0 == g.rel.0) (conflicts g.mode other.mode) differs;
    }

free_below : (next : ℕ) (held : List Grant) (g : Grant) → AreBelow next held → g.rel.0 ≡ next → IsFree held g
free_below next [] g below is = tt
free_below next (other ∷ held) g below is = (apart_below next other g below.0 is, free_below next held g below.1 is)

-- the grant of a new relation
abbrev grant_of : ℕ → ℕ → Oid → Grant
grant_of b c oid = record { backend = b; command = c; rel = oid; mode = AccessExclusive }

module _ (b c : ℕ) where
  -- the grants of new relations, whose oids are drawn in order
  pub grants_free : (items : List Item) (held : List Grant) (next n : ℕ) → AreBelow next held → flat_map drawn_by items ≡ range_with_len next n → AreFree held (flat_map (granted_by b c) items)
  grants_free [] held next n below drawn = tt
  grants_free (Add (Class oid name kind fill) ∷ items) held next zero below drawn = absurd (cc)
  grants_free (Add (Class oid name kind fill) ∷ items) held next (suc n) below drawn =
      let first : oid.0 ≡ next = cc in
      let rest : flat_map drawn_by items ≡ range_with_len (next + 1) n = cc in
      (free_below next held (grant_of b c oid) below first, grants_free items (held ++ grant_of b c oid ∷ []) (next + 1) n (below_more next held (grant_of b c oid) below first) rest)
  grants_free (Add (Def oid rel num word) ∷ items) held next zero below drawn = absurd (cc)
  grants_free (Add (Def oid rel num word) ∷ items) held next (suc n) below drawn = let rest : flat_map drawn_by items ≡ range_with_len (next + 1) n = cc in grants_free items held (next + 1) n (below_next next held below) rest
  grants_free (Add (Con oid rel name valid what) ∷ items) held next zero below drawn = absurd (cc)
  grants_free (Add (Con oid rel name valid what) ∷ items) held next (suc n) below drawn = let rest : flat_map drawn_by items ≡ range_with_len (next + 1) n = cc in grants_free items held (next + 1) n (below_next next held below) rest
  grants_free (Add (Trg oid rel name on) ∷ items) held next zero below drawn = absurd (cc)
  grants_free (Add (Trg oid rel name on) ∷ items) held next (suc n) below drawn = let rest : flat_map drawn_by items ≡ range_with_len (next + 1) n = cc in grants_free items held (next + 1) n (below_next next held below) rest
  grants_free (item ∷ items) held next n below drawn = grants_free items held next n below drawn
