-- How the promised places are kept.
use Rattle.std.specs.Prelude.{◌≡◌, ◌≤◌, ◌+◌, ◌-◌, ◌^◌, sum, min, vec_len, vec_capacity}
use Rattle.shared_seg.specs.declared.places.Places.TheInside.{Inside}
use Rattle.shared_seg.specs.Places.{Placed}

-- the entries, the promises, and the entries for which there is room besides, up to 2^56
abbrev pub placed : Inside → Placed
placed p = record { entries = p.entries.items; promised = p.promised.items; room = min (vec_capacity p.entries) (2 ^ 56) - (vec_len p.entries + p.total) }

-- there is room for all promised places
pub record KeepsPlaces (p : Inside) : Type 0 where
  pub counted : p.total ≡ sum p.promised.items
  pub fits : vec_len p.entries + p.total ≤ vec_capacity p.entries
  pub short : vec_len p.entries + p.total ≤ 2 ^ 56
