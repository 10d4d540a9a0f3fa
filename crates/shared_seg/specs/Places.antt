-- The history with promised places.
use Rattle.std.specs.Prelude.{ℕ, List, ◌≡◌, unwrap_or, slice_get}
use Rattle.event_kinds.specs.declared.entry.Entry.{Entry}

-- the entries, how many places each backend is promised, and how many entries there is room for besides
pub record Placed : Type 0 where
  pub entries : List Entry
  pub promised : List ℕ
  pub room : ℕ

-- how many places a list of promises has for a backend
abbrev pub promised_in : List ℕ → ℕ → ℕ
promised_in promised b = unwrap_or (slice_get promised b) 0

-- how many places a backend is promised
abbrev pub places_of : Placed → ℕ → ℕ
places_of placed b = promised_in placed.promised b

-- the entries and promises are as before
pub record SamePlaces (old new : Placed) : Type 0 where
  pub entries : new.entries ≡ old.entries
  pub promised : new.promised ≡ old.promised
