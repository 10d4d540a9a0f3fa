-- The oids that writes draw.
use Rattle.std.specs.Prelude.{ℕ, List, [], ◌∷◌, ◌+◌, length}
use Rattle.std.specs.List.{flat_map}
use Rattle.base_types.specs.declared.row.Row.TheVariants.{Class, Def, Con, Trg}
use Rattle.history_model.specs.Types.{Oid, Item, Add, Event, Write}

-- the new oid that a change draws, if it draws one
abbrev pub drawn_by : Item → List ℕ
drawn_by (Add (Class oid name kind fill)) = oid.0 ∷ []
drawn_by (Add (Def oid rel num word)) = oid.0 ∷ []
drawn_by (Add (Con oid rel name valid what)) = oid.0 ∷ []
drawn_by (Add (Trg oid rel name on)) = oid.0 ∷ []
drawn_by item = []

-- the relation that a change makes
abbrev pub made_by : Item → List Oid
made_by (Add (Class oid name kind fill)) = oid ∷ []
made_by item = []

-- the next oid after an event
abbrev pub next_oid_by : Event → ℕ → ℕ
next_oid_by (Write xid items) next = next + length (flat_map drawn_by items)
next_oid_by event next = next
