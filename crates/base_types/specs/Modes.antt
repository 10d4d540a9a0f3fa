-- Which lock modes conflict, and which ones the writers of a field take.
use Rattle.std.specs.Prelude.{ℕ, Bool, List, [], ◌∷◌, ◌==◌}
use Rattle.std.specs.List.{list_any}
use Rattle.base_types.specs.Types.{Mode, AccessShare, RowShare, RowExclusive, ShareUpdateExclusive, Share, ShareRowExclusive, Exclusive, AccessExclusive, Kind, Field}
use Rattle.base_types.specs.declared.kind.Kind.TheVariants.{Table, Index}
use Rattle.base_types.specs.declared.field.Field.TheVariants as fields

-- the number of a mode, as the server counts them
abbrev pub mode_number : Mode → ℕ
mode_number AccessShare = 1
mode_number RowShare = 2
mode_number RowExclusive = 3
mode_number ShareUpdateExclusive = 4
mode_number Share = 5
mode_number ShareRowExclusive = 6
mode_number Exclusive = 7
mode_number AccessExclusive = 8

-- two modes are one
abbrev pub same_mode : Mode → Mode → Bool
same_mode a b = mode_number a == mode_number b

-- the modes that conflict with a mode, in rising order
abbrev pub conflicting_modes : Mode → List Mode
conflicting_modes AccessShare = AccessExclusive ∷ []
conflicting_modes RowShare = Exclusive ∷ AccessExclusive ∷ []
conflicting_modes RowExclusive = Share ∷ ShareRowExclusive ∷ Exclusive ∷ AccessExclusive ∷ []
conflicting_modes ShareUpdateExclusive = ShareUpdateExclusive ∷ Share ∷ ShareRowExclusive ∷ Exclusive ∷ AccessExclusive ∷ []
conflicting_modes Share = RowExclusive ∷ ShareUpdateExclusive ∷ ShareRowExclusive ∷ Exclusive ∷ AccessExclusive ∷ []
conflicting_modes ShareRowExclusive = RowExclusive ∷ ShareUpdateExclusive ∷ Share ∷ ShareRowExclusive ∷ Exclusive ∷ AccessExclusive ∷ []
conflicting_modes Exclusive = RowShare ∷ RowExclusive ∷ ShareUpdateExclusive ∷ Share ∷ ShareRowExclusive ∷ Exclusive ∷ AccessExclusive ∷ []
conflicting_modes AccessExclusive = AccessShare ∷ RowShare ∷ RowExclusive ∷ ShareUpdateExclusive ∷ Share ∷ ShareRowExclusive ∷ Exclusive ∷ AccessExclusive ∷ []

-- one backend may not take the first mode on a relation while another holds the second
abbrev pub conflicts : Mode → Mode → Bool
conflicts a b = list_any (same_mode b) (conflicting_modes a)

-- the modes that commands take which change a field; none for a field that the kind lacks
abbrev pub writers_of : Kind → Field → List Mode
writers_of Table fields.Name = AccessExclusive ∷ []
writers_of Table fields.Columns = AccessExclusive ∷ []
writers_of Table fields.Defaults = AccessExclusive ∷ []
writers_of Table fields.Statistics = ShareUpdateExclusive ∷ AccessExclusive ∷ []
writers_of Table fields.Fillfactor = ShareUpdateExclusive ∷ AccessExclusive ∷ []
writers_of Table fields.Constraints = ShareUpdateExclusive ∷ ShareRowExclusive ∷ AccessExclusive ∷ []
writers_of Table fields.Referenced = ShareRowExclusive ∷ AccessExclusive ∷ []
writers_of Table fields.Indexes = Share ∷ AccessExclusive ∷ []
writers_of Table fields.Triggers = ShareRowExclusive ∷ AccessExclusive ∷ []
writers_of Index fields.Name = ShareUpdateExclusive ∷ AccessExclusive ∷ []
writers_of Index fields.Of = AccessExclusive ∷ []
writers_of Index fields.Valid = AccessExclusive ∷ []
writers_of kind field = []
