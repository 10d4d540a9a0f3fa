-- What a plan may put in the place of a relation's row: only that of a relation whose descriptor it has opened.
use Rattle.std.specs.Prelude.{◌≡◌, ⊤, ℕ, Bool, true, List, [], ◌∷◌, ◌++◌}
use Rattle.std.specs.List.{AllByRecursion, list_any}
use Rattle.base_types.specs.Scans.{same_oid, selects}
use Rattle.base_types.specs.declared.row.Row.TheVariants as rows
use Rattle.base_types.specs.declared.change.Change.{Change}
use Rattle.base_types.specs.declared.change.Change.TheVariants.{Replace}
use Rattle.ddl_effect.specs.Drawing.{drawn_oid}
use Rattle.ddl_effect.specs.Plans.{Lookup, Open, Search, Read, Write, Plan, Do}
use Rattle.cacheless.specs.Types.{Oid, Row, Purpose, Opening}

-- the descriptor of the relation is opened
abbrev pub is_opened : List Opening → Oid → Bool
is_opened opened rel = list_any (λ o. same_oid o.rel rel) opened

-- if a change puts the row of a relation, where a draft draws so many new oids, the relation is no new one, and its descriptor is opened
abbrev pub PutOpened : List Opening → ℕ → Change → Type 0
PutOpened opened new_oids (Replace (rows.Class oid name kind fill)) = (is_opened opened oid ≡ true) × ((next : ℕ) → drawn_oid next new_oids oid ≡ oid)
PutOpened opened new_oids change = ⊤

-- the rows are such as the scan gives
abbrev pub AreGivenBy : Purpose → List Row → Type 0
AreGivenBy scan given = AllByRecursion (λ row. selects scan row ≡ true) given

-- the writes of a plan put no other relation's row, whichever rows its scans give; after a lookup only that of a relation which it opens after it
abbrev pub PutsOpened : List Opening → Plan → Type 0
PutsOpened opened (Do (Lookup name mode) rest) = (given : List Row) (other : List Opening) → PutsOpened other (rest given)
PutsOpened opened (Do (Open rel kind) rest) = (given : List Row) → PutsOpened (opened ++ record { rel = rel; kind = kind } ∷ []) (rest given)
PutsOpened opened (Do (Search scan) rest) = (given : List Row) → AreGivenBy scan given → PutsOpened opened (rest given)
PutsOpened opened (Do (Read scan) rest) = (given : List Row) → AreGivenBy scan given → PutsOpened opened (rest given)
PutsOpened opened (Do (Write draft) rest) = AllByRecursion (PutOpened opened draft.new_oids) draft.changes × ((given : List Row) → PutsOpened [] (rest given))
PutsOpened opened (Do act rest) = (given : List Row) → PutsOpened opened (rest given)
PutsOpened opened plan = ⊤
