-- What a command reads is of a descriptor that it has opened before.
use Rattle.std.specs.Prelude.{◌≡◌, ⊤, Bool, true, List, ◌++◌}
use Rattle.std.specs.List.{list_any}
use Rattle.base_types.specs.Scans.{same_scan, build_scans}
use Rattle.ddl_effect.specs.Plans.{Plan, Do, Read}
use Rattle.cacheless.specs.Types.{Row, Purpose, Opening}
use Rattle.cacheless.specs.Settled.{opened_by}

-- a scan is one of an opened descriptor
abbrev pub is_of_opened : Purpose → List Opening → Bool
is_of_opened scan opened = list_any (λ o. list_any (same_scan scan) (build_scans o.kind o.rel)) opened

-- what a plan reads is of a descriptor that it has opened before
abbrev pub ReadsOpened : List Opening → Plan → Type 0
ReadsOpened opened (Do (Read scan) rest) = (is_of_opened scan opened ≡ true) × ((given : List Row) → ReadsOpened opened (rest given))
ReadsOpened opened (Do act rest) = (given : List Row) → ReadsOpened (opened ++ opened_by act) (rest given)
ReadsOpened opened plan = ⊤
