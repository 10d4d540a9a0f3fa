-- Of which kind a relation is: that of each version of its row.
use Rattle.std.specs.Prelude.{◌≡◌, ◌<◌, List, ⊤}
use Rattle.std.specs.List.{AllByRecursion}
use Rattle.base_types.specs.declared.row.Row.TheVariants as rows
use Rattle.history_model.specs.Types.{Oid, Kind, Row, Entry}
use Rattle.history_model.specs.Drawn.{next_oid}
use Rattle.history_model.specs.Versions.{versions_of}

-- if the row is the relation's own, it has this kind
abbrev pub HasKind : Oid → Kind → Row → Type 0
HasKind rel kind (rows.Class oid own kind' fill) = oid ≡ rel → kind' ≡ kind
HasKind rel kind row = ⊤

-- the relation is drawn, and each version of its row has this kind
pub record IsOfKind (history : List Entry) (rel : Oid) (kind : Kind) : Type 0 where
  pub drawn : rel.0 < next_oid history
  pub each : AllByRecursion (λ v. HasKind rel kind v.row) (versions_of history)
