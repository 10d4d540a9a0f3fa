-- The crate's own types, by which its other definitions name them.
pub use Rattle.cacheless.specs.declared.check_kind.CheckKind.{CheckKind}
pub use Rattle.base_types.specs.Scenario.{Scenario}
pub use Rattle.event_kinds.specs.declared.entry.Entry.{Entry}
pub use Rattle.event_kinds.specs.declared.entry.Event.{Event}
pub use Rattle.event_kinds.specs.declared.entry.Line.{Line}
