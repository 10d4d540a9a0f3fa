-- The crate's own types, by which its other definitions name them.
pub use Rattle.base_types.specs.Scenario.{Scenario}
pub use Rattle.base_types.specs.declared.command.Command.{Command}
pub use Rattle.event_kinds.specs.declared.entry.Entry.{Entry}
pub use Rattle.event_kinds.specs.declared.entry.Event.{Event}
pub use Rattle.event_kinds.specs.declared.entry.Line.{Line}
pub use Rattle.cacheless.specs.declared.progress.Progress.{Progress}
pub use Rattle.history_ledger.specs.declared.ledger.Ledger.{Ledger}
pub use Rattle.history_lines.specs.declared.session.Session.{Session}
