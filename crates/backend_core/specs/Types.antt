-- The types by which the crate's other definitions name what they speak of.
pub use Rattle.base_types.specs.declared.ids.Oid.{Oid}
pub use Rattle.base_types.specs.declared.ids.Xid.{Xid}
pub use Rattle.base_types.specs.declared.mode.Mode.{Mode}
pub use Rattle.base_types.specs.declared.kind.Kind.{Kind}
pub use Rattle.base_types.specs.declared.field.Field.{Field}
pub use Rattle.base_types.specs.declared.row.Row.{Row}
pub use Rattle.base_types.specs.declared.scan.Purpose.{Purpose}
pub use Rattle.base_types.specs.declared.command.Command.{Command}
pub use Rattle.base_types.specs.declared.command.NewColumn.{NewColumn}
pub use Rattle.base_types.specs.Scenario.{Scenario}
pub use Rattle.event_kinds.specs.declared.entry.Entry.{Entry}
pub use Rattle.event_kinds.specs.declared.entry.Event.{Event}
pub use Rattle.event_kinds.specs.declared.entry.Item.{Item}
pub use Rattle.event_kinds.specs.declared.entry.Line.{Line}
pub use Rattle.command_answers.specs.declared.error.CommandError.{CommandError}
pub use Rattle.inval_messages.specs.declared.message.Message.{Message}
pub use Rattle.row_visibility.specs.declared.version.Version.{Version}
pub use Rattle.lock_modes.specs.declared.own_lock.OwnLock.{OwnLock}
pub use Rattle.ddl_effect.specs.declared.draft.Draft.{Draft}
pub use Rattle.ddl_effect.specs.declared.exec.Exec.{Exec}
pub use Rattle.cacheless.specs.declared.opening.Opening.{Opening}
pub use Rattle.backend_core.specs.declared.backend.Backend.{Backend}
pub use Rattle.backend_core.specs.declared.next.Next.{Next}
pub use Rattle.backend_core.specs.declared.frame.Frame.{Frame}
pub use Rattle.backend_core.specs.declared.life.Life.{Life}
pub use Rattle.local_caches.specs.Kept.{Read, Kept}
pub use Rattle.cacheless.specs.declared.progress.Progress.{Progress}
