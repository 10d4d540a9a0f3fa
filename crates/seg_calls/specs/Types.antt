-- The types by which the crate's other definitions name what they speak of.
pub use Rattle.base_types.specs.declared.ids.Oid.{Oid}
pub use Rattle.base_types.specs.declared.ids.Xid.{Xid}
pub use Rattle.base_types.specs.declared.fetched.Fetched.{Fetched}
pub use Rattle.base_types.specs.declared.memory.NoMemory.{NoMemory}
pub use Rattle.base_types.specs.declared.mode.Mode.{Mode}
pub use Rattle.base_types.specs.declared.mode.Mode.TheVariants.{AccessExclusive}
pub use Rattle.base_types.specs.declared.scan.Purpose.{Purpose}
pub use Rattle.base_types.specs.declared.scanned.Scanned.{Scanned}
pub use Rattle.base_types.specs.Scenario.{Scenario}
pub use Rattle.event_kinds.specs.declared.entry.Entry.{Entry}
pub use Rattle.event_kinds.specs.declared.entry.Event.{Event}
pub use Rattle.event_kinds.specs.declared.entry.Event.TheVariants.{Start, Stop, Look, Fetch, FetchReset, Publish, Gone, LockOk, LockHeld, Scan, Write, ClashRow, ClashRunning}
pub use Rattle.event_kinds.specs.declared.entry.Item.{Item}
pub use Rattle.inval_messages.specs.declared.message.Message.{Message}
pub use Rattle.row_visibility.specs.declared.clash.Clash.{Clash}
pub use Rattle.row_visibility.specs.declared.clash.Clash.TheVariants.{Row, Running}
pub use Rattle.lock_modes.specs.declared.granted.LockRefusal.{LockRefusal}
pub use Rattle.ddl_effect.specs.declared.draft.Draft.{Draft}
pub use Rattle.seg_calls.specs.declared.refusal.WriteRefusal.{WriteRefusal}
pub use Rattle.seg_calls.specs.declared.refusal.Written.{Written}
