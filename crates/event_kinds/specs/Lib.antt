pub mod Events
pub mod Texts
pub mod Entries
pub mod Readers
pub mod Reading
pub mod Yields
pub mod Faults
