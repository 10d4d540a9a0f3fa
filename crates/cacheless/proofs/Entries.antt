-- The session in code over its own entries, a file a kind of entry, and over those of others.
pub mod Entering
pub mod EnteredLooks
pub mod EnteredFetches
pub mod EnteredScans
pub mod EnteredLocks
pub mod EnteredWrites
pub mod EnteredEnds
pub mod EntryCodes
pub mod Others
