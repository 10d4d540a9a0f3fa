-- Own entries, a file a kind of entry.
pub mod Joining
pub mod Inside
pub mod EndEntries
pub mod Committing
pub mod TakingBack
pub mod Releasing
pub mod Looking
pub mod Fetching
pub mod Alike
pub mod Scanning
pub mod Failing
pub mod Locking
pub mod Unlocking
pub mod Writing
pub mod Leaving
pub mod WhereLeft
pub mod Noting
