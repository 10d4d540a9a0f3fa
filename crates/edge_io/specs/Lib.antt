pub mod Causes
pub mod Taken
pub mod Gates
pub mod Reads
pub mod InMemory
pub mod Gathered
