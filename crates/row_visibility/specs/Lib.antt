pub mod Types
pub mod Seen
