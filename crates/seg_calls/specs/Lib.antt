pub mod Types
pub mod Calls
pub mod Queue
