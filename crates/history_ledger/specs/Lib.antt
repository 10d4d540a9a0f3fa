pub mod Types
pub mod Held
pub mod Words
pub mod Longest
