pub mod Types
pub mod Kept
pub mod Words
