mod Examples
pub mod Levels
