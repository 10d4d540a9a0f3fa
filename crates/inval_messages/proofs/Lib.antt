mod Examples
pub mod Covers
pub mod Parts
