pub mod Draws
pub mod Scripts
pub mod Texts
