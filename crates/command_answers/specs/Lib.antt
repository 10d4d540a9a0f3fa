pub mod Types
pub mod Answers
