pub mod Types
pub mod Answered
pub mod Comes
pub mod Stands
pub mod AllowedNext
pub mod Takes
