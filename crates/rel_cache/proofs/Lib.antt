pub mod Agreeing
pub mod Calls
pub mod Messages
pub mod Whole
