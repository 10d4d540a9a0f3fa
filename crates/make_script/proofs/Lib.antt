pub mod Digits
pub mod InRange
pub mod Worked
pub mod Commented
