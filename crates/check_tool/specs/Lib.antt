pub mod Types
pub mod Leading
pub mod Reached
pub mod Verdicts
pub mod Turning
