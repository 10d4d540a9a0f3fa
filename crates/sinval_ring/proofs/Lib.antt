pub mod Sweeping
pub mod Numbers
pub mod Sound
pub mod Windows
pub mod Counting
pub mod Keeping
pub mod Signals
mod Rows
