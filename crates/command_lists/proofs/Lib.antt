mod Order
mod Ranges
mod Parts
mod Registering
mod Aborting
pub mod Writes
pub mod WriteRegistered
pub mod Having
