pub mod Readers
pub mod Cleanups
pub mod Queues
pub mod Cleaning
pub mod Windows
pub mod WindowParts
pub mod RingParts
