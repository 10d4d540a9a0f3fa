mod FaultCounts
pub mod Gathering
mod MemoryReads
pub mod Sending
