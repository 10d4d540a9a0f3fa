pub mod Allowed
pub mod Queue
pub mod Refused
