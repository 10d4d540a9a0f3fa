mod Alterations
mod ByOid
mod Dependents
mod Examples
mod LatestOpen
mod Listing
mod Reading
mod Repeated
mod Tables
pub mod Replays
pub mod Within
pub mod Wanting
pub mod Driven
pub mod Giving
