pub mod Pins
pub mod OfDescriptors
pub mod Homes
pub mod Putting
pub mod Unpinned
pub mod Texts
mod Catalogs
mod KeyedPuts
pub mod Letting
pub mod Executing
