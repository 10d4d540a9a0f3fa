pub mod Named
pub mod Descriptors
pub mod Caches
