pub mod Types
pub mod Descriptors
pub mod KeptRows
