pub mod Types
pub mod Store
pub mod Places
pub mod Numbers
pub mod Slots
pub mod Index
pub mod Given
