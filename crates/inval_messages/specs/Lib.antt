pub mod Types
pub mod Messages
pub mod Changes
pub mod Lists
