pub mod Types
pub mod Lists
pub mod Starts
