mod Parts
pub mod Stands
mod Entered
pub mod MayFollow
mod Readers
