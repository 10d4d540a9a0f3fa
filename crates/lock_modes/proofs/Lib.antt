mod Changes
mod Marks
mod Filters
mod Conflicts
mod Room
mod Adding
mod Releasing
pub mod Excluding
