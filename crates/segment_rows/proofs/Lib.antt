pub mod Mirrors
pub mod Messages
pub mod RowsAfter
mod ScanChanges
mod Answers
pub mod FreeNames
mod SeenAfter
pub mod CoverTests
pub mod Kept
