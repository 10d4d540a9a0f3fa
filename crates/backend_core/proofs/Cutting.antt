pub mod Scripts
pub mod Sessions
pub mod Parts
pub mod LinesAlike
pub mod StandsAlike
pub mod Before
pub mod Halting
