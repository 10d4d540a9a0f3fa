pub mod InLine
pub mod Parts
