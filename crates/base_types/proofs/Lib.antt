pub mod Added
pub mod Padding
pub mod Names
pub mod Joining
pub mod DroppedNumbers
pub mod SameScan
pub mod ScanOrder
pub mod InLine
