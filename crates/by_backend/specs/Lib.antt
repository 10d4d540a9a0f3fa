pub mod OwnCommands
pub mod Copies
