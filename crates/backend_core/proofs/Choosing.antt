-- What comes next.
pub mod ByChoice
pub mod Nexting
pub mod NextActs
pub mod Chosen
pub mod TakenBack
pub mod Running
pub mod Sound
