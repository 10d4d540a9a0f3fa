pub mod LeftLists
pub mod OwnParts
pub mod Places
pub mod PassingNumbers
