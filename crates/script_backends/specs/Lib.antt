pub mod Sessions
pub mod Standing
