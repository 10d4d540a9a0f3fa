pub mod Sessions
pub mod NewBackends
