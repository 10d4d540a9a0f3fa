pub mod NotedWalks
pub mod ScheduleSteps
pub mod OneAfterAnother
pub mod Leaving
pub mod Following
pub mod Walks
