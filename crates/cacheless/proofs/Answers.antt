-- What a command answers.
pub mod ReadPlaces
pub mod ToldFields
pub mod ToldAnswers
pub mod ServingScans
pub mod PlacesTold
pub mod JudgedLines
pub mod OpenedReads
pub mod ToldAlike
pub mod KeptTells
pub mod Telling
pub mod KeptReads
