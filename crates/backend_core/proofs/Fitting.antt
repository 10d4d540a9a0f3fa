-- What the choice keeps of a session.
pub mod Over
pub mod Rebuilding
pub mod OpenRelations
pub mod Entered
pub mod FitsOn
pub mod FitsEntries
pub mod Released
pub mod FitsEnds
pub mod Sought
