-- How far a command is, by what its acts gave.
pub mod Ways
pub mod EffectAlong
pub mod MadeAlong
pub mod UnderLocks
pub mod Formers
pub mod CountedRows
pub mod FurtherOrder
pub mod ActOrder
pub mod StillUnder
pub mod ClearLocks
pub mod Given
pub mod AfterActs
pub mod CommandUnder
pub mod ToldHeld
pub mod SilentActs
