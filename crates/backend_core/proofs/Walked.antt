-- Steps that are noted, of which two are one.
pub mod AsFar
pub mod MadeEntries
pub mod OneStep
pub mod OneWalk
