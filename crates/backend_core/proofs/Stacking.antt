-- Laws of the rebuilds that are on their way.
pub mod Among
pub mod Lacking
pub mod Stacks
pub mod Messages
pub mod Rests
pub mod Scanned
pub mod Looked
pub mod Least
pub mod OfRelation
