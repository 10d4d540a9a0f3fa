pub mod Types
pub mod Blocks
pub mod States
pub mod Transactions
