pub mod Digits
pub mod Exact
mod Fold
pub mod Parts
pub mod Short
pub mod Round
pub mod Good
pub mod Word
pub mod Room
pub mod Least
