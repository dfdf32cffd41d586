pub mod Entries
pub mod Order
pub mod Common
