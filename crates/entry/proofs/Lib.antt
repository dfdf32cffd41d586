pub mod Laws
pub mod Held
mod Common
pub mod Names
pub mod Ordered
