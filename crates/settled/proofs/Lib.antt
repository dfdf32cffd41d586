pub mod Laws
pub mod Border
pub mod Calls
pub mod Parts
pub mod Records
pub mod Images
pub mod Refusals
