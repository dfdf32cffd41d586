pub mod Next
pub mod Hex
pub mod Plain
pub mod Examples
