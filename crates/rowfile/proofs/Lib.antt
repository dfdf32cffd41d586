pub mod Parts
pub mod Held
pub mod Stored
pub mod Laid
pub mod Swapped
