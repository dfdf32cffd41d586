pub mod Penned
pub mod Told
