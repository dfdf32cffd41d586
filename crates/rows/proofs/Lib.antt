pub mod Laws
pub mod Unpack
pub mod Ranges
pub mod Begun
