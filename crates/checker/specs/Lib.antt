pub mod Windows
pub mod Covered
pub mod Passing
