pub mod First
pub mod Force
pub mod Name
pub mod Chain
pub mod Samples
