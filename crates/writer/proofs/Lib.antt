pub mod Ending
pub mod Taking
pub mod Writing
pub mod Stretching
pub mod Going
pub mod Answering
