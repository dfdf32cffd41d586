pub mod Answered
pub mod Open
pub mod Stepped
pub mod Passed
pub mod Samples
