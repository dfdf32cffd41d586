pub mod Index
pub mod Answers
pub mod Queries
pub mod Many
pub mod Meaning
pub mod Examples
