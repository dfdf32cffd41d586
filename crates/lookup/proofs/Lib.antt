pub mod First
pub mod Force
mod Best
pub mod Owned
pub mod Answers
mod Search
mod Steps
