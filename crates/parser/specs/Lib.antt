pub mod Code
pub mod Kept
pub mod Drafts
pub mod Stepped
