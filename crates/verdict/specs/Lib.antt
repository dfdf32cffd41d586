pub mod Verdict
pub mod Meaning
pub mod Facts
pub mod Examples
