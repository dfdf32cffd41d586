pub mod Words
pub mod Lookup
pub mod Codes
pub mod Examples
pub mod Spelling
pub mod Letters
