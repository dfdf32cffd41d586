pub mod Words
pub mod Steps
pub mod Marked
pub mod First
pub mod Trie
pub mod Lead
pub mod Turn
pub mod Values
pub mod Spelt
pub mod Masks
pub mod Hits
mod Sorted
mod Chunks
