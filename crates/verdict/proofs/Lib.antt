pub mod Laws
pub mod Bridge
pub mod Counts
pub mod Read
pub mod Cases
pub mod Orders
pub mod Judged
pub mod Theorems
