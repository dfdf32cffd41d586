mod Bytes
mod Scanning
mod Covering
pub mod Laying
pub mod Following
mod Windowing
pub mod Judging
