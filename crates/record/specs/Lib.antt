pub mod Bytes
pub mod Kinds
pub mod Made
pub mod Range
