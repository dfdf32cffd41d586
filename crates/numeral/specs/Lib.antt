pub mod Numeral
pub mod Machine
pub mod Shortest
pub mod Laid
pub mod Stored
pub mod Numbers
pub mod Examples
