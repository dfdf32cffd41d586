pub mod Precedence
pub mod Giving
pub mod Permuting
pub mod Sinking
pub mod Rounds
