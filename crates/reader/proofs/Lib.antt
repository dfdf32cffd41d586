pub mod Lacking
pub mod Stack
pub mod Moving
pub mod Ranks
pub mod Turning
pub mod Tally
pub mod Steps
pub mod Handed
