pub mod Put
pub mod Formed
pub mod Stated
pub mod Said
