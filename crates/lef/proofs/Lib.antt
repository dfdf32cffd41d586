mod Wide
pub mod Apart
pub mod Named
mod Tokens
mod Numbered
