pub mod Groups
mod Linking
pub mod Told
mod Ways
