mod Places
mod Searching
pub mod First
pub mod Windows
