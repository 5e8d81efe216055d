pub mod Groups
pub mod Kept
pub mod Limits
pub mod Pool
pub mod Table
