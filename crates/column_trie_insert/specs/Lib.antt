pub mod Grow
pub mod Insert
