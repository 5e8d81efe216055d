pub mod Columns
pub mod Plain
pub mod Rest
