mod Fields
pub mod Rows
mod Copies
