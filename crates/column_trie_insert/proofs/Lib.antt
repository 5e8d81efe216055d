mod Grows
mod Rows
mod Enters
pub mod Inserts
