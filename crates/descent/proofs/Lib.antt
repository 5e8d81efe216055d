pub mod Walking
mod Counting
pub mod Root
