pub mod Defined
mod Going
pub mod Parts
pub mod Runs
