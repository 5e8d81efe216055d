pub mod Rest
mod Shrinks
mod Cuts
mod Enters
pub mod Removes
