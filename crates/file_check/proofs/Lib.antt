pub mod Same
pub mod Checks
pub mod Counts
pub mod Heads
pub mod Compares
pub mod Whole
