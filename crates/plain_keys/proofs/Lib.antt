mod Descent
pub mod Found
mod Heads
pub mod Owners
