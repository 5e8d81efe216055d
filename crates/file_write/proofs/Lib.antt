pub mod Heads
pub mod Files
