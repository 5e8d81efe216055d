pub mod Grow
pub mod Relay
