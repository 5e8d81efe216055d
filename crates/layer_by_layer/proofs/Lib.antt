mod Mixed
pub mod Changing
pub mod Leaves
pub mod Relays
