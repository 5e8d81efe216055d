pub mod Owners
pub mod Paths
pub mod Moves
pub mod Keys
