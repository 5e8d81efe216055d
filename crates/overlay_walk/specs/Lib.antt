pub mod Pair
pub mod Walk
