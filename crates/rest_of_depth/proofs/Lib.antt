pub mod Keys
pub mod Resting
