pub mod Theorems
pub mod Exactly
