mod Alike
pub mod Theorems
