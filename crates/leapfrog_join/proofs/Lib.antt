pub mod Beginning
pub mod Laws
mod Stepping
pub mod Theorems
mod Worked
