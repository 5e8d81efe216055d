pub mod Remove
pub mod Shrink
