pub mod Own
pub mod Exactly
