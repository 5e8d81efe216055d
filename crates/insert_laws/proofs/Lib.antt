pub mod Exactly
pub mod Kept
pub mod Laws
pub mod Untouched
