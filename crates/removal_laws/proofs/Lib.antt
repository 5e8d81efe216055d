pub mod Exactly
pub mod Untouched
pub mod Laws
pub mod Kept
pub mod Pairs
