pub mod Determined
pub mod Exactly
pub mod Kept
pub mod Leaves
pub mod Own
pub mod Sorted
pub mod Untouched
