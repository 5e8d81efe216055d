pub mod Leaves
pub mod Build
pub mod Back
pub mod Exactly
pub mod Kept
