pub mod Determined
pub mod Exactly
pub mod Kept
pub mod Leaves
pub mod Untouched
pub mod WriteExactly
pub mod Written
pub mod Both
