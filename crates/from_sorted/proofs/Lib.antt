pub mod Answer
pub mod Given
pub mod Taken
pub mod Fill
pub mod Next
pub mod Ranges
mod Columns
mod Counts
mod Shared
mod Turns
