pub mod Exactly
pub mod Bent
pub mod Words
pub mod Calls
pub mod Recorded
