pub mod Query
pub mod Facts
pub mod Outcome
pub mod Checking
