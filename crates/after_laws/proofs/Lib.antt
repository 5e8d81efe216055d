pub mod Asked
pub mod Accepted
pub mod Call
pub mod Calls
pub mod Joins
pub mod Given
