pub mod Call
pub mod Calls
pub mod Agree
