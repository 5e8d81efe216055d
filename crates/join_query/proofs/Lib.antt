pub mod Lists
pub mod Whole
pub mod Accepted
pub mod Keys
pub mod Outcome
pub mod Exactly
