pub mod Exactly
pub mod Lists
pub mod Untouched
