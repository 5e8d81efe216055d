pub mod Lists
pub mod Lent
