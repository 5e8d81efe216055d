pub mod Checks
pub mod Known
pub mod Paths
pub mod Places
pub mod Walks
