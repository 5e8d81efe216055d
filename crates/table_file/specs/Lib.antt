pub mod Bytes
pub mod File
pub mod Places
