pub mod Write
pub mod Head
