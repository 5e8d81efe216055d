pub mod Trying
mod Joining
pub mod Determined
