pub mod Found
pub mod Laws
pub mod Exactly
mod Worked
