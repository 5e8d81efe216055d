pub mod Numbers
pub mod Fields
pub mod Laws
pub mod Places
pub mod Worked
