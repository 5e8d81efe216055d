pub mod After
pub mod Bounded
