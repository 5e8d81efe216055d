pub mod After
pub mod Bounded
pub mod Walk
pub mod Last
pub mod Outcome
pub mod Worked
pub mod Determined
