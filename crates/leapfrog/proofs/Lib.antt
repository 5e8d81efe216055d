pub mod Steps
pub mod Good
pub mod Search
pub mod Onward
pub mod Begin
pub mod Walk
pub mod Start
mod Sorting
pub mod Listing
