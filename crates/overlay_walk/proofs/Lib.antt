pub mod Pair
pub mod Leads
pub mod Plain
pub mod States
pub mod Walking
pub mod Laws
pub mod Reached
pub mod Cuts
pub mod Decides
pub mod Hits
pub mod Exactly
mod Worked
