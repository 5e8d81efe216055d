pub mod Worked
pub mod Fails
pub mod Told
pub mod Lacks
pub mod Differs
