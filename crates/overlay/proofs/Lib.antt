pub mod Merge
pub mod Stretch
pub mod Cutting
pub mod Laid
mod Worked
