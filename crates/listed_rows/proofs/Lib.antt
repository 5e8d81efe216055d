mod Tested
pub mod Reading
