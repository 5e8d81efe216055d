pub mod Zip
pub mod Longer
