pub mod Bounding
