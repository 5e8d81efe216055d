pub mod Permute
