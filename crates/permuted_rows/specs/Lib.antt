pub mod Permuted
pub mod Legible
pub mod Packed
pub mod Seen
