pub mod Pieces
pub mod Tables
pub mod Fields
