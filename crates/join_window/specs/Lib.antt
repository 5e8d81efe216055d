pub mod Window
pub mod Rows
