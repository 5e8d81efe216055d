pub mod Against
pub mod Steps
pub mod Then
pub mod Cursors
