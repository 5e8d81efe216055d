-- What the public calls answer.
pub mod Cursor
