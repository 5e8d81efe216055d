-- Checks has what a cursor is and what every call asks first; Inside what the functions here do.
pub mod Checks
pub mod Inside
