-- Own says what a cursor's answers depend on.
pub mod Own
