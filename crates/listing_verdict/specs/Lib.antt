pub mod Verdict
pub mod Checked
pub mod Facts
