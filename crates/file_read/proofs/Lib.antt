pub mod Numbers
pub mod Outcomes
mod Grades
pub mod Strict
