pub mod Check
pub mod Known
pub mod Place
