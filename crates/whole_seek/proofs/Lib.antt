pub mod One
pub mod Ring
