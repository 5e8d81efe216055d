pub mod Order
pub mod Rising
