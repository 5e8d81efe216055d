pub mod Held
pub mod Laws
pub mod Moving
pub mod Standing
