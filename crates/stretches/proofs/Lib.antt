pub mod Taking
pub mod Carrying
pub mod Pieces
pub mod Pausing
pub mod Calling
pub mod Owning
pub mod Laws
