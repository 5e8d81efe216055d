-- Groups, Places and Owners are steps of the functions' proofs; Rests is for the calls, which answer from what is left. Determined has a law of its own.
pub mod Determined
pub mod Groups
pub mod Owners
pub mod Places
pub mod Rests
