-- Steps of the functions' proofs; the crates above cite those that are `pub`.
mod Answers
mod Opens
pub mod Rises
pub mod Seeks
