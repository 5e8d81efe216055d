pub mod Ranks
mod Words
