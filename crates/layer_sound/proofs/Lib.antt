mod Counting
mod Counts
