-- TrieIterator is the paper's; Cursor says what a cursor answers and when it stands where the paper's iterator does.
pub mod TrieIterator
pub mod Cursor
