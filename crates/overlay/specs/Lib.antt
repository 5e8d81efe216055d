-- Merge: two runs of keys as one. Laid: the rows that count.
pub mod Merge
pub mod Laid
