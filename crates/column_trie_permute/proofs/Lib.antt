-- Columns, Distinct, Numbers and Rebuilt have what laws on a rebuild need: the permutation, the rows as a set, what an accepted call has. The others are steps of the
-- functions' proofs.
pub mod Columns
pub mod Distinct
pub mod Numbers
pub mod Outcomes
pub mod Rebuilt
mod Under
