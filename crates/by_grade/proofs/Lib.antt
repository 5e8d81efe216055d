pub mod Ascend
