pub mod Members
pub mod Sorting
pub mod Heap
pub mod Runs
pub mod Fronts
pub mod Totals
pub mod Differing
