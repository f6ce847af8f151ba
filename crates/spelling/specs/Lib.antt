pub mod Cuts
pub mod Fields
pub mod Numbers
pub mod Words
pub mod Cells
pub mod Algorithms
