pub mod Back
pub mod Cells
pub mod Cuts
pub mod Digits
pub mod Forward
pub mod Inversions
