pub mod Parts
pub mod Rows
pub mod OneRow
pub mod Left
