pub mod Filled
pub mod Options
pub mod Short
pub mod Sets
