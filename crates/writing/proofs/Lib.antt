pub mod Puts
pub mod Rows
