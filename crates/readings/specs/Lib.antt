pub mod Table
pub mod Read
pub mod Outcome
pub mod Rows
