pub mod Visiting
pub mod Shown
