pub mod Phases
pub mod Book
pub mod Shown
