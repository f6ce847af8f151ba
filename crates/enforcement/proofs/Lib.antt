pub mod Trying
pub mod Counts
pub mod Journalling
