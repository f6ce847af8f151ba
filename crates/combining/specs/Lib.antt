pub mod Decisions
pub mod Wording
pub mod Combined
pub mod Fewer
pub mod Table
pub mod Merging
