pub mod Visits
pub mod Fewer
