pub mod Expressions
pub mod Duties
pub mod Policies
pub mod Parts
pub mod Known
pub mod AllVisited
pub mod Final
pub mod Examples
