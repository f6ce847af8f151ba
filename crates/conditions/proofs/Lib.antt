pub mod Growing
pub mod Spreading
pub mod Numbers
pub mod Limiting
pub mod Small
pub mod Results
