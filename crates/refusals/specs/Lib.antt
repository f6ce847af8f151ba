pub mod Causes
pub mod Limits
pub mod Places
pub mod Results
