pub mod Meaning
pub mod Places
pub mod States
pub mod Limited
pub mod Transitions
pub mod Results
pub mod Pass
pub mod Eight
