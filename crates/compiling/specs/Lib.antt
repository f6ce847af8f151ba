pub mod Handed
pub mod Written
pub mod Copied
pub mod Compiled
pub mod Fitted
