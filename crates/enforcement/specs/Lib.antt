pub mod Settled
pub mod Asked
pub mod Enforced
pub mod Journalled
pub mod Tried
