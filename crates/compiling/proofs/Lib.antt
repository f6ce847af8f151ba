pub mod Sound
pub mod Naming
pub mod Deciding
pub mod Saying
pub mod Agreeing
