pub mod Known
pub mod Kept
pub mod Room
pub mod Answer
