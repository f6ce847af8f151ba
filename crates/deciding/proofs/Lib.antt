pub mod Meaning
pub mod Adding
pub mod Spans
pub mod Closing
pub mod Answering
pub mod Reading
