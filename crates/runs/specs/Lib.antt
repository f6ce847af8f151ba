pub mod Requests
pub mod Pages
pub mod Law
