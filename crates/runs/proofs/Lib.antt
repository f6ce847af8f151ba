pub mod Conforming
pub mod Turning
pub mod Growing
pub mod Laws
