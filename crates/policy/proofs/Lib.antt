pub mod Named
pub mod Laws
pub mod Complete
pub mod LineLaws
pub mod Turns
pub mod Families
