pub mod Grown
pub mod Count
pub mod Bridge
pub mod Greedy
pub mod Final
