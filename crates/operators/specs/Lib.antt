pub mod Operands
pub mod Arithmetic
pub mod Classes
pub mod Operators
