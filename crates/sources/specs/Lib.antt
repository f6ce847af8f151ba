pub mod Sensors
pub mod Before
