pub mod Runs
pub mod Forward
pub mod Items
pub mod Told
pub mod ListRoom
pub mod Equal
pub mod Readings
