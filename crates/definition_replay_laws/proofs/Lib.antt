pub mod Spec
pub mod Integers
pub mod Trace
pub mod Replay
