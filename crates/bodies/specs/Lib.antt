pub mod Emit
pub mod Sinks
pub mod Rows
pub mod Fstring
pub mod Lists
pub mod FieldEnds
