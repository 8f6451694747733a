pub mod WrittenPass
pub mod WrittenLaw
pub mod WrittenRoom
pub mod WrittenAgain
pub mod WrittenLeft
