pub mod IsMatched
