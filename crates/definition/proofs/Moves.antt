pub mod CharLaws
