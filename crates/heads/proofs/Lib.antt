pub mod FieldLaws
pub mod FieldLoop
