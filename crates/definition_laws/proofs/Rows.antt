pub mod SignLaws
pub mod SpecLaws
pub mod FieldRows
pub mod SpecRows
