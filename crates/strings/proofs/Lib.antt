pub mod CallLaws
pub mod RowCalls
pub mod One
pub mod NamedCalls
