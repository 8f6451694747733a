pub mod Walking
pub mod Items
