pub mod ShapeLaws
pub mod AloneLaws
pub mod OctalLaws
pub mod OctalCuts
pub mod CutsLaw
pub mod BoundaryLaw
pub mod NumberLaw
