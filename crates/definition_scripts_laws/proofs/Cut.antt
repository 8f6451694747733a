pub mod CutLaws
pub mod CutOnce
pub mod CutSteps
pub mod RunInCut
pub mod PartLaws
pub mod CutListLaws
