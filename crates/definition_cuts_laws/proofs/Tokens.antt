pub mod TokenSteps
pub mod TokenWindow
pub mod TokenPaths
pub mod FormedPaths
pub mod TokenMarks
pub mod PieceLaws
