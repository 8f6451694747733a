pub mod OnePassLaw
pub mod OnePassSteps
pub mod PlainRuns
pub mod Planning
pub mod Calls
