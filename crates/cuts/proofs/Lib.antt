pub mod OnePassLaw
pub mod OnePassSteps
pub mod PlainRuns
pub mod Checking
pub mod Octals
pub mod Walking
