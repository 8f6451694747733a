pub mod ReplayShown
pub mod ReplayLines
pub mod ReplayLaws
pub mod ReplayFirst
pub mod ReplayOne
