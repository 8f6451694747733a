pub mod FormedLaws
pub mod AsideLaws
pub mod LentAgain
pub mod ReadFormed
