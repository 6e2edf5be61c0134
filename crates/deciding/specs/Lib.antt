pub mod Decisions
pub mod Given
pub mod Labels
pub mod Listed
pub mod Matching
pub mod StatesListed
pub mod TermsListed
pub mod Valued
