pub mod TermsListed
pub mod StatesListed
pub mod Listed
pub mod Accepted
pub mod Given
