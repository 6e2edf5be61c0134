pub mod Fronts
pub mod Loading
pub mod Answering
pub mod Readiness
pub mod Lending
pub mod OneQuestion
