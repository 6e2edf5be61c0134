pub mod FewestBrackets
pub mod TextFits
