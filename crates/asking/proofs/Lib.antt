pub mod Stepping
pub mod EncodingLaws
pub mod SortLaws
pub mod InTurn
