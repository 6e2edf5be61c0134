pub mod SortNames
pub mod Named
