pub mod NameCells
pub mod NameKeys
pub mod NameKinds
pub mod NameList
pub mod Standing
pub mod Items
pub mod Rows
