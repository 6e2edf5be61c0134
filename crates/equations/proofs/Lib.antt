pub mod EachRow
pub mod Equations
pub mod Start
