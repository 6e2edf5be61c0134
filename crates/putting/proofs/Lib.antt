pub mod Bytes
pub mod Opening
pub mod PutLaws
pub mod Several
pub mod Options
pub mod OneByte
