pub mod Chained
pub mod Params
pub mod Known
pub mod AtPlaces
pub mod Whole
pub mod Seventeen
pub mod WatchLaws
pub mod Tokened
