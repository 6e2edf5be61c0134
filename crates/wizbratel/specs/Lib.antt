pub mod Tables
pub mod Promises
pub mod Determined
pub mod Written
pub mod Made
pub mod Printed
