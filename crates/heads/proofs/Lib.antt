pub mod Accepted
pub mod Parameters
pub mod Stacking
pub mod Walking
pub mod Passing
pub mod Reaching
pub mod Remembering
pub mod Standing
pub mod Choosing
pub mod Resuming
pub mod Calling
pub mod Numbers
mod Lent
