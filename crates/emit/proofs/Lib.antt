pub mod Putting
pub mod Copied
pub mod SignatureLaws
pub mod Signed
