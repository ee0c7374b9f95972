pub mod Accepted
pub mod Stepped
pub mod Falling
