pub mod Truth
pub mod Table
pub mod Members
pub mod Bounds
pub mod Lowest
pub mod Isolate
pub mod Tags
pub mod Waking
