pub mod Places
pub mod Blocks
pub mod Items
