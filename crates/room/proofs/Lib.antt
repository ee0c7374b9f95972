pub mod Offsets
pub mod Lent
pub mod Items
