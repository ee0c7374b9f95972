pub mod Needs
pub mod Spots
pub mod Taken
pub mod Update
pub mod Blocks
pub mod Effects
pub mod Finish
pub mod Step
