pub mod Targets
pub mod Ticks
pub mod Needed
