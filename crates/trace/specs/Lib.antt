pub mod Words
pub mod Lines
pub mod Output
pub mod Groups
pub mod Chunks
