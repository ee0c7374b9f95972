pub mod Bytes
pub mod Words
pub mod Fields
pub mod Chunks
pub mod Behind
